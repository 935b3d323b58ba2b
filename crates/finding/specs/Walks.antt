-- Walking over cells of degree two. Inner contracts cite this.
use Rattle.std.specs.Prelude.{◌≡◌, List, [], ℕ, zero, suc, ◌<◌, ltb}
use Rattle.matching.specs.Pairs.{Points}
use Rattle.matching.specs.Graph.{partners}
use Rattle.matching.specs.Shapes.{last}
use Rattle.matching.specs.Find.{ReadRow, onward}
use Rattle.slots.specs.Slots.{Joins}
use Rattle.slots.specs.Found.{Next}
use Rattle.finding.specs.declared.Stop.{Stop}

-- The cells of degree two from `from` at the cell `at` on that are not below `low`, and the cell behind them.
unfoldable pub stretch : ℕ → (ℕ → List ℕ) → ℕ → ℕ → ℕ → ReadRow
stretch zero ps low from at = ([], at)
stretch (suc k) ps low from at = onward (ltb at low) (ps at) from at (λ next. stretch k ps low at next)

abbrev pub stretch_at : Points → ℕ → ℕ → ℕ → ReadRow
stretch_at w low from at = stretch 1024 (partners 1024 w) low from at

-- The stop b is one cell on from a.
pub record Onward (e : ℕ) (w1 : List ℕ) (a b : Stop) : Type 0 where
  pub last : b.last ≡ a.end
  pub next : Next e w1 a.end a.last (record { partner = b.end; slot = b.slot })

-- Where the walk ends, the cell before, and the slot that joins the two.
pub record Stops (e : ℕ) (w1 : List ℕ) (from : ℕ) (r : ReadRow) (s : Stop) : Type 0 where
  pub end : s.end ≡ r.1
  pub last : s.last ≡ last from r.0
  pub joins : Joins e w1 s.slot s.last s.end
  pub below : s.end < 1024
