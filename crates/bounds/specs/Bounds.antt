-- The bounds of the search: below them no cell is a leaf, none is named by a ring step. Inner contracts cite this.
use Rattle.std.specs.Prelude.{◌≡◌, ℕ, ◌≤◌, ◌<◌}
use Rattle.std.proofs.Math.Option.{some}
use Rattle.matching.specs.Pairs.{Points}
use Rattle.matching.specs.Graph.{Graph}
use Rattle.matching.specs.Steps.{Rule, by_ring, Step, name, apply}
use Rattle.matching.specs.Shapes.{IsStep}
use Rattle.finding.specs.declared.Step as declared
use Rattle.finding.specs.Finding.{to_tell, told, Quiet, RingQuiet}

-- r is not above `low`, u and any partner of u.
pub record Near (w : Points) (u low r : ℕ) : Type 0 where
  pub most : r ≤ low
  pub cell : r ≤ u
  pub apart : (c : ℕ) → c < r → w c u ≡ 0

-- No cell below r has degree one after the step, where none below `low` has before it.
abbrev pub Quieted : Points → declared.Step → ℕ → ℕ → Type 0
Quieted w x low r =
    (s : Step) → told x ≡ to_tell (some s) → (q : Rule × ℕ) → IsStep 1024 w q.0 q.1 s → Graph 1024 w
    → Quiet low w → Quiet r (apply w s)

-- Where the step is a ring's, no ring step is named by a lower cell than it.
abbrev pub LowestRing : Points → Step → Type 0
LowestRing w s = (name s).0 ≡ by_ring → (c : ℕ) (t : Step) → IsStep 1024 w by_ring c t → (name s).1 ≤ c

-- No ring step is named by a cell below r after the step, where none is below `low` before it.
abbrev pub RingQuieted : Points → declared.Step → ℕ → ℕ → Type 0
RingQuieted w x low r =
    (s : Step) → told x ≡ to_tell (some s) → (q : Rule × ℕ) → IsStep 1024 w q.0 q.1 s → Graph 1024 w
    → LowestRing w s → RingQuiet low w → RingQuiet r (apply w s)
