-- Entering a pairing in its parts: pairs that the graph does not have, the table emptied and filled. Inner contracts
-- cite this. Nobody has to believe these: laws tie them to refusal 10.
use Rattle.std.specs.Prelude.{◌≡◌, Bool, not, false, List, ℕ, ◌+◌, ◌<◌, ltb, get_or}
use Rattle.buffers.specs.Map.{at_table}
use Rattle.matching.specs.Lists.{all, distinct}
use Rattle.matching.specs.Pairs.{Pair, Points}
use Rattle.matching.specs.Pairing.{cells}
use Rattle.matching.specs.Origin.{all_short}
use Rattle.partners.specs.Table.{Mates, TableOnly}

-- Whether the graph has all the pairs.
abbrev pub all_there : Points → List Pair → Bool
all_there w m = all (λ (e : Pair). ltb 0 (w e.0 e.1)) m

-- No cell has a partner in the table.
abbrev pub Empty : List ℕ → Type 0
Empty w2 = (c : ℕ) → c < 1024 → get_or w2 (at_table + c) 0 ≡ 0

-- The pairs entered in an empty table: whether a cell stands twice, and the partners where none does.
pub record Filled (m : List Pair) (w2 w2' : List ℕ) (twice : Bool) : Type 0 where
  pub answer : twice ≡ not (distinct (cells m))
  pub mates : twice ≡ false → Mates w2' all_short m
  pub aside : TableOnly w2 w2'
