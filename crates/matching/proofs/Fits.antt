-- What the exactness of a step rests on: a leaf with its one pair, and a row of inner cells whose pairs are all in the
-- row. Each step that is found fits (proofs/Find), and a step that fits is exact (proofs/Exact).
use mathlib.Core.Path.{◌≡◌}
use mathlib.Core.Logic.{◌≢◌}
use mathlib.Core.Bool.{true, false}
use mathlib.Core.List.{List, [], ◌∷◌}
use Prim.Native.Nat.{ℕ, ◌<◌}
use lib.ListN.{length}
use Rattle.matching.specs.Lists.{mem, distinct}
use Rattle.matching.specs.Pairs.{Points, Each}
use Rattle.matching.specs.Best.{walk}
use Rattle.matching.specs.Steps.{Step, leaf, ring, chain, apply}
use Rattle.matching.proofs.Sums.{In}

-- Two or more inner cells between u and v, no two the same: every pair of an inner cell is in the row.
pub record Segment (w : Points) (u : ℕ) (inner : List ℕ) (v : ℕ) : Type 0 where
  pub closed : (a b : ℕ) → mem a inner ≡ true → 0 < w a b → In (walk u inner v) a b
  pub live : Each (λ a b. 0 < w a b) (walk u inner v)
  pub apart : distinct inner ≡ true
  pub first_off : mem u inner ≡ false
  pub last_off : mem v inner ≡ false
  pub more : 1 < length inner

pub record FitsLeaf (w : Points) (u v : ℕ) : Type 0 where
  pub apart : u ≢ v
  pub pair : 0 < w u v
  pub alone : (c : ℕ) → c ≢ u → w v c ≡ 0

abbrev pub Fits : Points → Step → Type 0
Fits w (leaf u v) = FitsLeaf w u v
Fits w (ring u z inner) = Segment w u inner u × (mem z inner ≡ true)
Fits w (chain u v z inner) = Segment w u inner v × (mem z inner ≡ true) × (u ≢ v)

-- Each step fits the graph that the steps before it left.
abbrev pub Stands : Points → List Step → Type 0
Stands w [] = Unit {0}
Stands w (s ∷ ss) = Fits w s × Stands (apply w s) ss
