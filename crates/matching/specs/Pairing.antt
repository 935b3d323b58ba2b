-- A pairing (matching) of a list or graph: 'a set of its pairs in which no cell stands twice, the empty set too'.
use Rattle.std.specs.Prelude.{◌≡◌, ◌⊎◌, Bool, cond, ◌&&◌, List, [], ◌∷◌, ℕ, suc, ◌≤◌, ◌<◌, eqb, ltb}
use Rattle.matching.specs.Lists.{all, distinct}
use Rattle.matching.specs.Pairs.{Pair, Points, sum, Each, hit}

-- No cell stands twice.
abbrev pub Once : List Pair → Type 0
Once m = (c : ℕ) → sum (hit c) m ≤ 1

-- A pairing of the pairs that `there` counts: of a graph, the pairs above zero points.
pub record Pairing (there : Points) (m : List Pair) : Type 0 where
  pub held : Each (λ a b. 0 < there a b) m
  pub once : Once m

-- 'It is heaviest if it has at least as many points as every other pairing of the same list or graph.' Of a graph w,
-- `Heaviest w w`; of a list, what its entries join and the points that they give.
pub record Heaviest (there w : Points) (m : List Pair) : Type 0 where
  pub pairing : Pairing there m
  pub most : (k : List Pair) → Pairing there k → sum w k ≤ sum w m

-- What f says of the partner of the cell c in the pair a, b: 0 where the pair does not touch c.
unfoldable pub seen : (ℕ → ℕ) → ℕ → Points
seen f c a b = cond (eqb a c) (f b) (cond (eqb b c) (f a) 0)

-- The partner of a cell: 0 where it has none, else the partner's number and 1.
abbrev pub partner : ℕ → List Pair → ℕ
partner c m = sum (seen suc c) m

-- Of two pairings s comes first, or they have the same partners. 'Look at the lowest cell whose partner differs:
-- unpaired comes first, then the lower partner.'
abbrev pub First : List Pair → List Pair → Type 0
First s m =
    ((d : ℕ) → partner d s ≡ partner d m)
    ⊎ ((c : ℕ) × ((d : ℕ) → d < c → partner d s ≡ partner d m) × (partner c s < partner c m))

-- The cells of the pairs, one after the other.
abbrev pub cells : List Pair → List ℕ
cells [] = []
cells (e ∷ m) = e.0 ∷ e.1 ∷ cells m

-- What a pairing is, as a test.
unfoldable pub is_pairing : Points → List Pair → Bool
is_pairing there m = distinct (cells m) && all (λ (e : Pair). ltb 0 (there e.0 e.1)) m
