-- Pairs of cells (edges of a graph), and sums over lists of them.
use Rattle.std.specs.Prelude.{Bool, true, false, not, cond, ◌&&◌, ◌||◌, List, [], ◌∷◌, ℕ, ◌+◌, eqb, ltb}

-- Two cells.
abbrev pub Pair : Type 0
Pair = ℕ × ℕ

-- A number for each two cells: the points (weights) of a graph, or a count.
abbrev pub Points : Type 0
Points = ℕ → ℕ → ℕ

-- 1 where the test passes, else 0.
abbrev pub ι : Bool → ℕ
ι true = 1
ι false = 0

-- The sum over a list of pairs.
abbrev pub sum : Points → List Pair → ℕ
sum f [] = 0
sum f (e ∷ m) = f e.0 e.1 + sum f m

-- Every pair of the list is as P says.
abbrev pub Each : (ℕ → ℕ → Type 0) → List Pair → Type 0
Each P [] = Unit {0}
Each P (e ∷ m) = P e.0 e.1 × Each P m

-- The pairs that pass the test.
abbrev pub keep : (ℕ → ℕ → Bool) → List Pair → List Pair
keep t [] = []
keep t (e ∷ m) = cond (t e.0 e.1) (e ∷ keep t m) (keep t m)

-- Whether one of a, b is the cell c, and how many of them are.
abbrev pub touches : ℕ → ℕ → ℕ → Bool
touches c a b = eqb a c || eqb b c

unfoldable pub hit : ℕ → Points
hit c a b = ι (eqb a c) + ι (eqb b c)

-- Whether a, b are the cells x, y, in either order; the same as a count.
abbrev pub same : ℕ → ℕ → ℕ → ℕ → Bool
same x y a b = (eqb a x && eqb b y) || (eqb a y && eqb b x)

unfoldable pub like : ℕ → ℕ → Points
like x y a b = ι (same x y a b)

-- The pairs but x, y.
abbrev pub without : ℕ → ℕ → List Pair → List Pair
without x y m = keep (λ a b. not (same x y a b)) m

-- Whether the pairs hold the pair x, y; whether they leave the cell c unpaired.
abbrev pub held : ℕ → ℕ → List Pair → Bool
held x y m = ltb 0 (sum (like x y) m)

abbrev pub free : ℕ → List Pair → Bool
free c m = eqb (sum (hit c) m) 0
