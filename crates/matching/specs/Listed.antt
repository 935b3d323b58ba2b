-- A list of pairs with points, what it says of two cells, and what is written of a graph and of a pairing.
use Rattle.std.specs.Prelude.{◌≡◌, ◌⊎◌, cond, ◌&&◌, List, [], ◌∷◌, ◌++◌, ℕ, zero, suc, ◌+◌, ◌<◌, min, max, ltb}
use Rattle.matching.specs.Lists.{All}
use Rattle.matching.specs.Pairs.{Pair, Points, ι, sum, same}

-- An entry: its two cells and their points.
abbrev pub Entry : Type 0
Entry = ℕ × ℕ × ℕ

-- An accepted list of n cells: in each entry a < b < n, the entries strictly ascending by (a, b).
abbrev pub Before : Entry → Entry → Type 0
Before e f = (e.0 < f.0) ⊎ ((e.0 ≡ f.0) × (e.1 < f.1))

abbrev pub Accepted : ℕ → List Entry → Type 0
Accepted n [] = Unit {0}
Accepted n (e ∷ es) = ((e.0 < e.1) × (e.1 < n)) × (All (Before e) es × Accepted n es)

-- All the points of a list.
abbrev pub total : List Entry → ℕ
total [] = 0
total (e ∷ es) = e.2 + total es

-- How many entries join the two cells. An accepted list has one for each of its pairs, of zero points too.
unfoldable pub joined : List Entry → Points
joined [] a b = 0
joined (e ∷ es) a b = ι (same e.0 e.1 a b) + joined es a b

-- The points that the list gives the two cells, 0 where no entry joins them: the list's working graph.
unfoldable pub listed : List Entry → Points
listed [] a b = 0
listed (e ∷ es) a b = cond (same e.0 e.1 a b) e.2 0 + listed es a b

-- 'Its points are the sum of its pairs' points there.'
abbrev pub points : List Entry → List Pair → ℕ
points es m = sum (listed es) m

-- The short list of a graph of n cells: its pairs with their points, ascending by (a, b). Those with the lower cell a,
-- and those with the lower cell below k.
abbrev pub short_at : Points → ℕ → ℕ → List Entry
short_at w a zero = []
short_at w a (suc b) = short_at w a b ++ cond (ltb a b && ltb 0 (w a b)) ((a, b, w a b) ∷ []) []

abbrev pub short_below : ℕ → Points → ℕ → List Entry
short_below n w zero = []
short_below n w (suc a) = short_below n w a ++ short_at w a n

abbrev pub short_list : ℕ → Points → List Entry
short_list n w = short_below n w n

-- A pairing as its file has it: the lower cell first, ascending.
abbrev pub filed_in : Pair → List Pair → List Pair
filed_in e [] = e ∷ []
filed_in e (f ∷ m) = cond (ltb e.0 f.0) (e ∷ f ∷ m) (f ∷ filed_in e m)

abbrev pub filed : List Pair → List Pair
filed [] = []
filed (e ∷ m) = filed_in (min e.0 e.1, max e.0 e.1) (filed m)
