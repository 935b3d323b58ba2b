-- The working graph, by the points of each two cells: 0 where there is no pair, so that zero pairs and cells without
-- pairs are gone by themselves (Reduction Rule 2.3).
use Rattle.std.specs.Prelude.{◌≡◌, cond, ◌||◌, List, [], ◌∷◌, ◌++◌, ℕ, zero, suc, ◌+◌, ◌≤◌, ltb, length}
use Rattle.matching.specs.Lists.{mem}
use Rattle.matching.specs.Pairs.{Points, ι, same}

-- A graph on n cells: the order of two cells does not matter, no cell has a pair with itself.
pub record Graph (n : ℕ) (w : Points) : Type 0 where
  pub turned : (a b : ℕ) → w a b ≡ w b a
  pub loop : (a : ℕ) → w a a ≡ 0
  pub top : (a b : ℕ) → n ≤ b → w a b ≡ 0

-- The cells below n that have a pair with c, ascending. 'Degree is the number of pairs a cell still has.'
unfoldable pub partners : ℕ → Points → ℕ → List ℕ
partners zero w c = []
partners (suc n) w c = partners n w c ++ cond (ltb 0 (w c n)) (n ∷ []) []

abbrev pub degree : ℕ → Points → ℕ → ℕ
degree n w c = length (partners n w c)

-- How many of the cells below k have a pair; 'cells have pairs left'.
unfoldable pub paired : ℕ → Points → ℕ → ℕ
paired n w zero = 0
paired n w (suc k) = paired n w k + ι (ltb 0 (degree n w k))

abbrev pub cells_left : ℕ → Points → ℕ
cells_left n w = paired n w n

-- The graph with points k at the pair x, y; the graph without the pairs of some cells.
unfoldable pub put : ℕ → ℕ → ℕ → Points → Points
put x y k w a b = cond (same x y a b) k (w a b)

unfoldable pub dropped : List ℕ → Points → Points
dropped cs w a b = cond (mem a cs || mem b cs) 0 (w a b)
