-- The connected groups (components) of a graph. 'The groups are solved one by one, and the joined pairing is the
-- heaviest of the whole, with the same choice among equals as before': it is the solution (law: `groups_solved`,
-- proofs/Groups).
use Rattle.std.specs.Prelude.{Bool, false, ◌&&◌, ◌||◌, List, [], ◌∷◌, ◌++◌, map, ℕ, zero, suc, max, eqb, ltb, length}
use Rattle.matching.specs.Lists.{any, mem}
use Rattle.matching.specs.Pairs.{Pair, Points}
use Rattle.matching.specs.Graph.{degree}
use Rattle.matching.specs.Solve.{cells_where, with_pairs, solve}

-- The cells below n that are among some cells or paired with one of them.
abbrev pub around : ℕ → Points → List ℕ → List ℕ
around n w cs = cells_where n (λ b. mem b cs || any (λ a. ltb 0 (w a b)) cs)

-- The cells reached from c over at most k pairs, ascending.
unfoldable pub reached : ℕ → Points → ℕ → ℕ → List ℕ
reached n w c zero = c ∷ []
reached n w c (suc k) = around n w (reached n w c k)

-- The connected group of a cell. No way over the cells needs more pairs than there are cells (law: proofs/Reached).
abbrev pub group : ℕ → Points → ℕ → List ℕ
group n w c = reached n w c n

-- How many cells the largest group of a cell that has pairs has; 0 where none has.
abbrev pub greatest : List ℕ → ℕ
greatest [] = 0
greatest (x ∷ xs) = max x (greatest xs)

unfoldable pub largest : ℕ → Points → ℕ
largest n w = greatest (map (λ c. length (group n w c)) (with_pairs n w))

-- The groups of the cells that have pairs, each once: that of each such cell which is the lowest of its group.
abbrev pub leads : List ℕ → ℕ → Bool
leads [] c = false
leads (x ∷ xs) c = eqb x c

abbrev pub groups : ℕ → Points → List (List ℕ)
groups n w = map (group n w) (cells_where n (λ c. ltb 0 (degree n w c) && leads (group n w c) c))

-- Sets of cells solved one by one and joined.
abbrev pub solve_each : Points → List (List ℕ) → List Pair
solve_each w [] = []
solve_each w (cs ∷ css) = solve (length cs) w cs ++ solve_each w css
