-- Solving: 'a heaviest pairing of the remaining graph. Of equals, look at the lowest cell whose partner differs:
-- unpaired comes first, then the lower partner.' That is the best of the graph's pairs read by the lower cell ascending
-- and, for one lower cell, by the other cell descending (law: proofs/Solve).
use Rattle.std.specs.Prelude.{Bool, false, cond, ◌&&◌, List, [], ◌∷◌, ◌++◌, ℕ, zero, suc, ◌+◌, eqb, ltb}
use Rattle.matching.specs.Pairs.{Pair, Points, sum}
use Rattle.matching.specs.Best.{best}
use Rattle.matching.specs.Graph.{degree}

-- The pairs of c with some cells, from the last cell down; the pairs of a set of cells, which ascend.
abbrev pub pairs_with : Points → ℕ → List ℕ → List Pair
pairs_with w c [] = []
pairs_with w c (p ∷ ps) = pairs_with w c ps ++ cond (ltb 0 (w c p)) ((c, p) ∷ []) []

unfoldable pub pairs_among : Points → List ℕ → List Pair
pairs_among w [] = []
pairs_among w (c ∷ cs) = pairs_with w c cs ++ pairs_among w cs

abbrev pub solved : Points → List ℕ → List Pair
solved w cs = best false w [] (pairs_among w cs)

-- 'The heaviest of a set of cells is worked out from that of smaller sets': its lowest cell unpaired, or with each
-- partner in turn, taken where that is heavier than what is had so far. k bounds the number of cells.
abbrev pub less : ℕ → List ℕ → List ℕ
less p [] = []
less p (c ∷ cs) = cond (eqb c p) (less p cs) (c ∷ less p cs)

abbrev pub tries : (ℕ → List Pair) → Points → ℕ → List ℕ → List Pair → List Pair
tries rest w c [] had = had
tries rest w c (p ∷ ps) had =
    tries rest w c ps
    (cond (ltb 0 (w c p) && ltb (sum w had) (w c p + sum w (rest p))) ((c, p) ∷ rest p) had)

abbrev pub solve : ℕ → Points → List ℕ → List Pair
solve zero w cs = []
solve (suc k) w [] = []
solve (suc k) w (c ∷ cs) = tries (λ p. solve k w (less p cs)) w c cs (solve k w cs)

-- The cells below n that pass the test, ascending; those that have pairs; 'a heaviest pairing of the remaining graph'.
unfoldable pub cells_where : ℕ → (ℕ → Bool) → List ℕ
cells_where zero t = []
cells_where (suc n) t = cells_where n t ++ cond (t n) (n ∷ []) []

abbrev pub with_pairs : ℕ → Points → List ℕ
with_pairs n w = cells_where n (λ c. ltb 0 (degree n w c))

abbrev pub solution : ℕ → Points → List Pair
solution n w = solve n w (with_pairs n w)
