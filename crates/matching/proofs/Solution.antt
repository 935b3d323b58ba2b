-- The solution as its file has it. In order: what is tried keeps what each trial has (`tries_keep`); the cells of a
-- set's heaviest pairing are in the set (`solve_each_is`), and its pairs are in file order where the set ascends
-- (`solve_in_order`); which cells have pairs (`with_test`), and that they ascend; so the solution is in file order
-- (`solution_filed`), its cells below n (`solution_cells`), heaviest (`solution_heaviest`), and of those the first
-- (`solution_first`). Assumes nothing.
use mathlib.Core.Path.{◌≡◌, ap}
use mathlib.Core.Bool.{Bool, true, false, not, cond, ◌&&◌}
use mathlib.Core.List.{List, [], ◌∷◌}
use Prim.Native.Nat.{ℕ, zero, suc, ◌+◌, ◌≤◌, ◌<◌}
use native.Mathlib.Omega.{arith}
use lib.Dec.{ltb}
use lib.ListN.{length}
use Rattle.matching.specs.Lists.{All, mem, Ascends}
use Rattle.matching.specs.Pairs.{Pair, Points, sum, Each}
use Rattle.matching.specs.Listed.{filed}
use Rattle.matching.specs.Pairing.{Heaviest, First}
use Rattle.matching.specs.Graph.{Graph, partners, degree}
use Rattle.matching.specs.Solve.{less, tries, solve, with_pairs, solution}
use Rattle.matching.proofs.Alls.{all_map, all_mem}
use Rattle.matching.proofs.Where.{Rises, rises_distinct, where_test, where_below, where_rises}
use Rattle.matching.proofs.Upto.{distinct_length}
use Rattle.matching.proofs.Sums.{each_map}
use Rattle.matching.proofs.Solve.{less_each, less_ascends}
use Rattle.matching.proofs.Filed.{InOrder, filed_filed}
use Rattle.matching.proofs.Tests.{Test, lt_test, not_test, map_test, holds, passes}
use Rattle.matching.proofs.Members.{no_mem}
use Rattle.matching.proofs.Put.{pair_below}
use Rattle.matching.proofs.Partners.{has_partner}
use Rattle.matching.proofs.Foremost.{solve_heaviest, solve_first}

-- ---- a set of cells

tries_keep : (Q : List Pair → Type 0) (rest : ℕ → List Pair) (w : Points) (c : ℕ) (ps : List ℕ) (had : List Pair)
    → All (λ p. Q ((c, p) ∷ rest p)) ps → Q had → Q (tries rest w c ps had)
tries_keep Q rest w c [] had h q = q
tries_keep Q rest w c (p ∷ ps) had h q =
    tries_keep Q rest w c ps _ h.1 (go (ltb 0 (w c p) && ltb (sum w had) (w c p + sum w (rest p))))
  where
    go : (t : Bool) → Q (cond t ((c, p) ∷ rest p) had)
    go true = h.0
    go false = q

solve_each_is : (P : ℕ → Type 0) (k : ℕ) (w : Points) (cs : List ℕ) → All P cs → Each (λ a b. P a × P b) (solve k w cs)
solve_each_is P zero w cs h = tt
solve_each_is P (suc k) w [] h = tt
solve_each_is P (suc k) w (c ∷ cs) h =
    tries_keep (Each (λ a b. P a × P b)) (λ p. solve k w (less p cs)) w c cs (solve k w cs)
    (all_map (λ p q. ((h.0, q), solve_each_is P k w (less p cs) (less_each P p cs h.1))) cs h.1)
    (solve_each_is P k w cs h.1)

solve_in_order : (k : ℕ) (w : Points) (cs : List ℕ) → Ascends (λ a b. a < b) cs → InOrder (solve k w cs)
solve_in_order zero w cs h = tt
solve_in_order (suc k) w [] h = tt
solve_in_order (suc k) w (c ∷ cs) h =
    tries_keep InOrder (λ p. solve k w (less p cs)) w c cs (solve k w cs)
    (all_map (λ p l. (
      l,
      (
        each_map (λ a b q. q.0) (solve k w (less p cs))
            (solve_each_is (λ x. c < x) k w (less p cs) (less_each (λ x. c < x) p cs h.0)),
        solve_in_order k w (less p cs) (less_ascends p cs h.1),
      ),
    )) cs h.0)
    (solve_in_order k w cs h.1)

-- ---- the cells that have pairs

module _ (n : ℕ) (w : Points) where
  -- which they are, and in which order
  pub with_test : (c : ℕ) → Test ((c < n) × (0 < degree n w c)) (c < n → degree n w c ≤ 0) (mem c (with_pairs n w))
  with_test c =
      map_test (λ h. (h.0, holds (lt_test 0 (degree n w c)) h.1))
      (λ f l. holds (not_test (lt_test 0 (degree n w c))) (ap not (f l)))
      (where_test (λ x. ltb 0 (degree n w x)) n c)

  pub with_cells : All (λ x. x < n) (with_pairs n w)
  with_cells = where_below (λ c. ltb 0 (degree n w c)) n

  pub with_rises : Rises (with_pairs n w)
  with_rises = where_rises (λ c. ltb 0 (degree n w c)) n

  pub with_few : length (with_pairs n w) ≤ n
  with_few =
      distinct_length n (with_pairs n w) (rises_distinct (with_pairs n w) with_rises)
      (all_mem (λ x. x < n) (with_pairs n w) with_cells)

  pub solution_filed : filed (solution n w) ≡ solution n w
  solution_filed = filed_filed (solution n w) (solve_in_order n w (with_pairs n w) with_rises)

  pub solution_cells : Each (λ a b. (a < n) × (b < n)) (solution n w)
  solution_cells = solve_each_is (λ x. x < n) n w (with_pairs n w) with_cells

  -- both cells of a pair are among them
  pub with_pair : Graph n w → (a b : ℕ) → 0 < w a b → mem b (with_pairs n w) ≡ true
  with_pair g a b h =
      passes (with_test b) (λ f. omega (
        arith,
        f (pair_below g a b h).1,
        some_partner (partners n w b) (has_partner g b a (omega (arith, g.turned a b))),
      ))
    where
      some_partner : (ps : List ℕ) → mem a ps ≡ true → 0 < length ps
      some_partner [] m = no_mem a m
      some_partner (x ∷ xs) m = omega arith

  pub pair_degree : Graph n w → (a b : ℕ) → 0 < w a b → 0 < degree n w b
  pair_degree g a b h = (holds (with_test b) (with_pair g a b h)).1

  pub solution_heaviest : Graph n w → Heaviest w w (solution n w)
  solution_heaviest g = solve_heaviest n w g (with_pairs n w) with_rises (with_pair g) n with_few

  pub solution_first : Graph n w → (m : List Pair) → Heaviest w w m → First (solution n w) m
  solution_first g = solve_first n w g (with_pairs n w) with_rises (with_pair g) n with_few
