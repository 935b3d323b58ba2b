-- The groups hold each cell that has pairs once (`groups_parts`), so that, solved one by one and joined, they are the
-- solution (`groups_solved`). In order: the lowest of some cells; what holds of a group's cells; the laws. Assumes
-- nothing.
use mathlib.Core.Path.{◌≡◌, refl, sym, ap, subst, ◌∙◌}
use mathlib.Core.Bool.{Bool, true, false, cond, ◌&&◌}
use mathlib.Core.List.{List, [], ◌∷◌, ◌++◌, map, map-append}
use Prim.Native.Nat.{ℕ, zero, suc, ◌+◌, ◌≤◌, ◌<◌}
use native.Mathlib.Omega.{arith}
use lib.Dec.{ltb}
use borrow.Author.Tests.{eq-eqb, lt-ltb}
use Rattle.matching.specs.Lists.{mem, All}
use Rattle.matching.specs.Pairs.{Points, ι}
use Rattle.matching.specs.Listed.{filed}
use Rattle.matching.specs.Graph.{Graph, degree}
use Rattle.matching.specs.Solve.{cells_where, with_pairs, solution}
use Rattle.matching.specs.Groups.{group, leads, groups, solve_each}
use Rattle.matching.proofs.Tests.{Test, pass, fail, is_test, eq_test, lt_test, and_test, holds, fails}
use Rattle.matching.proofs.Members.{no_mem, mem_head}
use Rattle.matching.proofs.Alls.{all_map}
use Rattle.matching.proofs.Where.{Rises, where_below}
use Rattle.matching.proofs.Upto.{sum_to, sum_to_at}
use Rattle.matching.proofs.Put.{pair_below}
use Rattle.matching.proofs.Tally.{degree_live}
use Rattle.matching.proofs.Solution.{with_test, pair_degree}
use Rattle.matching.proofs.Reached.{Closed, reached_rises, reached_each, group_own, group_closed, group_below}
use Rattle.matching.proofs.Reached.{group_same}
use Rattle.matching.proofs.Grouped.{holding, Parts, groups_filed}

-- ---- the lowest of some cells

leads_some : (cs : List ℕ) (c : ℕ) → mem c cs ≡ true → (x : ℕ) × (leads cs x ≡ true) × (mem x cs ≡ true)
leads_some [] c h = no_mem c h
leads_some (x ∷ xs) c h = (x, eq-eqb x x refl, mem_head x x xs refl)

leads_one : (cs : List ℕ) (x y : ℕ) → leads cs x ≡ true → leads cs y ≡ true → x ≡ y
leads_one [] x y h k = absurd (no_lead h)
  where
    no_lead : false ≡ true → ⊥
    no_lead e = let z : ◌≡◌ {A = ℕ} 0 1 = ap ι e in omega arith
leads_one (z ∷ zs) x y h k = sym (holds (eq_test z x) h) ∙ holds (eq_test z y) k

-- ---- how many of the groups hold a cell

holding_append : (xs ys : List (List ℕ)) (c : ℕ) → holding (xs ++ ys) c ≡ holding xs c + holding ys c
holding_append [] ys c = omega arith
holding_append (x ∷ xs) ys c = omega (arith, holding_append xs ys c)

holding_where : (t : ℕ → Bool) (f : ℕ → List ℕ) (k c : ℕ)
    → holding (map f (cells_where k t)) c ≡ sum_to k (λ d. ι (t d && mem c (f d)))
unfolding cells_where sum_to
holding_where t f zero c = refl
holding_where t f (suc k) c =
    ap (λ css. holding css c) (map-append f (cells_where k t) (cond (t k) (k ∷ []) []))
    ∙ omega (
      arith,
      holding_append (map f (cells_where k t)) (map f (cond (t k) (k ∷ []) [])) c,
      holding_where t f k c,
      last (t k),
    )
  where
    last : (s : Bool) → holding (map f (cond s (k ∷ []) [])) c ≡ ι (s && mem c (f k))
    last true = omega arith
    last false = refl

-- ---- the groups

all_mapped : (P : List ℕ → Type 0) (f : ℕ → List ℕ) (xs : List ℕ) → All (λ x. P (f x)) xs → All P (map f xs)
all_mapped P f [] h = tt
all_mapped P f (x ∷ xs) h = (h.0, all_mapped P f xs h.1)

module _ {n : ℕ} {w : Points} (g : Graph n w) where
  abbrev first : ℕ → Bool
  first d = ltb 0 (degree n w d) && leads (group n w d) d

  degree_below : (d : ℕ) → 0 < degree n w d → d < n
  degree_below d l = (let p = degree_live n w d l in (pair_below g d p.0 p.1).0)

  -- the cells of the group of a cell that has pairs have pairs
  group_paired : (d c : ℕ) → 0 < degree n w d → mem c (group n w d) ≡ true → 0 < degree n w c
  group_paired d c p h = reached_each n w d (λ x. 0 < degree n w x) p (λ a b l q. pair_degree n w g a b l) n c h

  pub groups_parts : Parts w (with_pairs n w) (groups n w)
  groups_parts = record {
    rise = all_mapped Rises (group n w) firsts (all_map (λ d l. reached_rises n w d n) firsts low);
    closed = all_mapped (λ cs. Closed w (λ x. mem x cs)) (group n w) firsts
        (all_map (λ d l. group_closed n w d g l) firsts low);
    once = λ c. holding_where first (group n w) n c ∙ count c (with_test n w c);
  }
    where
      firsts : List ℕ
      firsts = cells_where n first

      low : All (λ d. d < n) firsts
      low = where_below first n

      held : ℕ → ℕ → Bool
      held c d = first d && mem c (group n w d)

      -- a group that holds the cell
      Held : ℕ → ℕ → Type 0
      Held c d = (0 < degree n w d) × (leads (group n w d) d ≡ true) × (mem c (group n w d) ≡ true)

      not_held : (c d : ℕ) → (Held c d → ⊥) → ι (held c d) ≡ 0
      not_held c d f =
          ap ι (fails (is_test (held c d)) (λ h.
          let q =
          holds (and_test (and_test (lt_test 0 (degree n w d)) (is_test (leads (group n w d) d)))
          (is_test (mem c (group n w d)))) h in
          f (q.0.0, q.0.1, q.1)))

      count : (c : ℕ) → {t : Bool} → Test ((c < n) × (0 < degree n w c)) (c < n → degree n w c ≤ 0) t
          → sum_to n (λ d. ι (held c d)) ≡ ι t
      count c (pass (b, p)) = go (leads_some (group n w c) c (group_own n w c g b))
        where
          go : (x : ℕ) × (leads (group n w c) x ≡ true) × (mem x (group n w c) ≡ true)
              → sum_to n (λ d. ι (held c d)) ≡ 1
          go (x, e, m) =
              (sum_to_at x (λ d. ι (held c d)) (λ d f. not_held c d (λ h. f (only d h))) n).0 (group_below g c x b m)
              ∙ ap ι at
            where
              same : group n w c ≡ group n w x
              same = group_same g c x b m

              at : held c x ≡ true
              at =
                  rw (
                    lt-ltb 0 (degree n w x) (group_paired c x p m),
                    ← same,
                    e,
                    group_own n w c g b,
                  ) refl

              only : (d : ℕ) → Held c d → d ≡ x
              only d (l, q, r) =
                  let low : d < n = degree_below d l in
                  leads_one (group n w c) d x (subst (λ cs. leads cs d ≡ true) (group_same g d c low r) q) e
      count c (fail f) = (sum_to_at n (λ d. ι (held c d)) (λ d e. not_held c d (λ h. none d h)) n).1 (omega arith)
        where
          none : (d : ℕ) → Held c d → ⊥
          none d (l, q, r) =
              omega (arith, group_paired d c l r, f (group_below g d c (degree_below d l) r))

  pub groups_solved : filed (solve_each w (groups n w)) ≡ solution n w
  groups_solved = groups_filed g (groups n w) groups_parts
