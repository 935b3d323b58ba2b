-- Groups found by labels (invariant: `Labelled`). Where a pair is split after k sweeps, some group has more than k + 1
-- cells (`labels_split`, `meets_test`). A class lies in a group, so that none has more cells than the largest
-- (`labels_class`). Where no pair is split the classes are the groups (`class_group`, `labels_largest`) and hold each
-- cell that has pairs once (`labels_parts`), so that they may be solved one by one (crate matching, proofs/Grouped). In
-- order: classes of any labels, their cells (`class_cells`), one more of them (`classes_next`, `classes_skip`); split
-- pairs; the classes of labels that were swept. Assumes nothing.
use mathlib.Core.Path.{◌≡◌, refl, sym, ap, subst, ◌∙◌}
use mathlib.Core.Logic.{◌≢◌}
use mathlib.Core.Bool.{Bool, true, false}
use mathlib.Core.List.{List, [], ◌∷◌, ◌++◌}
use Prim.Native.Nat.{ℕ, zero, suc, ◌+◌, ◌≤◌, ◌<◌}
use native.Mathlib.Omega.{arith}
use native.Mathlib.Numerals.{add-one}
use lib.Dec.{eqb}
use lib.ListN.{length}
use borrow.Author.Tests.{eq-eqb}
use Rattle.matching.specs.Lists.{mem, All}
use Rattle.matching.specs.Pairs.{Pair, Points, ι, sum}
use Rattle.matching.specs.Graph.{Graph, degree}
use Rattle.matching.specs.Solve.{solve, with_pairs}
use Rattle.matching.specs.Groups.{reached, group, largest, solve_each}
use Rattle.matching.proofs.Tests.{Test, pass, fail, is_test, eq_test, lt_test, map_test, holds, passes, fails}
use Rattle.matching.proofs.Members.{mem_head}
use Rattle.matching.proofs.Alls.{all_map, all_members}
use Rattle.matching.proofs.Sums.{sum_append}
use Rattle.matching.proofs.Where.{Rises, where_test, where_in, where_rises, Inside, same_members, members_length}
use Rattle.matching.proofs.Upto.{sum_to, sum_to_at}
use Rattle.matching.proofs.Put.{pair_below}
use Rattle.matching.proofs.Solution.{with_test, with_pair, pair_degree}
use Rattle.matching.proofs.Reached.{Closed, reached_rises, reached_below, reached_all}
use Rattle.matching.proofs.Reached.{group_least, group_own, group_below, pair_group, group_meets}
use Rattle.matching.proofs.Reached.{largest_most, largest_least}
use Rattle.matching.proofs.Grouped.{holding, Parts}
use Rattle.grouping.specs.Labels.{Labels, meets, class, classes, Names, Labelled, Level}
use Rattle.grouping.proofs.Sweeps.{Lists, meets_split, split_test}

-- ---- the classes

pub classes_rise : (n : ℕ) (l : Labels) (k : ℕ) → All Rises (classes n l k)
classes_rise n l zero = tt
classes_rise n l (suc d) = (where_rises (λ c. eqb (l c) (suc d)) n, classes_rise n l d)

-- a cell is in the class of its label only
module _ (n : ℕ) (l : Labels) (c d : ℕ) where
  pub class_at : mem c (class n l d) ≡ true → (c < n) × (l c ≡ suc d)
  class_at m =
      let p = holds (where_test (λ x. eqb (l x) (suc d)) n c) m in
      (p.0, holds (eq_test (l c) (suc d)) p.1)

  pub class_in : c < n → l c ≡ suc d → mem c (class n l d) ≡ true
  class_in b e = where_in (λ x. eqb (l x) (suc d)) n c b (eq-eqb (l c) (suc d) e)

  pub class_out : l c ≢ suc d → mem c (class n l d) ≡ false
  class_out f = fails (is_test (mem c (class n l d))) (λ m. f (class_at m).1)

pub class_cells : (n : ℕ) (l : Labels) (d : ℕ) → All (λ c. (c < n) × (l c ≡ suc d)) (class n l d)
class_cells n l d = all_map (λ c m. class_at n l c d m) (class n l d) (all_members (class n l d))

holding_sum : (n : ℕ) (l : Labels) (k c : ℕ) → holding (classes n l k) c ≡ sum_to k (λ d. ι (mem c (class n l d)))
unfolding sum_to
holding_sum n l zero c = refl
holding_sum n l (suc d) c = omega (arith, holding_sum n l d c)

-- one class more
pub classes_next : (n : ℕ) (w : Points) (l : Labels) (d : ℕ) (f : Points)
    → sum f (solve_each w (classes n l (d + 1)))
    ≡ sum f (solve (length (class n l d)) w (class n l d)) + sum f (solve_each w (classes n l d))
classes_next n w l d f =
    rw (add-one d) (sum_append f (solve (length (class n l d)) w (class n l d)) (solve_each w (classes n l d)))

pub classes_skip : (n : ℕ) (w : Points) (l : Labels) (d : ℕ) → class n l d ≡ []
    → solve_each w (classes n l (d + 1)) ≡ solve_each w (classes n l d)
classes_skip n w l d e =
    rw (add-one d) (ap (λ cs. solve (length cs) w cs ++ solve_each w (classes n l d)) e)

-- ---- split pairs

module _ {n : ℕ} {w : Points} (g : Graph n w) (k : ℕ) (l : Labels) (h : Labelled n w k l) where
  -- the label of an end of a pair is no higher than the other's where the group is reached
  no_higher : (a b : ℕ) → 0 < w a b → length (group n w a) ≤ suc k → l b ≤ l a
  no_higher a b p few = go (h.names a low.0 (pair_degree n w g b a (omega (arith, g.turned a b))))
    where
      low : (a < n) × (b < n)
      low = pair_below g a b p

      e : group n w a ≡ group n w b
      e = pair_group g a b p

      all : reached n w b k ≡ group n w b
      all = reached_all n w b g low.1 k (omega (arith, ap length e))

      go : Names n w l a → l b ≤ l a
      go (d, q, m) = omega (arith, h.low b d low.1 (rw (all, ← e) m))

  pub labels_split : (a b : ℕ) → 0 < w a b → l a ≢ l b → suc k < largest n w
  labels_split a b p d =
      holds (lt_test (suc k) (largest n w)) (passes (lt_test (suc k) (largest n w)) (λ few. d (same few)))
    where
      turned : 0 < w b a
      turned = omega (arith, g.turned a b)

      same : largest n w ≤ suc k → l a ≡ l b
      same few =
          omega (
            arith,
            no_higher a b p (omega (arith, largest_least n w a (with_pair n w g b a turned))),
            no_higher b a turned (omega (arith, largest_least n w b (with_pair n w g a b p))),
          )

  -- a sweep comes to no split pair, or some group has more than k + 1 cells
  pub meets_test : (es : List Pair) → Lists w es → Test (suc k < largest n w) (Level w l) (meets es l)
  meets_test es s = rw (meets_split es l) (map_test (λ p. labels_split p.0 p.1 p.2 p.3) (λ f. f) (split_test es s l))

  -- ---- classes

  -- the cells with the label that names d are in its group
  class_names : (c d : ℕ) → mem c (class n l d) ≡ true → (c < n) × (0 < degree n w c) × (mem d (group n w c) ≡ true)
  class_names c d m = go (lt_test 0 (degree n w c))
    where
      at : (c < n) × (l c ≡ suc d)
      at = class_at n l c d m

      own_name : Names n w l c → mem d (group n w c) ≡ true
      own_name (x, q, r) = let e : x ≡ d = omega (arith, at.1) in subst (λ (y : ℕ). mem y (group n w c) ≡ true) e r

      go : {t : Bool} → Test (0 < degree n w c) (degree n w c ≤ 0) t
          → (c < n) × (0 < degree n w c) × (mem d (group n w c) ≡ true)
      go (pass p) = (at.0, p, own_name (h.names c at.0 p))
      go (fail p) = absurd (omega (arith, at.1, h.none c at.0 p))

  class_inside : (c d : ℕ) → mem c (class n l d) ≡ true → Inside (class n l d) (group n w c)
  class_inside c d m x r =
      let p = class_names c d m in
      let q = class_names x d r in
      rw (group_meets g c x d p.0 q.0 p.2 q.2) (group_own n w x g q.0)

  -- a class has no more cells than the largest group
  pub labels_class : (d : ℕ) → length (class n l d) ≤ largest n w
  labels_class d = go (class n l d) refl
    where
      go : (cs : List ℕ) → class n l d ≡ cs → length cs ≤ largest n w
      go [] e = omega arith
      go (c ∷ cs) e =
          (let m : mem c (class n l d) ≡ true = rw e (mem_head c c cs refl) in
          let p = class_names c d m in
          omega (
            arith,
            ap length e,
            members_length n (class n l d) (group n w c) (where_rises _ n) (reached_rises n w c n)
                (reached_below n w c g p.0 n) (class_inside c d m),
            largest_least n w c (passes (with_test n w c) (λ f. omega (arith, f p.0, p.1))),
          ))

  module _ (level : Level w l) where
    closed : (v : ℕ) → Closed w (λ x. eqb (l x) v)
    closed v a b p = ap (λ x. eqb x v) (level a b p)

    group_level : (c x : ℕ) → mem x (group n w c) ≡ true → l x ≡ l c
    group_level c x m =
        holds (eq_test (l x) (l c))
        (group_least n w c (λ y. eqb (l y) (l c)) (closed (l c)) (eq-eqb (l c) (l c) refl) x m)

    -- the classes are the groups
    pub class_group : (c d : ℕ) → mem c (class n l d) ≡ true → class n l d ≡ group n w c
    class_group c d m =
        same_members (class n l d) (group n w c) (where_rises _ n) (reached_rises n w c n) (class_inside c d m)
        (λ x r. class_in n l x d (group_below g c x p.0 r) (group_level c x r ∙ p.1))
      where
        p : (c < n) × (l c ≡ suc d)
        p = class_at n l c d m

    -- a cell that is named names itself, so a class that has cells is named by one of them
    pub named_own : (c d : ℕ) → c < n → l c ≡ suc d → l d ≡ suc d
    named_own c d b e = group_level c d (class_names c d (class_in n l c d b e)).2 ∙ e

    pub class_none : (d : ℕ) → l d ≢ suc d → class n l d ≡ []
    class_none d f = go (class n l d) refl
      where
        go : (cs : List ℕ) → class n l d ≡ cs → cs ≡ []
        go [] e = refl
        go (c ∷ cs) e =
            let p = class_at n l c d (rw e (mem_head c c cs refl)) in
            absurd (f (named_own c d p.0 p.1))

    -- if no class has more than m cells, no group has
    pub labels_largest : (m : ℕ) → ((d : ℕ) → d < n → length (class n l d) ≤ m) → largest n w ≤ m
    labels_largest m few = largest_most n w m at
      where
        at : (c : ℕ) → c < n → 0 < degree n w c → length (group n w c) ≤ m
        at c b p = go (h.names c b p)
          where
            go : Names n w l c → length (group n w c) ≤ m
            go (d, q, r) =
                omega (
                  arith,
                  few d (group_below g c d b r),
                  ap length (class_group c d (class_in n l c d b q)),
                )

    -- no pair leaves a class
    pub class_closed : (d : ℕ) → Closed w (λ x. mem x (class n l d))
    class_closed d a b p = go (eq_test (l a) (suc d))
      where
        low : (a < n) × (b < n)
        low = pair_below g a b p

        go : {t : Bool} → Test (l a ≡ suc d) (l a ≢ suc d) t → mem a (class n l d) ≡ mem b (class n l d)
        go (pass e) = class_in n l a d low.0 e ∙ sym (class_in n l b d low.1 (sym (level a b p) ∙ e))
        go (fail f) = class_out n l a d f ∙ sym (class_out n l b d (λ e. f (level a b p ∙ e)))

    -- the classes hold each cell that has pairs once
    pub labels_parts : Parts w (with_pairs n w) (classes n l n)
    labels_parts = record { rise = classes_rise n l n; closed = shut n; once = λ c. held c (with_test n w c) }
      where
        shut : (k : ℕ) → All (λ cs. Closed w (λ x. mem x cs)) (classes n l k)
        shut zero = tt
        shut (suc d) = (class_closed d, shut d)

        held : (c : ℕ) → {t : Bool} → Test ((c < n) × (0 < degree n w c)) (c < n → degree n w c ≤ 0) t
            → holding (classes n l n) c ≡ ι t
        held c (pass (b, p)) = go (h.names c b p)
          where
            go : Names n w l c → holding (classes n l n) c ≡ 1
            go (x, q, r) =
                holding_sum n l n c
                ∙ (sum_to_at x (λ d. ι (mem c (class n l d)))
                (λ d f. ap ι (class_out n l c d (λ e. f (omega (arith, q))))) n).0 (group_below g c x b r)
                ∙ ap ι (class_in n l c x b q)
        held c (fail f) =
            holding_sum n l n c
            ∙ (sum_to_at n (λ d. ι (mem c (class n l d))) (λ d e. ap ι (fails (is_test (mem c (class n l d)))
            (λ m. let p = class_names c d m in omega (arith, p.1, f p.0)))) n).1 (omega arith)
