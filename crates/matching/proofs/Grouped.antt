-- Sets of cells that no pair leaves, solved one by one: joined, they give every sum that the whole gives
-- (`solve_groups`), so the same file (`groups_filed`): the heaviest of the whole, with the same choice among equals. In
-- order: the best of some pairs, split by such a set (`h_split`,
-- `best_in`); the pairs of a set; sets that hold each cell once (`Parts`); the laws. Assumes nothing.
use mathlib.Core.Path.{◌≡◌, refl, sym, ap, ap₂, ◌∙◌}
use mathlib.Core.Logic.{◌≢◌}
use mathlib.Core.Bool.{Bool, true, false, not, cond, ◌&&◌, false≢true}
use mathlib.Core.List.{List, [], ◌∷◌}
use Prim.Native.Nat.{ℕ, ◌+◌, ◌*◌, ◌≤◌, ◌<◌, max}
use native.Mathlib.Omega.{arith}
use lib.ListN.{length}
use Rattle.matching.specs.Lists.{mem, All}
use Rattle.matching.specs.Pairs.{Pair, Points, ι, sum, Each, keep, hit, like}
use Rattle.matching.specs.Pairing.{Pairing}
use Rattle.matching.specs.Listed.{filed}
use Rattle.matching.specs.Graph.{Graph}
use Rattle.matching.specs.Best.{barred, H, pays, best}
use Rattle.matching.specs.Solve.{pairs_among, solved, solve, with_pairs, solution}
use Rattle.matching.specs.Groups.{solve_each}
use Rattle.matching.proofs.Tests.{Test, pass, fail, is_test, not_test, holds, passes, fails}
use Rattle.matching.proofs.Members.{clash, mem_past}
use Rattle.matching.proofs.Alls.{all_members}
use Rattle.matching.proofs.Where.{Rises, rises_distinct, Inside, same_members}
use Rattle.matching.proofs.Sums.{one_times, sum_append, sum_add, sum_eq, sum_none}
use Rattle.matching.proofs.Sums.{each_append, each_map, each_all, each_keep}
use Rattle.matching.proofs.Best.{both, pays_test, h_nil, h_cons, best_nil, best_cons, best_each}
use Rattle.matching.proofs.Path.{Alike, h_ext, best_ext}
use Rattle.matching.proofs.Put.{pair_apart}
use Rattle.matching.proofs.Filed.{filed_same}
use Rattle.matching.proofs.Solve.{chosen, chosen_test, chosen_ascends, keep_chosen, of_each, of_held, solve_best}
use Rattle.matching.proofs.Foremost.{solve_solves}
use Rattle.matching.proofs.Solution.{with_rises, with_few, solution_filed, solution_heaviest}
use Rattle.matching.proofs.Reached.{Closed}

-- ---- the best of some pairs

-- as much more on both sides
pays_add : (t : Bool) (a b k : ℕ) → pays t (a + k) (b + k) ≡ pays t a b
pays_add t a b k = go (pays_test t a b)
  where
    go : {s : Bool} → Test (a < b + ι t) (b + ι t ≤ a) s → pays t (a + k) (b + k) ≡ s
    go (pass h) = passes (pays_test t (a + k) (b + k)) (λ n. omega arith)
    go (fail h) = fails (pays_test t (a + k) (b + k)) (λ n. omega arith)

-- The pairs of a set, by its test, and the others.
abbrev pub part_of : (ℕ → Bool) → List Pair → List Pair
part_of t m = keep (λ a b. t a) m

abbrev pub rest_of : (ℕ → Bool) → List Pair → List Pair
rest_of t m = keep (λ a b. not (t a)) m

module _ (w : Points) (t : ℕ → Bool) where
  -- No pair of the list leaves the set.
  abbrev pub Keeps : List Pair → Type 0
  Keeps es = Each (λ a b. t a ≡ t b) es

  apart : (x a : ℕ) (s : Bool) → t x ≡ s → t a ≡ not s → x ≢ a
  apart x a true h k e = false≢true (sym k ∙ ap t (sym e) ∙ h)
  apart x a false h k e = false≢true (sym h ∙ ap t e ∙ k)

  -- a pair taken on one side bars none on the other
  past : (e : Pair) (s : Bool) → t e.0 ≡ s → t e.1 ≡ s → (off : List ℕ) (a : ℕ) → t a ≡ not s
      → mem a (both e off) ≡ mem a off
  past e s h k off a f =
      mem_past a e.0 (e.1 ∷ off) (apart e.0 a s h f) ∙ mem_past a e.1 off (apart e.1 a s k f)

  alike_off : (e : Pair) → t e.0 ≡ true → t e.1 ≡ true → (off : List ℕ) (es : List Pair) → Keeps es
      → Alike (both e off) off (rest_of t es)
  alike_off e h k off es c =
      each_keep (λ a b. not (t a)) (λ a b q n.
      let f = holds (not_test (is_test (t a))) n in
      (past e true h k off a f, past e true h k off b (sym q ∙ f))) es c

  alike_in : (e : Pair) → t e.0 ≡ false → t e.1 ≡ false → (off : List ℕ) (es : List Pair) → Keeps es
      → Alike (both e off) off (part_of t es)
  alike_in e h k off es c =
      each_keep (λ a b. t a) (λ a b q f. (past e false h k off a f, past e false h k off b (sym q ∙ f))) es c

  h_split : (es : List Pair) → Keeps es → (off : List ℕ) → H w off es ≡ H w off (part_of t es) + H w off (rest_of t es)
  h_split [] c off = omega (arith, h_nil w off)
  h_split (e ∷ es) c off =
      go (t e.0) refl (h_split es c.1 off) (h_split es c.1 (both e off))
    where
      p : ℕ
      p = w e.0 e.1

      i : List Pair
      i = part_of t es

      o : List Pair
      o = rest_of t es

      left : (s : Bool) (h h' x : ℕ) → cond s (h + x) (max (h + x) (p + (h' + x))) ≡ cond s h (max h (p + h')) + x
      left true h h' x = refl
      left false h h' x = omega arith

      right : (s : Bool) (h h' x : ℕ) → cond s (x + h) (max (x + h) (p + (x + h'))) ≡ x + cond s h (max h (p + h'))
      right true h h' x = refl
      right false h h' x = omega arith

      go : (s : Bool) → t e.0 ≡ s → H w off es ≡ H w off i + H w off o
          → H w (both e off) es ≡ H w (both e off) i + H w (both e off) o
          → H w off (e ∷ es) ≡ H w off (cond s (e ∷ i) i) + H w off (cond (not s) (e ∷ o) o)
      go true q j k =
          h_cons w off e es ∙ cc (
            j,
            k,
            h_ext w o (both e off) off (alike_off e q (sym c.0 ∙ q) off es c.1),
            h_cons w off e i,
            left (barred off e) (H w off i) (H w (both e off) i) (H w off o),
          )
      go false q j k =
          h_cons w off e es ∙ cc (
            j,
            k,
            h_ext w i (both e off) off (alike_in e q (sym c.0 ∙ q) off es c.1),
            h_cons w off e o,
            right (barred off e) (H w off o) (H w (both e off) o) (H w off i),
          )

  -- what the best has in the set is the best of the set's pairs, with the same choice among equals
  best_in : (u : Bool) (es : List Pair) → Keeps es → (off : List ℕ)
      → part_of t (best u w off es) ≡ best u w off (part_of t es)
  best_in u [] c off = ap (part_of t) (best_nil u w off) ∙ sym (best_nil u w off)
  best_in u (e ∷ es) c off =
      ap (part_of t) (best_cons u w off e es)
      ∙ go (t e.0) refl (best_in u es c.1 off) (best_in u es c.1 (both e off))
    where
      p : ℕ
      p = w e.0 e.1

      i : List Pair
      i = part_of t es

      pay : Bool
      pay = pays u (H w off es) (p + H w (both e off) es)

      out : List Pair
      out = best u w off es

      with : List Pair
      with = best u w (both e off) es

      kept : (s : Bool) → t e.0 ≡ s → (b q : Bool)
          → part_of t (cond b out (cond q (e ∷ with) out))
          ≡ cond b (part_of t out) (cond q (cond s (e ∷ part_of t with) (part_of t with)) (part_of t out))
      kept s h true q = refl
      kept s h false true = ap (λ r. cond r (e ∷ part_of t with) (part_of t with)) h
      kept s h false false = refl

      either : (b q : Bool) (m : List Pair) → cond b m (cond q m m) ≡ m
      either true q m = refl
      either false true m = refl
      either false false m = refl

      go : (s : Bool) → t e.0 ≡ s → part_of t out ≡ best u w off i → part_of t with ≡ best u w (both e off) i
          → part_of t (cond (barred off e) out (cond pay (e ∷ with) out)) ≡ best u w off (cond s (e ∷ i) i)
      go true q j k = kept true q (barred off e) pay ∙ cc (j, k, same_pay, best_cons u w off e i)
        where
          same_pay : pay ≡ pays u (H w off i) (p + H w (both e off) i)
          same_pay =
              (let o = rest_of t es in
              let a = h_split es c.1 (both e off) in
              let b = h_ext w o (both e off) off (alike_off e q (sym c.0 ∙ q) off es c.1) in
              let r : p + H w (both e off) es ≡ (p + H w (both e off) i) + H w off o = omega arith in
              ap₂ (pays u) (h_split es c.1 off) r ∙ pays_add u (H w off i) (p + H w (both e off) i) (H w off o))
      go false q j k =
          kept false q (barred off e) pay
          ∙ cc (
            j,
            k,
            best_ext u w i (both e off) off (alike_in e q (sym c.0 ∙ q) off es c.1),
            either (barred off e) pay (best u w off i),
          )

-- ---- the pairs of a set

keep_eq : (s t : ℕ → ℕ → Bool) (es : List Pair) → Each (λ a b. s a b ≡ t a b) es → keep s es ≡ keep t es
keep_eq s t [] p = refl
keep_eq s t (e ∷ es) p = cc (p.0, keep_eq s t es p.1)

module _ (w : Points) (t : ℕ → Bool) (closed : Closed w t) where
  of_in : (cs : List ℕ) → part_of t (pairs_among w cs) ≡ pairs_among w (chosen t cs)
  of_in cs =
      keep_eq (λ a b. t a) (λ a b. t a && t b) (pairs_among w cs)
      (each_map (λ a b h. one (t a) (t b) (closed a b h)) (pairs_among w cs) (of_held w cs))
      ∙ keep_chosen w t cs
    where
      one : (s u : Bool) → s ≡ u → s ≡ s && u
      one true u e = e
      one false u e = refl

  solved_in : (cs : List ℕ) → part_of t (solved w cs) ≡ solved w (chosen t cs)
  solved_in cs =
      best_in w t false (pairs_among w cs) (each_map closed (pairs_among w cs) (of_held w cs)) []
      ∙ ap (best false w []) (of_in cs)

-- ---- sets that hold each cell once

-- How many of the sets hold the cell.
abbrev pub holding : List (List ℕ) → ℕ → ℕ
holding [] c = 0
holding (cs ∷ css) c = ι (mem c cs) + holding css c

-- Sets of ascending cells that no pair leaves and that hold each cell of the whole once, and no other.
pub record Parts (w : Points) (whole : List ℕ) (css : List (List ℕ)) : Type 0 where
  pub rise : All Rises css
  pub closed : All (λ cs. Closed w (λ x. mem x cs)) css
  pub once : (c : ℕ) → holding css c ≡ ι (mem c whole)

inside : (whole : List ℕ) (css : List (List ℕ)) → ((c : ℕ) → holding css c ≤ ι (mem c whole))
    → All (λ cs. Inside cs whole) css
inside whole [] h = tt
inside whole (cs ∷ css) h = (
  λ x m. passes (is_test (mem x whole)) (λ f. omega (arith, h x, ap ι m, ap ι f)),
  inside whole css (λ c. omega (arith, h c)),
)

solve_part : (w : Points) (whole cs : List ℕ) → Rises whole → Rises cs → Closed w (λ x. mem x cs) → Inside cs whole
    → solve (length cs) w cs ≡ part_of (λ x. mem x cs) (solved w whole)
solve_part w whole cs a b closed i =
    solve_best (length cs) w cs (omega arith) (rises_distinct cs b)
    ∙ ap (solved w) (sym same)
    ∙ sym (solved_in w (λ x. mem x cs) closed whole)
  where
    same : chosen (λ x. mem x cs) whole ≡ cs
    same =
        same_members (chosen (λ x. mem x cs) whole) cs (chosen_ascends (λ x. mem x cs) whole a) b
        (λ x h. (holds (chosen_test (λ y. mem y cs) whole x) h).1)
        (λ x h. passes (chosen_test (λ y. mem y cs) whole x) (λ f. clash h (f (i x h))))

sum_in : (t : ℕ → Bool) (f : Points) (m : List Pair) → sum f (part_of t m) ≡ sum (λ a b. ι (t a) * f a b) m
sum_in t f [] = refl
sum_in t f (e ∷ m) = go (t e.0) (sum_in t f m)
  where
    go : (s : Bool) → sum f (part_of t m) ≡ sum (λ a b. ι (t a) * f a b) m
        → sum f (cond s (e ∷ part_of t m) (part_of t m)) ≡ ι s * f e.0 e.1 + sum (λ a b. ι (t a) * f a b) m
    go true i = omega arith
    go false i = omega arith

each_sum : (w : Points) (whole : List ℕ) → Rises whole → (css : List (List ℕ)) → All Rises css
    → All (λ cs. Closed w (λ x. mem x cs)) css → All (λ cs. Inside cs whole) css → (f : Points)
    → sum f (solve_each w css) ≡ sum (λ a b. holding css a * f a b) (solved w whole)
each_sum w whole a [] r c i f =
    sym (sum_none (λ a b. 0 * f a b) (λ a b (h : Unit {0}). omega arith) (solved w whole)
    (each_all (λ a b. tt) (solved w whole)))
each_sum w whole a (cs ∷ css) r c i f =
    let m = solved w whole in
    let rest = each_sum w whole a css r.1 c.1 i.1 f in
    omega (
      arith,
      sum_append f (solve (length cs) w cs) (solve_each w css),
      ap (sum f) (solve_part w whole cs a r.0 c.0 i.0),
      sum_in (λ x. mem x cs) f m,
      sum_add (λ a b. ι (mem a cs) * f a b) (λ a b. holding css a * f a b) m,
      sum_eq (λ a b. (ι (mem a cs) + holding css a) * f a b) (λ a b. ι (mem a cs) * f a b + holding css a * f a b)
          (λ a b (h : Unit {0}). omega arith) m (each_all (λ a b. tt) m),
    )

-- ---- the laws

pub solve_groups : (w : Points) (whole : List ℕ) → Rises whole → (css : List (List ℕ)) → Parts w whole css
    → (k : ℕ) → length whole ≤ k → (f : Points) → sum f (solve_each w css) ≡ sum f (solve k w whole)
solve_groups w whole a css p k l f =
    each_sum w whole a css p.rise p.closed (inside whole css (λ c. omega (arith, p.once c))) f
    ∙ sum_eq (λ a b. holding css a * f a b) f (λ a b h. one_times (holding css a) (f a b) (p.once a ∙ ap ι h))
    (solved w whole) (best_each (λ a b. mem a whole ≡ true) false w [] (pairs_among w whole)
    (each_map (λ a b h. h.0) (pairs_among w whole) (of_each w (λ x. mem x whole ≡ true) whole (all_members whole))))
    ∙ ap (sum f) (sym (solve_best k w whole l (rises_distinct whole a)))

-- Of a graph, with the cells that have pairs for the whole.
each_held : {n : ℕ} {w : Points} → Graph n w → (css : List (List ℕ)) → All Rises css
    → Each (λ a b. 0 < w a b) (solve_each w css)
each_held g [] r = tt
each_held {n} {w} g (cs ∷ css) r =
    each_append (λ a b. 0 < w a b) (solve (length cs) w cs) (solve_each w css)
    (solve_solves n w g (length cs) cs (omega arith) r.0).0.pairing.held (each_held g css r.1)

module _ {n : ℕ} {w : Points} (g : Graph n w) (css : List (List ℕ)) (p : Parts w (with_pairs n w) css) where
  pub groups_sum : (f : Points) → sum f (solve_each w css) ≡ sum f (solution n w)
  groups_sum = solve_groups w (with_pairs n w) (with_rises n w) css p n (with_few n w)

  pub groups_pairing : Pairing w (solve_each w css)
  groups_pairing = record {
    held = each_held g css p.rise;
    once = λ c. omega (arith, groups_sum (hit c), (solution_heaviest n w g).pairing.once c);
  }

  pub groups_filed : filed (solve_each w css) ≡ solution n w
  groups_filed =
      filed_same (solve_each w css) (solution n w) groups_pairing.once best.once
      (each_map (pair_apart g) (solve_each w css) groups_pairing.held)
      (each_map (pair_apart g) (solution n w) best.held) (λ a b. groups_sum (like a b))
      ∙ solution_filed n w
    where
      best : Pairing w (solution n w)
      best = (solution_heaviest n w g).pairing
