-- A cell with two live slots, of which one is known: the sum less its key is the key of the other. In order: a slot
-- taken out (`without`), which leaves a cell with one; the second of two partners; both over the buffers
-- (`step_next`). Assumes nothing.
use mathlib.Core.Path.{◌≡◌, refl, sym, ap, ◌∙◌, fun_ext}
use mathlib.Core.Logic.{◌⊎◌, inl, inr, ◌≢◌}
use mathlib.Core.Bool.{Bool, cond}
use mathlib.Core.List.{List, [], ◌∷◌}
use Prim.Native.Nat.{ℕ, ◌+◌, ◌-◌, ◌/◌, ◌%◌, ◌≤◌, ◌<◌}
use native.Mathlib.Omega.{arith}
use lib.Dec.{eqb}
use lib.ListN.{get_or}
use borrow.Author.Tests.{eq-eqb, ne_eqb, lt-ltb}
use Rattle.buffers.specs.Map.{at_sums}
use Rattle.matching.specs.Pairs.{Points}
use Rattle.matching.specs.Graph.{Graph, partners, degree, put}
use Rattle.matching.proofs.Tests.{Test, pass, fail, eq_test, holds}
use Rattle.matching.proofs.Members.{mem_head}
use Rattle.matching.proofs.Pairs.{Same, Apart, same_test}
use Rattle.matching.proofs.Sums.{hit_one}
use Rattle.matching.proofs.Partners.{partner_of, two_between, between_only}
use Rattle.slots.specs.Slots.{key, Store, store, graph, Slots, Holds, graph_of, low_of, high_of, Joins}
use Rattle.slots.specs.Found.{Next}
use Rattle.slots.specs.declared.read.Other.{Other}
use Rattle.slots.proofs.Totals.{total_but, total_at}
use Rattle.slots.proofs.Keys.{key_of, key_dead}
use Rattle.slots.proofs.Graphs.{join_test, same_is, same_swap, apart_not, slots_graph, holds_graph}
use Rattle.slots.proofs.Links.{Has}
use Rattle.slots.proofs.Weights.{Reweighed, weigh_slots, weigh_put, low_sum, high_sum}
use Rattle.slots.proofs.Degrees.{live, degree_live}
use Rattle.slots.proofs.Others.{other, other_low, other_key, other_points, Sole, sole}

-- ---- a slot taken out

-- The weight of slot i is 0, and its keys are gone from the sums.
without : Store → ℕ → Store
without s i = record {
  weight = λ j. cond (eqb j i) 0 (s.weight j);
  low = s.low;
  high = s.high;
  low_link = s.low_link;
  high_link = s.high_link;
  sums = λ c. s.sums c - key_of s c i;
  lasts = s.lasts;
}

module _ (e : ℕ) (s : Store) (h : Slots e s) (c i : ℕ) (l : i < e) (pos : 0 < s.weight i) (on : Has s i c) where
  gone : (without s i).weight i ≡ 0
  unfolding without
  gone = rw (eq-eqb i i refl)

  is_reweighed : Reweighed s (without s i) i
  unfolding without
  is_reweighed = record {
    weights = λ j n. rw (ne_eqb j i n);
    cells = λ j. (refl, refl);
    links = λ j. (refl, refl);
    lasts = λ x k. refl;
    less = omega (arith, gone);
    sums = λ x k.
        omega (
          arith,
          h.sums x k,
          total_at (key_of s x) e i l,
          key_dead x ((without s i).weight i) (s.low i) (s.high i) i gone,
        );
  }

  slots_without : Slots e (without s i)
  slots_without = weigh_slots s (without s i) e i h is_reweighed l

  graph_without : graph (without s i) e ≡ put (s.low i) (s.high i) 0 (graph s e)
  graph_without =
      fun_ext (λ x. fun_ext (λ y.
      weigh_put s (without s i) e i h is_reweighed l pos x y
      ∙ ap (λ (m : ℕ). put (s.low i) (s.high i) m (graph s e) x y) gone))

  live_kept : (j : ℕ) → j ≢ i → live (without s i) c j ≡ live s c j
  unfolding without live
  live_kept j n = rw (ne_eqb j i n)

  live_gone : live (without s i) c i ≡ 0
  unfolding without live
  live_gone = rw (eq-eqb i i refl)

  live_here : live s c i ≡ 1
  unfolding live
  live_here = rw (lt-ltb 0 (s.weight i) pos) (hit_one c (s.low i) (s.high i) on (omega (arith, h.cells i l)))

  one_left : degree 1024 (graph s e) c ≡ 2 → degree 1024 (graph (without s i) e) c ≡ 1
  one_left d =
      omega (
        arith,
        degree_live e s h c,
        degree_live e (without s i) slots_without c,
        total_but (live (without s i) c) (live s c) e i l live_kept,
        live_gone,
        live_here,
      )

  sum_left : (without s i).sums c ≡ s.sums c - key (other s i c) i
  unfolding without
  sum_left = ap (λ (k : ℕ). s.sums c - k) (other_key e s h c i l on pos)

  sole_left : c < 1024 → degree 1024 (graph s e) c ≡ 2 → {k : ℕ} → k ≡ s.sums c - key (other s i c) i
      → Sole e (without s i) c (k % 16777216) (k / 16777216 % 4194304)
  sole_left lc d {k} q = rw (q, ← sum_left) (sole e (without s i) slots_without c lc (one_left d))

-- ---- the second of two

put_held : (x y : ℕ) (g : Points) (a b : ℕ) → 0 < put x y 0 g a b → Apart x y a b × (0 < g a b)
unfolding put
put_held x y g a b = go (same_test x y a b)
  where
    go : {t : Bool} → Test (Same x y a b) (Apart x y a b) t → 0 < cond t 0 (g a b) → Apart x y a b × (0 < g a b)
    go (pass p) h = absurd (omega arith)
    go (fail n) h = (n, h)

-- Of the two partners of c, prev and another y.
second : {n : ℕ} {g : Points} → Graph n g → (c prev y : ℕ) → 0 < g c prev → 0 < g c y → y ≢ prev → (a b : ℕ)
    → partners n g c ≡ a ∷ b ∷ [] → y ≡ cond (eqb a prev) b a
second {n} {g} G c prev y p q m a b e = go (eq_test a prev) (either prev p) (either y q)
  where
    either : (x : ℕ) → 0 < g c x → (a ≡ x) ⊎ (b ≡ x)
    either x h = between_only G (two_between G c a b e) x h

    go : {t : Bool} → Test (a ≡ prev) (a ≢ prev) t → (a ≡ prev) ⊎ (b ≡ prev) → (a ≡ y) ⊎ (b ≡ y) → y ≡ cond t b a
    go (pass k) i (inl j) = absurd (m (sym j ∙ k))
    go (pass k) i (inr j) = sym j
    go (fail k) (inl i) j = absurd (k i)
    go (fail k) (inr i) (inl j) = sym j
    go (fail k) (inr i) (inr j) = absurd (m (sym j ∙ i))

module _ {e : ℕ} {w1 w2 : List ℕ} {c prev i : ℕ} (h : Holds e w1 w2) (lc : c < 1024) (j : Joins e w1 i prev c) where
  abbrev s : Store
  s = store w1 w2

  cells_are : Same (low_of w1 i) (high_of w1 i) prev c
  cells_are = holds (join_test s i prev c) j.cells

  has_c : Has s i c
  has_c = go cells_are
    where
      go : Same (low_of w1 i) (high_of w1 i) prev c → Has s i c
      go (inl k) = inr (sym k.1)
      go (inr k) = inl (sym k.1)

  prev_is : prev ≡ other s i c
  prev_is = go cells_are
    where
      go : Same (low_of w1 i) (high_of w1 i) prev c → prev ≡ other s i c
      go (inl k) = omega (arith, k.0, k.1)
      go (inr k) = omega (arith, k.0, k.1)

  pub prev_low : prev < 1024
  prev_low = rw prev_is (other_low e s h.slots c i j.below has_c)

  pub sum_enough : key prev i ≤ get_or w2 (at_sums + c) 0
  sum_enough = go cells_are
    where
      go : Same (low_of w1 i) (high_of w1 i) prev c → key prev i ≤ get_or w2 (at_sums + c) 0
      go (inl k) = rw (k.0, k.1) (high_sum s e h.slots i j.below j.live)
      go (inr k) = rw (k.0, k.1) (low_sum s e h.slots i j.below j.live)

  left_over : (y : ℕ) → partners 1024 (graph (without s i) e) c ≡ y ∷ []
      → Apart (low_of w1 i) (high_of w1 i) c y × (0 < graph s e c y)
  left_over y q =
      put_held (low_of w1 i) (high_of w1 i) (graph s e) c y
      (rw (graph_without e s h.slots c i j.below j.live has_c) at held)
    where
      after : Graph 1024 (graph (without s i) e)
      after = slots_graph e (without s i) (slots_without e s h.slots c i j.below j.live has_c)

      held : 0 < graph (without s i) e c y
      held = partner_of after c y (rw q (mem_head y y [] refl))

  next_of : (r : Other) → Sole e (without s i) c r.slot r.partner → Next e w1 c prev r
  unfolding graph without
  next_of r o =
      record {
        partner = λ a b q.
            second (holds_graph h) c prev r.partner (omega (arith, prev_points, j.live)) there.1
            not_prev a b q;
        joins = record { below = o.slot; live = alive (eq_test r.slot i) o.live; cells = same_is o.cells };
        below = o.low;
      }
    where
      there : Apart (low_of w1 i) (high_of w1 i) c r.partner × (0 < graph s e c r.partner)
      there = left_over r.partner o.partner

      alive : {t : Bool} → Test (r.slot ≡ i) (r.slot ≢ i) t → 0 < cond t 0 (get_or w1 r.slot 0)
          → 0 < get_or w1 r.slot 0
      alive (pass q) k = absurd (omega arith)
      alive (fail n) k = k

      prev_points : graph s e c prev ≡ get_or w1 i 0
      prev_points = rw prev_is (other_points e s h.slots c i j.below has_c j.live)

      not_prev : r.partner ≢ prev
      not_prev q = apart_not (rw q (same_swap cells_are)) there.0

  pub step_next : degree 1024 (graph_of e w1) c ≡ 2 → {k : ℕ} → k ≡ key prev i → (r : Other)
      → r.slot ≡ (get_or w2 (at_sums + c) 0 - k) % 16777216
      → r.partner ≡ (get_or w2 (at_sums + c) 0 - k) / 16777216 % 4194304 → Next e w1 c prev r
  unfolding graph
  step_next d {k} q r es ep =
      let k_is : get_or w2 (at_sums + c) 0 - k ≡ get_or w2 (at_sums + c) 0 - key (other s i c) i =
      ap (λ (m : ℕ). get_or w2 (at_sums + c) 0 - m) (q ∙ ap (λ (x : ℕ). key x i) prev_is) in
      next_of r (rw (es, ep) (sole_left e s h.slots c i j.below j.live has_c lc d k_is))
