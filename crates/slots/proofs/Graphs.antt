-- The graph that slots hold. In order: what a slot gives a pair; slots that are alike hold the same graph; it is a
-- graph of 1,024 cells (`slots_graph`, `holds_graph`); one slot more; a live slot has all the weight of its pair
-- (`alone`, `joins_points`); a cleared second buffer holds the empty graph (`holds_empty`). Assumes nothing.
use mathlib.Core.Path.{◌≡◌, refl, ap, ◌∙◌, fun_ext}
use mathlib.Core.Logic.{inl, inr, ◌≢◌}
use mathlib.Core.Bool.{Bool, true, false, cond}
use mathlib.Core.List.{List}
use Prim.Native.Nat.{ℕ, zero, suc, ◌+◌, ◌≤◌, ◌<◌}
use native.Mathlib.Omega.{arith}
use lib.ListN.{length, get_or, replicate, length-replicate, get_or-replicate}
use Rattle.buffers.specs.Map.{at_sums, at_lasts}
use Rattle.matching.specs.Pairs.{same}
use Rattle.matching.specs.Graph.{Graph, put}
use Rattle.matching.proofs.Tests.{Test, pass, fail, eq_test, holds, fails}
use Rattle.matching.proofs.Pairs.{Same, Apart, same_test}
use Rattle.matching.proofs.Sums.{same_turned, same_self}
use Rattle.slots.specs.Slots.{total, Store, store, graph, last, Slots, Holds, graph_of, Joins, NoSlots}
use Rattle.slots.proofs.Totals.{total_same, total_none}

-- What slot i gives the pair x, y, and what the test tells whether it joins the two.
abbrev pub gives : Store → ℕ → ℕ → ℕ → ℕ
gives s x y i = cond (same (s.low i) (s.high i) x y) (s.weight i) 0

abbrev pub Join : Store → ℕ → ℕ → ℕ → Bool → Type 0
Join s i x y t = Test (Same (s.low i) (s.high i) x y) (Apart (s.low i) (s.high i) x y) t

pub join_test : (s : Store) (i x y : ℕ) → Join s i x y (same (s.low i) (s.high i) x y)
join_test s i x y = same_test (s.low i) (s.high i) x y

-- Slot j has the same weight and cells in both.
abbrev pub Alike : Store → Store → ℕ → Type 0
Alike s t j = (t.weight j ≡ s.weight j) × (t.low j ≡ s.low j) × (t.high j ≡ s.high j)

pub graph_same : (s t : Store) (e : ℕ) → ((j : ℕ) → j < e → Alike s t j) → graph t e ≡ graph s e
unfolding graph
graph_same s t e h =
    fun_ext (λ x. fun_ext (λ y. total_same _ _ e (λ j l. rw ((h j l).0, (h j l).1, (h j l).2))))

-- Two cells that are the same as two others, in either order.
pub same_is : {a b x y : ℕ} → Same a b x y → same a b x y ≡ true
same_is {a} {b} (inl q) = rw (q.0, q.1) (same_self a b)
same_is {a} {b} (inr q) = rw (q.0, q.1) (same_turned a b b a ∙ same_self a b)

pub same_swap : {a b x y : ℕ} → Same a b x y → Same a b y x
same_swap (inl q) = inr (q.1, q.0)
same_swap (inr q) = inl (q.1, q.0)

pub apart_not : {a b x y : ℕ} → Same a b x y → Apart a b x y → ⊥
apart_not (inl q) (inl n, m) = n q.0
apart_not (inl q) (inr n, m) = n q.1
apart_not (inr q) (m, inl n) = n q.0
apart_not (inr q) (m, inr n) = n q.1

-- ---- a graph of 1,024 cells

graph_turned : (s : Store) (e x y : ℕ) → graph s e x y ≡ graph s e y x
unfolding graph
graph_turned s e x y =
    total_same _ _ e (λ j l. ap (λ (t : Bool). cond t (s.weight j) 0) (same_turned (s.low j) (s.high j) x y))

pub graph_same_pair : (s : Store) (e : ℕ) {a b x y : ℕ} → Same a b x y → graph s e x y ≡ graph s e a b
graph_same_pair s e {a} {b} (inl q) = rw (q.0, q.1)
graph_same_pair s e {a} {b} (inr q) = rw (q.0, q.1) (graph_turned s e b a)

pub graph_none : (s : Store) (e x y : ℕ) → ((j : ℕ) → j < e → Same (s.low j) (s.high j) x y → ⊥) → graph s e x y ≡ 0
unfolding graph
graph_none s e x y n = total_none _ e (λ j l. rw (fails (join_test s j x y) (n j l)))

pub slots_graph : (e : ℕ) (s : Store) → Slots e s → Graph 1024 (graph s e)
slots_graph e s h = record {
  turned = graph_turned s e;
  loop = λ a. graph_none s e a a (λ j l q. no_loop a j l q);
  top = λ a b k. graph_none s e a b (λ j l q. no_top a b k j l q);
}
  where
    no_loop : (a j : ℕ) → j < e → Same (s.low j) (s.high j) a a → ⊥
    no_loop a j l (inl q) = omega (arith, q.0, q.1, h.cells j l)
    no_loop a j l (inr q) = omega (arith, q.0, q.1, h.cells j l)

    no_top : (a b : ℕ) → 1024 ≤ b → (j : ℕ) → j < e → Same (s.low j) (s.high j) a b → ⊥
    no_top a b k j l (inl q) = omega (arith, q.1, h.cells j l)
    no_top a b k j l (inr q) = omega (arith, q.1, h.cells j l)

pub holds_graph : {e : ℕ} {w1 w2 : List ℕ} → Holds e w1 w2 → Graph 1024 (graph_of e w1)
unfolding graph
holds_graph {e} {w1} {w2} h = slots_graph e (store w1 w2) h.slots

-- ---- one slot more

pub graph_suc : (s : Store) (e x y : ℕ) → graph s (suc e) x y ≡ gives s x y e + graph s e x y
unfolding graph total
graph_suc s e x y = refl

-- It is gone, or it is the first of its pair.
pub graph_gone : (s : Store) (e : ℕ) → s.weight e ≡ 0 → graph s (suc e) ≡ graph s e
graph_gone s e z = fun_ext (λ x. fun_ext (λ y. graph_suc s e x y ∙ go x y (same (s.low e) (s.high e) x y)))
  where
    go : (x y : ℕ) (t : Bool) → cond t (s.weight e) 0 + graph s e x y ≡ graph s e x y
    go x y true = omega arith
    go x y false = omega arith

pub graph_put : (s : Store) (e : ℕ) → graph s e (s.low e) (s.high e) ≡ 0
    → graph s (suc e) ≡ put (s.low e) (s.high e) (s.weight e) (graph s e)
unfolding put
graph_put s e z = fun_ext (λ x. fun_ext (λ y. graph_suc s e x y ∙ go x y (join_test s e x y)))
  where
    go : (x y : ℕ) {t : Bool} → Join s e x y t
        → cond t (s.weight e) 0 + graph s e x y ≡ cond t (s.weight e) (graph s e x y)
    go x y (pass q) = omega (arith, graph_same_pair s e q)
    go x y (fail n) = omega arith

-- ---- a live slot

pub alone : (s : Store) (e i : ℕ) → i < e → ((j : ℕ) → j < e → graph s j (s.low j) (s.high j) ≡ 0) → 0 < s.weight i
    → graph s e (s.low i) (s.high i) ≡ s.weight i
unfolding graph total
alone s zero i l o pos = omega arith
alone s (suc e) i l o pos = go (eq_test e i) (λ k. alone s e i k (λ j m. o j (omega arith)) pos)
  where
    at : graph s e (s.low i) (s.high i) ≡ s.weight i → {r : Bool} → Join s e (s.low i) (s.high i) r
        → cond r (s.weight e) 0 + graph s e (s.low i) (s.high i) ≡ s.weight i
    at g (pass q) = omega (arith, graph_same_pair s e q, o e (omega arith))
    at g (fail n) = omega arith

    go : {r : Bool} → Test (e ≡ i) (e ≢ i) r → (i < e → graph s e (s.low i) (s.high i) ≡ s.weight i)
        → gives s (s.low i) (s.high i) e + graph s e (s.low i) (s.high i) ≡ s.weight i
    go (pass q) f = rw (q, same_self (s.low i) (s.high i)) (omega (arith, o i (omega arith)))
    go (fail n) f = at (f (omega arith)) (join_test s e (s.low i) (s.high i))

-- The points of a pair that a live slot joins.
pub joins_points : {e : ℕ} {w1 w2 : List ℕ} {i x y : ℕ} → Holds e w1 w2 → Joins e w1 i x y
    → graph_of e w1 x y ≡ get_or w1 i 0
unfolding graph
joins_points {e} {w1} {w2} {i} {x} {y} h j =
    graph_same_pair (store w1 w2) e (holds (join_test (store w1 w2) i x y) j.cells)
    ∙ alone (store w1 w2) e i j.below h.slots.once j.live

-- ---- no slots

pub holds_none : (w1 w2 : List ℕ) → 8192 ≤ length w1 → 8192 ≤ length w2 → NoSlots 1024 w2 → Holds 0 w1 w2
unfolding total last graph
holds_none w1 w2 r1 r2 n = record {
  room1 = r1;
  room2 = r2;
  slots = record {
    most = omega arith;
    cells = λ i l. absurd (omega arith);
    once = λ i l. absurd (omega arith);
    links = λ i l. absurd (omega arith);
    sums = λ c l. (n c l).0;
    lasts = λ c l. (n c l).1;
  };
}

pub holds_empty : (w1 w2 : List ℕ) (n : ℕ) → 8192 ≤ length w1 → 8192 ≤ n → w2 ≡ replicate n 0
    → Holds 0 w1 w2 × (graph_of 0 w1 ≡ λ a b. 0)
unfolding graph total
holds_empty w1 w2 n r1 r2 e =
    (holds_none w1 w2 r1 (omega (arith, ap length e, length-replicate {A = ℕ} n 0)) none, refl)
  where
    zero_at : (j : ℕ) → j < n → get_or w2 j 0 ≡ 0
    zero_at j l = rw (e, get_or-replicate {A = ℕ} n j 0 0 l)

    none : NoSlots 1024 w2
    none c l = (zero_at (at_sums + c) (omega arith), zero_at (at_lasts + c) (omega arith))
