-- The leaf step over slots is the graph's: the pair of the leaf goes, then every pair at its partner loses its points.
-- Assumes nothing.
use mathlib.Core.Path.{◌≡◌, refl, sym, ap, ◌∙◌, fun_ext}
use mathlib.Core.Logic.{◌⊎◌, inl, inr, ◌≢◌}
use mathlib.Core.Bool.{Bool, true, false, cond}
use mathlib.Core.List.{[], ◌∷◌}
use Prim.Native.Nat.{ℕ, ◌-◌, ◌≤◌, ◌<◌}
use native.Mathlib.Omega.{arith}
use lib.ListN.{get_or}
use Rattle.matching.specs.Pairs.{Points, touches}
use Rattle.matching.specs.Graph.{Graph, partners, put}
use Rattle.matching.specs.Steps.{leafed}
use Rattle.matching.proofs.Tests.{Test, pass, fail, lt_test, holds}
use Rattle.matching.proofs.Members.{mem_one}
use Rattle.matching.proofs.Pairs.{Same, Apart, same_test}
use Rattle.matching.proofs.Sums.{touches_test}
use Rattle.matching.proofs.Partners.{has_partner}
use Rattle.slots.specs.Slots.{store, low_of, high_of, Joins, less_all}
use Rattle.slots.specs.Working.{graph_in, Changes}
use Rattle.slots.specs.declared.graph.WorkingGraph.{WorkingGraph}
use Rattle.slots.proofs.Working.{buffers_on}
use Rattle.slots.proofs.Stores.{aside_on}
use Rattle.slots.proofs.Graphs.{join_test, same_swap, apart_not, holds_graph, joins_points}

-- A cell with one partner has no other pair.
pub only_pair : {n : ℕ} {g : Points} → Graph n g → (u v : ℕ) → partners n g v ≡ u ∷ [] → (c : ℕ) → c ≢ u → g v c ≡ 0
only_pair {n} {g} G u v e c k = go (lt_test 0 (g v c))
  where
    go : {t : Bool} → Test (0 < g v c) (g v c ≤ 0) t → g v c ≡ 0
    go (pass p) = absurd (k (sym (mem_one c u (rw e at (has_partner G v c p)))))
    go (fail p) = omega arith

module _ {n : ℕ} {g : Points} (G : Graph n g) (u v x y p : ℕ) (is : Same x y u v)
    (only : (c : ℕ) → c ≢ u → g v c ≡ 0) (ep : p ≡ g u v) where
  apart_none : (a b : ℕ) → (a ≡ v) ⊎ (b ≡ v) → Apart x y a b → g a b ≡ 0
  apart_none a b (inl q) n = rw q (only b (λ z. apart_not (rw (q, z) (same_swap is)) n))
  apart_none a b (inr q) n = rw q (G.turned a v ∙ only a (λ z. apart_not (rw (q, z) is) n))

  same_on : (a b : ℕ) → Same x y a b → Same x y u v → (a ≢ v) × (b ≢ v) → ⊥
  same_on a b (inl q) (inl k) n = n.1 (q.1 ∙ sym k.1)
  same_on a b (inl q) (inr k) n = n.0 (q.0 ∙ sym k.1)
  same_on a b (inr q) (inl k) n = n.0 (q.0 ∙ sym k.1)
  same_on a b (inr q) (inr k) n = n.1 (q.1 ∙ sym k.1)

  leaf_at : (a b : ℕ) → less_all u p (put x y 0 g) a b ≡ leafed g u v a b
  unfolding less_all put leafed
  leaf_at a b = go (same_test x y a b) (touches_test v a b) (touches u a b)
    where
      go : {r t : Bool} → Test (Same x y a b) (Apart x y a b) r → Test ((a ≡ v) ⊎ (b ≡ v)) ((a ≢ v) × (b ≢ v)) t
          → (q : Bool) → cond q (cond r 0 (g a b) - p) (cond r 0 (g a b)) ≡ cond t 0 (cond q (g a b - g u v) (g a b))
      go (pass k) (pass m) true = omega arith
      go (pass k) (pass m) false = refl
      go (pass k) (fail m) q = absurd (same_on a b k is m)
      go (fail k) (pass m) true = omega (arith, apart_none a b m k)
      go (fail k) (pass m) false = apart_none a b m k
      go (fail k) (fail m) true = ap (λ (z : ℕ). g a b - z) ep
      go (fail k) (fail m) false = refl

pub leaf_holds : {u v i : ℕ} {g g' g'' : WorkingGraph} → Joins g.slots g.w1.now i u v
    → partners 1024 (graph_in g) v ≡ u ∷ []
    → Changes g.slots (put (low_of g.w1.now i) (high_of g.w1.now i) 0 (graph_in g)) g g'
    → Changes g'.slots (less_all u (get_or g.w1.now i 0) (graph_in g')) g' g''
    → (get_or g.w1.now i 0 ≡ graph_in g u v) × Changes g.slots (leafed (graph_in g) u v) g g''
leaf_holds {u} {v} {i} {g} {g'} {g''} j one k l = (
  points,
  record {
    slots = l.slots ∙ k.slots;
    graph = l.graph ∙ ap (less_all u (get_or g.w1.now i 0)) k.graph ∙ fun_ext (λ a. fun_ext (λ b. step a b));
    aside = aside_on g.w2.now g'.w2.now g''.w2.now k.aside l.aside;
    buffers = buffers_on k.buffers l.buffers;
  },
)
  where
    points : get_or g.w1.now i 0 ≡ graph_in g u v
    points = sym (joins_points g.holds j)

    step : (a b : ℕ)
        → less_all u (get_or g.w1.now i 0) (put (low_of g.w1.now i) (high_of g.w1.now i) 0 (graph_in g)) a b
        ≡ leafed (graph_in g) u v a b
    step =
        leaf_at (holds_graph g.holds) u v (low_of g.w1.now i) (high_of g.w1.now i) (get_or g.w1.now i 0)
        (holds (join_test (store g.w1.now []) i u v) j.cells) (only_pair (holds_graph g.holds) u v one) points
