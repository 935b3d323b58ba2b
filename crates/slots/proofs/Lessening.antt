-- Every pair at u loses p. In order: where each slot of u has lost p, each pair at u has (`graph_less`); the loop over
-- the slots of u from the last one down (`Lessened`, `less_end`). Assumes nothing.
use mathlib.Core.Path.{◌≡◌, refl, ◌∙◌, fun_ext}
use mathlib.Core.Logic.{inl, inr}
use mathlib.Core.Bool.{Bool, true, false, cond}
use mathlib.Core.List.{[]}
use Prim.Native.Nat.{ℕ, zero, suc, ◌+◌, ◌-◌, ◌≤◌, ◌<◌}
use native.Mathlib.Omega.{arith}
use lib.Dec.{eqb}
use lib.ListN.{get_or}
use Rattle.buffers.specs.Map.{at_cells}
use Rattle.matching.specs.Pairs.{touches}
use Rattle.matching.proofs.Tests.{Test, pass, fail, lt_test}
use Rattle.matching.proofs.Pairs.{Same}
use Rattle.matching.proofs.Sums.{or_turn}
use Rattle.slots.specs.Slots.{total, Store, store, graph, low_of, high_of, Aside, less_all}
use Rattle.slots.specs.Found.{LastSlot}
use Rattle.slots.specs.Working.{graph_in, SameBuffers, Changes}
use Rattle.slots.specs.declared.graph.WorkingGraph.{WorkingGraph}
use Rattle.slots.proofs.Graphs.{Join, join_test, graph_same_pair}

-- ---- each slot of u has lost p

less_one : (c : Bool) (v g g' p : ℕ) → g ≡ 0 → g' ≡ cond c (g - p) g
    → cond c (v - p) v + g' ≡ cond c (v + g - p) (v + g)
less_one true v g g' p z q = omega arith
less_one false v g g' p z q = omega arith

less_past : (c : Bool) (g g' p : ℕ) → g' ≡ cond c (g - p) g → 0 + g' ≡ cond c (0 + g - p) (0 + g)
less_past true g g' p q = omega arith
less_past false g g' p q = omega arith

less_none : (c : Bool) (p : ℕ) → ◌≡◌ {A = ℕ} 0 (cond c (0 - p) 0)
less_none true p = omega arith
less_none false p = refl

touches_same : (u : ℕ) {a b x y : ℕ} → Same a b x y → touches u x y ≡ touches u a b
touches_same u (inl q) = rw (q.0, q.1)
touches_same u {a} {b} (inr q) = rw (q.0, q.1) (or_turn (eqb b u) (eqb a u))

module _ (s t : Store) (u p : ℕ) where
  graph_less : (e : ℕ) → ((j : ℕ) → j < e → graph s j (s.low j) (s.high j) ≡ 0)
      → ((j : ℕ) → j < e → (t.low j ≡ s.low j) × (t.high j ≡ s.high j)
      × (t.weight j ≡ cond (touches u (s.low j) (s.high j)) (s.weight j - p) (s.weight j)))
      → (x y : ℕ) → graph t e x y ≡ cond (touches u x y) (graph s e x y - p) (graph s e x y)
  unfolding graph total
  graph_less zero o k x y = less_none (touches u x y) p
  graph_less (suc e) o k x y =
      rw ((k e (omega arith)).0, (k e (omega arith)).1, (k e (omega arith)).2)
      (go (join_test s e x y) (graph_less e (λ j l. o j (omega arith)) (λ j l. k j (omega arith)) x y))
    where
      go : {r : Bool} → Join s e x y r
          → graph t e x y ≡ cond (touches u x y) (graph s e x y - p) (graph s e x y)
          → cond r (cond (touches u (s.low e) (s.high e)) (s.weight e - p) (s.weight e)) 0 + graph t e x y
          ≡ cond (touches u x y) (cond r (s.weight e) 0 + graph s e x y - p) (cond r (s.weight e) 0 + graph s e x y)
      go (pass q) i =
          rw (← touches_same u q) (
          less_one (touches u x y) (s.weight e) (graph s e x y) (graph t e x y) p
          (graph_same_pair s e q ∙ o e (omega arith)) i
          )
      go (fail n) i = less_past (touches u x y) (graph s e x y) (graph t e x y) p i

-- ---- the loop over the slots of u

-- The slots from `to` on have lost p where they have u, those below have not; i names the last of u below `to`.
pub record Lessened (u p : ℕ) (g g' : WorkingGraph) (i : ℕ) : Type 0 where
  pub slots : g'.slots ≡ g.slots
  pub aside : Aside g.w2.now g'.w2.now
  pub buffers : SameBuffers g g'
  pub cells : (j : ℕ) → get_or g'.w1.now (at_cells + j) 0 ≡ get_or g.w1.now (at_cells + j) 0
  pub to : ℕ
  pub top : to ≤ g.slots
  pub next : LastSlot g'.w1.now u to i
  pub done : (j : ℕ) → to ≤ j → j < g.slots → get_or g'.w1.now j 0
      ≡ cond (touches u (low_of g.w1.now j) (high_of g.w1.now j)) (get_or g.w1.now j 0 - p) (get_or g.w1.now j 0)
  pub left : (j : ℕ) → j < to → get_or g'.w1.now j 0 ≡ get_or g.w1.now j 0

module _ {u p : ℕ} {g0 g : WorkingGraph} {i : ℕ} (h : Lessened u p g0 g i) where
  pub less_end : i ≡ 0 → Changes g0.slots (less_all u p (graph_in g0)) g0 g
  unfolding less_all graph
  less_end z =
      record {
        slots = h.slots;
        graph =
            rw h.slots
            (fun_ext (λ x. fun_ext (λ y.
            graph_less (store g0.w1.now []) (store g.w1.now []) u p g0.slots g0.holds.slots.once
            (λ j l. (rw (h.cells j), rw (h.cells j), weight j l (lt_test j h.to))) x y)));
        aside = h.aside;
        buffers = h.buffers;
      }
    where
      weight : (j : ℕ) → j < g0.slots → {t : Bool} → Test (j < h.to) (h.to ≤ j) t
          → get_or g.w1.now j 0 ≡ cond (touches u (low_of g0.w1.now j) (high_of g0.w1.now j))
          (get_or g0.w1.now j 0 - p) (get_or g0.w1.now j 0)
      weight j l (pass k) = rw (← h.cells j, h.next.past j (omega arith) k) (h.left j k)
      weight j l (fail k) = h.done j k l
