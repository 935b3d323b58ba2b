-- Gone slots are dropped in place. In order: cells whose words are cleared have no slot (`cleared_none`), and nothing
-- aside changed; the slots met so far stand packed (`Packed`, `pack_start`, `pack_live`, `pack_dead`, `pack_end`).
-- Assumes nothing.
use mathlib.Core.Path.{◌≡◌, refl, sym, subst, ◌∙◌}
use mathlib.Core.Logic.{inl, inr}
use mathlib.Core.List.{List, []}
use Prim.Native.Nat.{ℕ, ◌+◌, ◌≤◌, ◌<◌}
use native.Mathlib.Omega.{arith}
use native.Mathlib.Numerals.{add-one}
use lib.ListN.{length, get_or, take, drop, replicate}
use borrow.Rule.Slice.PartMut.{put_mid}
use Rattle.buffers.proofs.Filled.{zero_in, same_out, as_long}
use Rattle.buffers.specs.Map.{at_cells, at_sums, at_lasts}
use Rattle.matching.specs.Graph.{put}
use Rattle.slots.specs.Slots.{total, store, graph, graph_of, low_of, high_of, Aside, Beyond, NoSlots, live}
use Rattle.slots.specs.Working.{graph_in, SameBuffers, Changes}
use Rattle.slots.specs.declared.graph.WorkingGraph.{WorkingGraph}
use Rattle.slots.proofs.Working.{buffers_on}
use Rattle.slots.proofs.Stores.{aside_on}
use Rattle.slots.proofs.Graphs.{graph_gone, graph_put}
use Rattle.slots.proofs.Lives.{live_none, live_more, live_past}

-- ---- cells without slots

-- The words of the cells are cleared.
module _ (w x : List ℕ) (room : 8192 ≤ length w) (q : x ≡ replicate (length (take 2048 (drop 4096 w))) 0) where
  pub cleared_none : NoSlots 1024 (put_mid 4096 2048 w x)
  cleared_none c l = let z = zero_in w x 4096 2048 (omega arith) q in
      (z (at_sums + c) (omega arith) (omega arith), z (at_lasts + c) (omega arith) (omega arith))

  pub cleared_aside : Aside w (put_mid 4096 2048 w x)
  cleared_aside j (inl l) = same_out w x 4096 2048 (omega arith) q j (inl l)
  cleared_aside j (inr l) = same_out w x 4096 2048 (omega arith) q j (inr l)

  pub cleared_long : length (put_mid 4096 2048 w x) ≡ length w
  cleared_long = as_long w x 4096 2048 (omega arith) q

-- ---- the slots met so far

-- The live slots of g below i stand packed in g'; those from i on are as they were.
pub record Packed (g g' : WorkingGraph) (i : ℕ) : Type 0 where
  pub at : i ≤ g.slots
  pub fewer : g'.slots ≤ i
  pub changes : Changes (live i g.w1.now) (graph_of i g.w1.now) g g'
  pub rest : (k : ℕ) → i ≤ k → k < g.slots → (get_or g'.w1.now k 0 ≡ get_or g.w1.now k 0)
      × (get_or g'.w1.now (at_cells + k) 0 ≡ get_or g.w1.now (at_cells + k) 0)

pub pack_start : {g g' : WorkingGraph} → g'.slots ≡ 0 → g'.w1.now ≡ g.w1.now → Aside g.w2.now g'.w2.now
    → SameBuffers g g' → Packed g g' 0
unfolding total graph
pack_start {g} {g'} z q a b = record {
  at = omega arith;
  fewer = omega (arith, z);
  changes = record { slots = z ∙ sym (live_none g.w1.now); graph = rw z refl; aside = a; buffers = b };
  rest = λ k l m. rw q (refl, refl);
}

module _ {g g' : WorkingGraph} {i : ℕ} (p : Packed g g' i) (l : i < g.slots) where
  here : (get_or g'.w1.now i 0 ≡ get_or g.w1.now i 0)
      × (get_or g'.w1.now (at_cells + i) 0 ≡ get_or g.w1.now (at_cells + i) 0)
  here = p.rest i (omega arith) l

  pub pack_cells : (low_of g'.w1.now i < high_of g'.w1.now i) × (high_of g'.w1.now i < 1024)
  pack_cells = rw here.1 (g.holds.slots.cells i l)

  none_yet : graph_of i g.w1.now (low_of g.w1.now i) (high_of g.w1.now i) ≡ 0
  unfolding graph
  none_yet = g.holds.slots.once i l

  pub pack_absent : graph_in g' (low_of g'.w1.now i) (high_of g'.w1.now i) ≡ 0
  pack_absent = rw (here.1, p.changes.graph) none_yet

  pub pack_dead : get_or g'.w1.now i 0 ≡ 0 → Packed g g' (i + 1)
  pack_dead z =
      record {
        at = omega arith;
        fewer = omega (arith, p.fewer);
        changes = record {
          slots = omega (arith, p.changes.slots, live_past i g.w1.now (sym here.0 ∙ z));
          graph = p.changes.graph ∙ rw add-one (sym (graph_gone (store g.w1.now []) i (sym here.0 ∙ z)));
          aside = p.changes.aside;
          buffers = p.changes.buffers;
        };
        rest = λ k a b. p.rest k (omega arith) b;
      }

  pub pack_live : {g'' : WorkingGraph} {a b : ℕ} → a ≡ low_of g'.w1.now i → b ≡ high_of g'.w1.now i
      → 0 < get_or g'.w1.now i 0
      → Changes (g'.slots + 1) (put a b (get_or g'.w1.now i 0) (graph_in g')) g' g''
      → Beyond g'.slots g'.w1.now g''.w1.now
      → Packed g g'' (i + 1)
  pack_live {g''} qa qb pos h b =
      record {
        at = omega arith;
        fewer = omega (arith, p.fewer, h.slots);
        changes = record {
          slots = omega (arith, h.slots, p.changes.slots, live_more i g.w1.now (omega (arith, here.0)));
          graph =
              h.graph
              ∙ rw (qa, qb, here.0, here.1, p.changes.graph, add-one)
              (sym (graph_put (store g.w1.now []) i none_yet));
          aside = aside_on g.w2.now g'.w2.now g''.w2.now p.changes.aside h.aside;
          buffers = buffers_on p.changes.buffers h.buffers;
        };
        rest = λ k a m. (
          b k (omega (arith, p.fewer)) (omega (arith, g.holds.slots.most)) ∙ (p.rest k (omega arith) m).0,
          b (at_cells + k) (omega (arith, p.fewer, g.holds.slots.most)) (omega (arith, p.fewer))
              ∙ (p.rest k (omega arith) m).1,
        );
      }

pub pack_end : {g g' : WorkingGraph} {i : ℕ} → Packed g g' i → g.slots ≤ i
    → Changes (live g.slots g.w1.now) (graph_in g) g g' × (g'.slots ≤ g.slots)
pack_end {g} {g'} {i} p l =
    let q : i ≡ g.slots = omega (arith, p.at) in
    (subst (λ (k : ℕ). Changes (live k g.w1.now) (graph_of k g.w1.now) g g') q p.changes, omega (arith, p.fewer))
