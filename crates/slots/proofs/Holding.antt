-- What callers need of buffers that hold a graph, so that they never look into `Holds`. In order: their room; a word on
-- the trail or the slip changes nothing (`holds_kept`, `holds_aside`); a pair put in either order of its cells
-- (`put_turned`); the pair that a live slot joins, and the slots that stay when another goes (`joins_put`, `joins_one`,
-- `joins_pair`, `joins_other`). Assumes nothing.
use mathlib.Core.Path.{◌≡◌, refl, ap, ◌∙◌, fun_ext}
use mathlib.Core.Logic.{◌⊎◌, inl, inr, ◌≢◌}
use mathlib.Core.Bool.{cond, ◌&&◌}
use mathlib.Core.List.{List, []}
use Prim.Native.Nat.{ℕ, ◌+◌, ◌≤◌, ◌<◌}
use native.Mathlib.Omega.{arith}
use lib.Dec.{eqb}
use lib.ListN.{length, get_or, set}
use Rattle.buffers.specs.Map.{at_cells, trail_room, at_sums, at_lasts, at_names}
use Rattle.matching.specs.Pairs.{Points}
use Rattle.matching.specs.Graph.{put}
use Rattle.matching.proofs.Tests.{holds}
use Rattle.matching.proofs.Pairs.{Same}
use Rattle.matching.proofs.Sums.{or_turn}
use Rattle.slots.specs.Slots.{store, graph, last, Holds, graph_of, low_of, high_of, Joins}
use Rattle.slots.proofs.Stores.{elsewhere, as_long}
use Rattle.slots.proofs.Graphs.{join_test, joins_points}
use Rattle.slots.proofs.Links.{last_same}

-- ---- room

pub holds_room : {e : ℕ} {w1 w2 : List ℕ} → Holds e w1 w2 → (8192 ≤ length w1) × (8192 ≤ length w2) × (e ≤ 4096)
holds_room h = (h.room1, h.room2, h.slots.most)

-- ---- words aside

-- the graph's words of the second buffer stay
pub holds_kept : {e : ℕ} {w1 w2 : List ℕ} → Holds e w1 w2 → (v : List ℕ) → 8192 ≤ length v
    → ((j : ℕ) → at_sums ≤ j → j < at_names → get_or v j 0 ≡ get_or w2 j 0) → Holds e w1 v
unfolding graph
holds_kept {e} {w1} {w2} h v room same = record {
  room1 = h.room1;
  room2 = room;
  slots = record {
    most = h.slots.most;
    cells = h.slots.cells;
    once = h.slots.once;
    links = λ i m. (
      (h.slots.links i m).0 ∙ lasts_kept (low_of w1 i) i,
      (h.slots.links i m).1 ∙ lasts_kept (high_of w1 i) i,
    );
    sums = λ c m. same (at_sums + c) (omega arith) (omega arith) ∙ h.slots.sums c m;
    lasts = λ c m. same (at_lasts + c) (omega arith) (omega arith) ∙ h.slots.lasts c m ∙ lasts_kept c e;
  };
}
  where
    lasts_kept : (c i : ℕ) → last (store w1 w2) c i ≡ last (store w1 v) c i
    lasts_kept c i = last_same (store w1 v) (store w1 w2) c i (λ j m. (refl, refl))

-- a word of it that is not the graph's is set
pub holds_aside : {e : ℕ} {w1 w2 : List ℕ} → Holds e w1 w2 → (t k : ℕ) → (t < trail_room) ⊎ (at_names ≤ t)
    → Holds e w1 (set w2 t k)
holds_aside {w2 = w2} h t k off =
    holds_kept h (set w2 t k) (omega (arith, h.room2, as_long w2 t k refl))
    (λ j a b. elsewhere w2 t k refl j (apart j a b off))
  where
    apart : (j : ℕ) → at_sums ≤ j → j < at_names → (t < trail_room) ⊎ (at_names ≤ t) → j ≢ t
    apart j a b (inl l) = λ q. omega arith
    apart j a b (inr l) = λ q. omega arith

-- ---- the pair of a live slot

pub put_turned : (x y k : ℕ) (g : Points) → put x y k g ≡ put y x k g
unfolding put
put_turned x y k g =
    fun_ext (λ a. fun_ext (λ b. ap (λ t. cond t k (g a b)) (or_turn (eqb a x && eqb b y) (eqb a y && eqb b x))))

pub joins_cells : {e : ℕ} {w1 : List ℕ} {i x y : ℕ} → Joins e w1 i x y → Same (low_of w1 i) (high_of w1 i) x y
joins_cells {e} {w1} {i} {x} {y} j = holds (join_test (store w1 []) i x y) j.cells

pub joins_put : {e : ℕ} {w1 : List ℕ} {i x y : ℕ} → Joins e w1 i x y → (k : ℕ) (g : Points)
    → put (low_of w1 i) (high_of w1 i) k g ≡ put x y k g
joins_put {e} {w1} {i} {x} {y} j k g = go (joins_cells j)
  where
    go : Same (low_of w1 i) (high_of w1 i) x y → put (low_of w1 i) (high_of w1 i) k g ≡ put x y k g
    go (inl q) = rw (q.0, q.1)
    go (inr q) = put_turned (low_of w1 i) (high_of w1 i) k g ∙ rw (q.0, q.1)

pub joins_one : {e : ℕ} {w1 : List ℕ} {i x y a b : ℕ} → Joins e w1 i x y → Joins e w1 i a b → Same x y a b
joins_one {e} {w1} {i} {x} {y} {a} {b} j k = go (joins_cells j) (joins_cells k)
  where
    go : Same (low_of w1 i) (high_of w1 i) x y → Same (low_of w1 i) (high_of w1 i) a b → Same x y a b
    go (inl q) (inl r) = inl (cc, cc)
    go (inl q) (inr r) = inr (cc, cc)
    go (inr q) (inl r) = inr (cc, cc)
    go (inr q) (inr r) = inl (cc, cc)

pub joins_pair : {e : ℕ} {w1 w2 : List ℕ} {i x y : ℕ} → Holds e w1 w2 → Joins e w1 i x y → 0 < graph_of e w1 x y
joins_pair h j = omega (arith, joins_points h j, j.live)

pub joins_other : {e : ℕ} {w1 w2 : List ℕ} {i x y : ℕ} → Holds e w1 w2 → Joins e w1 i x y → (j : ℕ) → j < e → i ≢ j
    → Joins e (set w1 j 0) i x y
joins_other {e} {w1} {w2} {i} {x} {y} h k j l n = record {
  below = k.below;
  live = rw (elsewhere w1 j 0 refl i n) k.live;
  cells = rw (elsewhere w1 j 0 refl (at_cells + i) (omega (arith, h.slots.most))) k.cells;
}
