-- The weight of slot i gets less. In order: over what the words say (`weigh_slots`, `weigh_put`); the sums of a live
-- slot's cells hold its keys; over the buffers, where the slot stays live (`lessen_holds`) or its pair goes
-- (`kill_holds`). Assumes nothing.
use mathlib.Core.Path.{◌≡◌, refl, sym, ap, ap₂, ◌∙◌, fun_ext}
use mathlib.Core.Logic.{◌≢◌}
use mathlib.Core.Bool.{Bool, true, false, cond}
use mathlib.Core.List.{List}
use Prim.Native.Nat.{ℕ, ◌+◌, ◌≤◌, ◌<◌}
use native.Mathlib.Omega.{arith}
use lib.ListN.{length, get_or, set}
use Rattle.buffers.specs.Map.{at_cells, at_sums, at_lasts}
use Rattle.matching.specs.Pairs.{same}
use Rattle.matching.specs.Graph.{put}
use Rattle.matching.proofs.Tests.{Test, pass, fail, eq_test}
use Rattle.slots.specs.Slots.{key, key_at, Store, store, graph, last, Slots, Holds, graph_of, low_of, high_of, Added}
use Rattle.slots.specs.Slots.{Changed}
use Rattle.slots.proofs.Totals.{total_le, total_but, total_at}
use Rattle.slots.proofs.Keys.{key_of, key_dead, key_low, key_high, key_off, key_live}
use Rattle.slots.proofs.Stores.{stored, elsewhere, as_long, aside_added}
use Rattle.slots.proofs.Graphs.{gives, Join, join_test, graph_same_pair, alone}
use Rattle.slots.proofs.Links.{last_same}

-- ---- over what the words say

pub record Reweighed (s t : Store) (i : ℕ) : Type 0 where
  pub weights : (j : ℕ) → j ≢ i → t.weight j ≡ s.weight j
  pub cells : (j : ℕ) → (t.low j ≡ s.low j) × (t.high j ≡ s.high j)
  pub links : (j : ℕ) → (t.low_link j ≡ s.low_link j) × (t.high_link j ≡ s.high_link j)
  pub lasts : (c : ℕ) → c < 1024 → t.lasts c ≡ s.lasts c
  pub less : t.weight i ≤ s.weight i
  pub sums : (c : ℕ) → c < 1024
      → t.sums c + key_of s c i ≡ s.sums c + key_at c (t.weight i) (s.low i) (s.high i) i

cond_le : (r : Bool) {x y : ℕ} → x ≤ y → cond r x 0 ≤ cond r y 0
cond_le true h = h
cond_le false h = omega arith

module _ (s t : Store) (e i : ℕ) (h : Slots e s) (p : Reweighed s t i) (le : i < e) where
  weight_le : (j : ℕ) → t.weight j ≤ s.weight j
  weight_le j = go (eq_test j i)
    where
      go : {r : Bool} → Test (j ≡ i) (j ≢ i) r → t.weight j ≤ s.weight j
      go (pass q) = rw q p.less
      go (fail n) = omega (arith, p.weights j n)

  graph_le : (j x y : ℕ) → graph t j x y ≤ graph s j x y
  unfolding graph
  graph_le j x y =
      total_le _ _ j
      (λ k l. rw ((p.cells k).0, (p.cells k).1) (cond_le (same (s.low k) (s.high k) x y) (weight_le k)))

  last_kept : (c j : ℕ) → last t c j ≡ last s c j
  last_kept c j = last_same s t c j (λ k l. p.cells k)

  pub weigh_slots : Slots e t
  weigh_slots = record {
    most = h.most;
    cells = λ j l. rw ((p.cells j).0, (p.cells j).1) (h.cells j l);
    once = λ j l. rw ((p.cells j).0, (p.cells j).1) (omega (arith, graph_le j (s.low j) (s.high j), h.once j l));
    links = λ j l. (
      rw ((p.cells j).0, (p.links j).0, last_kept) (h.links j l).0,
      rw ((p.cells j).1, (p.links j).1, last_kept) (h.links j l).1,
    );
    sums = λ c l.
        omega (
          arith,
          p.sums c l,
          h.sums c l,
          total_but (key_of t c) (key_of s c) e i le (λ j n. rw (p.weights j n, (p.cells j).0, (p.cells j).1)),
          ap₂ (λ (a b : ℕ). key_at c (t.weight i) a b i) (p.cells i).0 (p.cells i).1,
        );
    lasts = λ c l. rw (p.lasts c l, last_kept) (h.lasts c l);
  }

  pub weigh_put : 0 < s.weight i → (x y : ℕ)
      → graph t e x y ≡ put (s.low i) (s.high i) (t.weight i) (graph s e) x y
  unfolding graph put
  weigh_put pos x y = go (join_test s i x y) (rw ((p.cells i).0, (p.cells i).1) at moved)
    where
      moved : graph t e x y + gives s x y i ≡ graph s e x y + gives t x y i
      moved =
          total_but (gives t x y) (gives s x y) e i le (λ j n. rw (p.weights j n, (p.cells j).0, (p.cells j).1))

      go : {r : Bool} → Join s i x y r
          → graph t e x y + cond r (s.weight i) 0 ≡ graph s e x y + cond r (t.weight i) 0
          → graph t e x y ≡ cond r (t.weight i) (graph s e x y)
      go (pass q) m = omega (arith, graph_same_pair s e q, alone s e i le h.once pos)
      go (fail n) m = omega arith

-- ---- the sums of a live slot's cells

module _ (s : Store) (e : ℕ) (h : Slots e s) (i : ℕ) (l : i < e) (pos : 0 < s.weight i) where
  pub low_sum : key (s.high i) i ≤ s.sums (s.low i)
  low_sum =
      omega (
        arith,
        h.sums (s.low i) (omega (arith, h.cells i l)),
        total_at (key_of s (s.low i)) e i l,
        key_low (s.low i) (s.weight i) (s.low i) (s.high i) i pos refl,
      )

  pub high_sum : key (s.low i) i ≤ s.sums (s.high i)
  high_sum =
      omega (
        arith,
        h.sums (s.high i) (h.cells i l).1,
        total_at (key_of s (s.high i)) e i l,
        key_high (s.high i) (s.weight i) (s.low i) (s.high i) i pos (omega (arith, h.cells i l)) refl,
      )

-- ---- over the buffers

module _ (w1 w2 w1' w2' : List ℕ) (e i k : ℕ) (h : Holds e w1 w2) (le : i < e) (pos : 0 < get_or w1 i 0)
    (e1 : w1' ≡ set w1 i k) (less : k ≤ get_or w1 i 0) (len : length w2' ≡ length w2) where
  abbrev a : ℕ
  a = low_of w1 i

  abbrev b : ℕ
  b = high_of w1 i

  cell_kept : (j : ℕ) → get_or w1' (at_cells + j) 0 ≡ get_or w1 (at_cells + j) 0
  cell_kept j = elsewhere w1 i k e1 (at_cells + j) (omega (arith, h.slots.most))

  now_k : get_or w1' i 0 ≡ k
  now_k = stored w1 i k e1 (omega (arith, h.room1, h.slots.most))

  is_reweighed : ((c : ℕ) → c < 1024 → get_or w2' (at_lasts + c) 0 ≡ get_or w2 (at_lasts + c) 0)
      → ((c : ℕ) → c < 1024
      → get_or w2' (at_sums + c) 0 + key_at c (get_or w1 i 0) a b i ≡ get_or w2 (at_sums + c) 0 + key_at c k a b i)
      → Reweighed (store w1 w2) (store w1' w2') i
  is_reweighed f g = record {
    weights = elsewhere w1 i k e1;
    cells = λ j. (let q = cell_kept j in (rw q, rw q));
    links = λ j. (let q = cell_kept j in (rw q, rw q));
    lasts = f;
    less = rw now_k less;
    sums = λ c l. rw now_k (g c l);
  }

  holds_after : Reweighed (store w1 w2) (store w1' w2') i → Holds e w1' w2'
  holds_after p = record {
    room1 = omega (arith, as_long w1 i k e1, h.room1);
    room2 = omega (arith, h.room2);
    slots = weigh_slots (store w1 w2) (store w1' w2') e i h.slots p le;
  }

  pub kill_holds : k ≡ 0 → Added w2' w2 i a b → Changed e (put a b 0 (graph_of e w1)) w1' w2 w2'
  unfolding graph
  kill_holds z ad =
      record {
        holds = holds_after gone;
        graph =
            fun_ext (λ x. fun_ext (λ y.
            weigh_put (store w1 w2) (store w1' w2') e i h.slots gone le pos x y
            ∙ ap (λ (m : ℕ). put a b m (graph (store w1 w2) e) x y) (now_k ∙ z)));
        aside = λ j l. sym (aside_added ad (h.slots.cells i le).0 (h.slots.cells i le).1 j l);
      }
    where
      sum : (c : ℕ) → c < 1024 → {q r : Bool} → Test (c ≡ a) (c ≢ a) q → Test (c ≡ b) (c ≢ b) r
          → get_or w2' (at_sums + c) 0 + key_at c (get_or w1 i 0) a b i ≡ get_or w2 (at_sums + c) 0 + key_at c k a b i
      sum c l (pass q) y =
          rw q (omega (arith, ad.low, key_low a (get_or w1 i 0) a b i pos refl, key_dead a k a b i z))
      sum c l (fail n) (pass r) =
          rw r (
          omega (
            arith,
            ad.high,
            key_high b (get_or w1 i 0) a b i pos (omega (arith, h.slots.cells i le)) refl,
            key_dead b k a b i z,
          )
          )
      sum c l (fail n) (fail m) =
          omega (
            arith,
            ad.others (at_sums + c) (λ q. n (omega arith)) (λ q. m (omega arith)),
            key_dead c k a b i z,
            key_off c (get_or w1 i 0) a b i (λ q. n (sym q)) (λ q. m (sym q)),
          )

      gone : Reweighed (store w1 w2) (store w1' w2') i
      gone =
          is_reweighed (λ c l. sym (ad.others (at_lasts + c) (omega arith) (omega arith)))
          (λ c l. sum c l (eq_test c a) (eq_test c b))

  pub lessen_holds : w2' ≡ w2 → 0 < k → Holds e w1' w2'
  lessen_holds q p =
      holds_after (is_reweighed (λ c l. rw q) (λ c l. rw (q, key_live c (get_or w1 i 0) a b i k pos p)))
