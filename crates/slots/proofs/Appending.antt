-- Slot e gets a pair that the slots before it do not hold. In order: over what the words say (`append_slots`,
-- `append_put`); what room there is; over the buffers (`append_holds`). Assumes nothing.
use mathlib.Core.Path.{◌≡◌, refl, sym, ◌∙◌}
use mathlib.Core.Logic.{◌≢◌}
use mathlib.Core.Bool.{Bool, cond, ◌||◌}
use mathlib.Core.List.{List}
use Prim.Native.Nat.{ℕ, suc, ◌+◌, ◌*◌, ◌≤◌, ◌<◌}
use native.Mathlib.Omega.{arith}
use native.Mathlib.Numerals.{add-one}
use lib.ListN.{length, get_or, set}
use Rattle.buffers.specs.Map.{at_cells, at_sums, at_lasts}
use Rattle.matching.specs.Pairs.{touches}
use Rattle.matching.specs.Graph.{put}
use Rattle.matching.proofs.Tests.{Test, pass, fail, eq_test}
use Rattle.slots.specs.Slots.{total, key, key_at, Store, store, graph, last, Slots, Holds, graph_of, Added, Changed}
use Rattle.slots.proofs.Totals.{total_same, total_most}
use Rattle.slots.proofs.Keys.{key_of, key_low, key_high, key_off, key_most}
use Rattle.slots.proofs.Stores.{stored_first, stored_last, elsewhere_both, as_long_both, aside_both, aside_added}
use Rattle.slots.proofs.Stores.{aside_on}
use Rattle.slots.proofs.Graphs.{Alike, graph_same, graph_put}
use Rattle.slots.proofs.Links.{last_same, last_is}

-- ---- over what the words say

record Appended (s t : Store) (e a b k : ℕ) : Type 0 where
  pub old : (j : ℕ) → j < e → Alike s t j × (t.low_link j ≡ s.low_link j) × (t.high_link j ≡ s.high_link j)
  pub weight : t.weight e ≡ k
  pub low : t.low e ≡ a
  pub high : t.high e ≡ b
  pub low_link : t.low_link e ≡ s.lasts a
  pub high_link : t.high_link e ≡ s.lasts b
  pub low_sum : t.sums a ≡ s.sums a + key b e
  pub high_sum : t.sums b ≡ s.sums b + key a e
  pub low_last : t.lasts a ≡ suc e
  pub high_last : t.lasts b ≡ suc e
  pub others : (c : ℕ) → c < 1024 → c ≢ a → c ≢ b → (t.sums c ≡ s.sums c) × (t.lasts c ≡ s.lasts c)

module _ (s t : Store) (e a b k : ℕ) (h : Slots e s) (p : Appended s t e a b k) (le : e < 4096) (pos : 0 < k)
    (lt : a < b) (lb : b < 1024) (absent : graph s e a b ≡ 0) where
  alike : (j : ℕ) → j < e → Alike s t j
  alike j l = (p.old j l).0

  graph_old : (i : ℕ) → i < suc e → graph t i ≡ graph s i
  graph_old i l = graph_same s t i (λ j k. alike j (omega arith))

  absent_still : graph t e (t.low e) (t.high e) ≡ 0
  absent_still = rw (p.low, p.high, graph_old e (omega arith)) absent

  append_put : graph t (suc e) ≡ put a b k (graph s e)
  append_put = graph_put t e absent_still ∙ rw (p.weight, p.low, p.high, graph_old e (omega arith))

  -- what holds of the old slots and of the new one holds of all
  old_new : (P : ℕ → Type 0) → ((i : ℕ) → i < e → P i) → P e → (j : ℕ) → j < suc e → P j
  old_new P f z j l = go (eq_test j e)
    where
      go : {r : Bool} → Test (j ≡ e) (j ≢ e) r → P j
      go (pass q) = rw q z
      go (fail n) = f j (omega arith)

  last_old : (c i : ℕ) → i < suc e → last t c i ≡ last s c i
  last_old c i l = last_same s t c i (λ j k. ((alike j (omega arith)).1, (alike j (omega arith)).2))

  sums_old : (c : ℕ) → total (key_of t c) e ≡ total (key_of s c) e
  sums_old c = total_same _ _ e (λ j l. rw ((alike j l).0, (alike j l).1, (alike j l).2))

  sums_new : (c : ℕ) → c < 1024 → t.sums c ≡ s.sums c + key_at c k a b e
  sums_new c l = go (eq_test c a) (eq_test c b)
    where
      go : {q r : Bool} → Test (c ≡ a) (c ≢ a) q → Test (c ≡ b) (c ≢ b) r → t.sums c ≡ s.sums c + key_at c k a b e
      go (pass q) y = rw q (omega (arith, p.low_sum, key_low a k a b e pos refl))
      go (fail n) (pass r) = rw r (omega (arith, p.high_sum, key_high b k a b e pos (omega arith) refl))
      go (fail n) (fail m) =
          omega (arith, (p.others c l n m).0, key_off c k a b e (λ q. n (sym q)) (λ q. m (sym q)))

  lasts_new : (c : ℕ) → c < 1024 → t.lasts c ≡ cond (touches c a b) (suc e) (last s c e)
  lasts_new c l = go (eq_test a c) (eq_test b c)
    where
      go : {q r : Bool} → Test (a ≡ c) (a ≢ c) q → Test (b ≡ c) (b ≢ c) r
          → t.lasts c ≡ cond (q || r) (suc e) (last s c e)
      go (pass q) y = rw (← q) p.low_last
      go (fail n) (pass r) = rw (← r) p.high_last
      go (fail n) (fail m) = (p.others c l (λ q. n (sym q)) (λ q. m (sym q))).1 ∙ h.lasts c l

  append_slots : Slots (suc e) t
  unfolding total last
  append_slots = record {
    most = omega arith;
    cells =
        old_new (λ i. (t.low i < t.high i) × (t.high i < 1024))
        (λ i m. rw ((alike i m).1, (alike i m).2) (h.cells i m))
        (rw (p.low, p.high) (lt, lb));
    once =
        old_new (λ i. graph t i (t.low i) (t.high i) ≡ 0)
        (λ i m. rw ((alike i m).1, (alike i m).2, graph_old i (omega arith)) (h.once i m)) absent_still;
    links =
        old_new (λ i. (t.low_link i ≡ last t (t.low i) i) × (t.high_link i ≡ last t (t.high i) i))
        (λ i m. (
          rw ((alike i m).1, (p.old i m).1, last_old (s.low i) i (omega arith)) (h.links i m).0,
          rw ((alike i m).2, (p.old i m).2, last_old (s.high i) i (omega arith)) (h.links i m).1,
        )) (
          rw (p.low, p.low_link, last_old a e (omega arith)) (h.lasts a (omega arith)),
          rw (p.high, p.high_link, last_old b e (omega arith)) (h.lasts b lb),
        );
    sums = λ c l. rw (p.weight, p.low, p.high) (omega (arith, sums_new c l, h.sums c l, sums_old c));
    lasts = λ c l. rw (p.low, p.high, last_old c e (omega arith)) (lasts_new c l);
  }

-- ---- room: a last slot fits its link, a sum has room for a key more

module _ {e : ℕ} {w1 w2 : List ℕ} (h : Holds e w1 w2) (c : ℕ) (l : c < 1024) where
  pub last_most : get_or w2 (at_lasts + c) 0 ≤ 4096
  last_most = omega (arith, h.slots.lasts c l, (last_is (store w1 w2) c e).low, h.slots.most)

  pub sum_most : get_or w2 (at_sums + c) 0 < 9223372036854775808
  sum_most =
      omega (
        arith,
        h.slots.sums c l,
        h.slots.most,
        total_most (key_of s c) e 140737488355328
            (λ j m. key_most c _ _ _ j (h.slots.cells j m) (omega (arith, h.slots.most))),
      )
    where
      s : Store
      s = store w1 w2

-- ---- over the buffers

module _ {w1 w2 w1' t w2' : List ℕ} {e a b k low_link high_link x : ℕ} (h : Holds e w1 w2) (le : e < 4096) (pos : 0 < k)
    (lt : a < b) (lb : b < 1024) (absent : graph_of e w1 a b ≡ 0) (el : low_link ≡ get_or w2 (at_lasts + a) 0)
    (eh : high_link ≡ get_or w2 (at_lasts + b) 0) (ex : x ≡ a + b * 1024 + low_link * 1048576 + high_link * 8589934592)
    (e1 : w1' ≡ set (set w1 e k) (at_cells + e) x) (e2 : t ≡ set (set w2 (at_lasts + a) (e + 1)) (at_lasts + b) (e + 1))
    (ad : Added t w2' e a b) (len : length w2' ≡ length w2) where
  cell_word : get_or w1' (at_cells + e) 0 ≡ x
  cell_word = stored_last w1 e k (at_cells + e) x e1 (omega (arith, h.room1))

  old_word : (j : ℕ) → j ≢ e → j ≢ at_cells + e → get_or w1' j 0 ≡ get_or w1 j 0
  old_word = elsewhere_both w1 e k (at_cells + e) x e1

  kept : (j : ℕ) → j ≢ at_lasts + a → j ≢ at_lasts + b → j ≢ at_sums + a → j ≢ at_sums + b
      → get_or w2' j 0 ≡ get_or w2 j 0
  kept j n m n' m' = ad.others j n' m' ∙ elsewhere_both w2 (at_lasts + a) (e + 1) (at_lasts + b) (e + 1) e2 j n m

  is_appended : Appended (store w1 w2) (store w1' w2') e a b k
  is_appended = record {
    old = λ j l. (let q = old_word (at_cells + j) (omega arith) (omega arith) in
        ((old_word j (omega arith) (omega arith), rw q, rw q), rw q, rw q));
    weight = stored_first w1 e k (at_cells + e) x e1 (omega arith) (omega (arith, h.room1));
    low = rw cell_word (omega (arith, ex));
    high = rw cell_word (omega (arith, ex));
    low_link = rw cell_word (omega (arith, ex, el, last_most h a (omega arith)));
    high_link = rw cell_word (omega (arith, ex, eh, el, last_most h a (omega arith)));
    low_sum = omega (arith, ad.low, elsewhere_both w2 _ _ _ _ e2 (at_sums + a) (omega arith) (omega arith));
    high_sum = omega (arith, ad.high, elsewhere_both w2 _ _ _ _ e2 (at_sums + b) (omega arith) (omega arith));
    low_last = omega (
      arith,
      ad.others (at_lasts + a) (omega arith) (omega arith),
      stored_first w2 _ _ _ _ e2 (omega arith) (omega (arith, h.room2)),
    );
    high_last = omega (
      arith,
      ad.others (at_lasts + b) (omega arith) (omega arith),
      stored_last w2 _ _ _ _ e2 (omega (arith, h.room2)),
    );
    others = λ c l n m. (
      kept (at_sums + c) (omega arith) (omega arith) (omega arith) (omega arith),
      kept (at_lasts + c) (omega arith) (omega arith) (omega arith) (omega arith),
    );
  }

  pub append_holds : Changed (e + 1) (put a b k (graph_of e w1)) w1' w2 w2'
  unfolding graph
  append_holds = rw add-one record {
    holds = record {
      room1 = omega (arith, as_long_both w1 _ _ _ _ e1, h.room1);
      room2 = omega (arith, h.room2);
      slots = append_slots (store w1 w2) (store w1' w2') e a b k h.slots is_appended le pos lt lb absent;
    };
    graph = append_put (store w1 w2) (store w1' w2') e a b k h.slots is_appended le pos lt lb absent;
    aside =
        aside_on w2 t w2' (aside_both w2 _ _ _ _ e2 (omega arith, omega arith) (omega arith, omega arith))
        (aside_added ad lt lb);
  }
