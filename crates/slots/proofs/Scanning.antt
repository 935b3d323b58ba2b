-- The slots of a cell, for callers that go over them: the last one (`last_slot`), the one before (`slot_before`), the
-- partner in one (`slot_joins`); a slot joins two cells in either order (`joins_turned`); a pair with points has a slot
-- (`joins_some`); what holds of the slots passed (`slots_on`). Assumes nothing.
use mathlib.Core.Path.{◌≡◌, sym, ◌∙◌}
use mathlib.Core.Logic.{inl, inr, ◌≢◌}
use mathlib.Core.Bool.{Bool, true, false, cond}
use mathlib.Core.List.{List, []}
use Prim.Native.Nat.{ℕ, zero, suc, ◌+◌, ◌-◌, ◌≤◌, ◌<◌}
use native.Mathlib.Omega.{arith}
use lib.ListN.{get_or}
use Rattle.buffers.specs.Map.{at_lasts}
use Rattle.matching.specs.Pairs.{same, touches}
use Rattle.matching.proofs.Tests.{Test, pass, fail, eq_test, lt_test, is_test, holds, passes}
use Rattle.matching.proofs.Pairs.{Same}
use Rattle.matching.proofs.Sums.{same_turned}
use Rattle.slots.specs.Slots.{total, store, graph, Holds, graph_of, low_of, high_of, link_of, Joins}
use Rattle.slots.specs.Found.{LastSlot, SlotOf}
use Rattle.slots.proofs.Graphs.{join_test, same_is}
use Rattle.slots.proofs.Links.{Has, has_test, Last, last_is, link_is}

told : (w1 w2 : List ℕ) {c to r : ℕ} → Last (store w1 w2) c to r → LastSlot w1 c to r
told w1 w2 l = record { low = l.low; at = l.at; past = l.past }

module _ {e : ℕ} {w1 w2 : List ℕ} (h : Holds e w1 w2) where
  pub last_slot : {c r : ℕ} → c < 1024 → r ≡ get_or w2 (at_lasts + c) 0 → LastSlot w1 c e r
  last_slot {c} {r} l q = rw (q ∙ h.slots.lasts c l) (told w1 w2 (last_is (store w1 w2) c e))

  pub slot_before : {c i r : ℕ} → i < e → touches c (low_of w1 i) (high_of w1 i) ≡ true → r ≡ link_of w1 i c
      → LastSlot w1 c i r
  slot_before {c} {i} {r} l t q =
      rw (q ∙ link_is e (store w1 w2) i c h.slots l t) (told w1 w2 (last_is (store w1 w2) c i))

  module _ {c i : ℕ} (s : SlotOf e w1 c i) where
    has : Has (store w1 w2) i c
    has = holds (has_test (store w1 w2) i c) s.has

    pub slot_joins : {r : ℕ} → r ≡ low_of w1 i + high_of w1 i - c → Joins e w1 i c r × (r < 1024)
    slot_joins {r} q = (record { below = s.below; live = s.live; cells = same_is (both has) }, low has)
      where
        both : Has (store w1 w2) i c → Same (low_of w1 i) (high_of w1 i) c r
        both (inl k) = inl (sym k, omega arith)
        both (inr k) = inr (sym k, omega arith)

        low : Has (store w1 w2) i c → r < 1024
        low (inl k) = omega (arith, h.slots.cells i s.below)
        low (inr k) = omega (arith, h.slots.cells i s.below)

pub joins_turned : {e : ℕ} {w1 : List ℕ} {i x y : ℕ} → Joins e w1 i x y → Joins e w1 i y x
joins_turned {e} {w1} {i} {x} {y} j = record {
  below = j.below;
  live = j.live;
  cells = same_turned (low_of w1 i) (high_of w1 i) y x ∙ j.cells;
}

-- it has both of them
pub joins_has : {e : ℕ} {w1 : List ℕ} {i x y : ℕ} → Joins e w1 i x y → touches x (low_of w1 i) (high_of w1 i) ≡ true
joins_has {e} {w1} {i} {x} {y} j =
    passes (has_test (store w1 []) i x) (λ n. go n (holds (join_test (store w1 []) i x y) j.cells))
  where
    go : (low_of w1 i ≢ x) × (high_of w1 i ≢ x) → Same (low_of w1 i) (high_of w1 i) x y → ⊥
    go n (inl q) = n.0 (sym q.0)
    go n (inr q) = n.1 (sym q.0)

-- What holds of a slot that has not c, of slot k and of the slots behind it, holds from the last slot of c before k on.
pub slots_on : {w1 : List ℕ} {c k i : ℕ} → LastSlot w1 c k i → (P : ℕ → Type 0)
    → ((j : ℕ) → touches c (low_of w1 j) (high_of w1 j) ≡ false → P j) → P k → ((j : ℕ) → k < j → P j)
    → (j : ℕ) → i ≤ j → P j
slots_on {w1} {c} {k} {i} l P off here behind j m = go (eq_test j k) (lt_test j k)
  where
    go : {s t : Bool} → Test (j ≡ k) (j ≢ k) s → Test (j < k) (k ≤ j) t → P j
    go (pass q) y = rw q here
    go (fail d) (pass b) = off j (l.past j m b)
    go (fail d) (fail b) = behind j (omega arith)

-- a sum above zero has a term above zero
total_some : (f : ℕ → ℕ) (e : ℕ) → 0 < total f e → (i : ℕ) × (i < e) × (0 < f i)
unfolding total
total_some f zero h = absurd (omega arith)
total_some f (suc e) h = go (lt_test 0 (f e)) (total_some f e)
  where
    go : {t : Bool} → Test (0 < f e) (f e ≤ 0) t → (0 < total f e → (i : ℕ) × (i < e) × (0 < f i))
        → (i : ℕ) × (i < suc e) × (0 < f i)
    go (pass k) r = (e, omega arith, k)
    go (fail k) r = (let x = r (omega (arith, h)) in (x.0, omega (arith, x.1), x.2))

pub joins_some : (e : ℕ) (w1 : List ℕ) (x y : ℕ) → 0 < graph_of e w1 x y → (i : ℕ) × Joins e w1 i x y
unfolding graph
joins_some e w1 x y h =
    let k = total_some (λ i. cond (same (low_of w1 i) (high_of w1 i) x y) (get_or w1 i 0) 0) e h in
    let j = go k.0 (is_test (same (low_of w1 k.0) (high_of w1 k.0) x y)) k.2 in
    (k.0, record { below = k.1; live = j.0; cells = j.1 })
  where
    go : (i : ℕ) {t : Bool}
        → Test (same (low_of w1 i) (high_of w1 i) x y ≡ true) (same (low_of w1 i) (high_of w1 i) x y ≡ false) t
        → 0 < cond t (get_or w1 i 0) 0 → (0 < get_or w1 i 0) × (same (low_of w1 i) (high_of w1 i) x y ≡ true)
    go i (pass q) p = (p, q)
    go i (fail q) p = absurd (omega arith)
