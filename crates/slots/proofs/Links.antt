-- The slots of a cell, from its last one down. In order: slots with the same cells have the same last ones; what the
-- last slot below m is (`last_is`); a link leads to the last slot before (`link_is`). Assumes nothing.
use mathlib.Core.Path.{◌≡◌, refl, ap, ◌∙◌}
use mathlib.Core.Logic.{◌⊎◌, ◌≢◌}
use mathlib.Core.Bool.{Bool, true, false, cond, ◌||◌}
use Prim.Native.Nat.{ℕ, zero, suc, ◌≤◌, ◌<◌}
use native.Mathlib.Omega.{arith}
use lib.Dec.{eqb}
use Rattle.matching.specs.Pairs.{touches}
use Rattle.matching.proofs.Tests.{Test, pass, fail, is_test, eq_test}
use Rattle.matching.proofs.Members.{clash}
use Rattle.matching.proofs.Sums.{touches_test}
use Rattle.slots.specs.Slots.{Store, last, Slots}

pub last_same : (s t : Store) (c e : ℕ) → ((j : ℕ) → j < e → (t.low j ≡ s.low j) × (t.high j ≡ s.high j))
    → last t c e ≡ last s c e
unfolding last
last_same s t c zero h = refl
last_same s t c (suc e) h =
    rw ((h e (omega arith)).0, (h e (omega arith)).1, last_same s t c e (λ j l. h j (omega arith)))

-- Slot i has the cell c; what the test tells whether it does.
abbrev pub Has : Store → ℕ → ℕ → Type 0
Has s i c = (s.low i ≡ c) ⊎ (s.high i ≡ c)

pub has_test : (s : Store) (i c : ℕ)
    → Test (Has s i c) ((s.low i ≢ c) × (s.high i ≢ c)) (touches c (s.low i) (s.high i))
has_test s i c = touches_test c (s.low i) (s.high i)

-- l names the last slot below m that has u, or l is 0 and none has.
pub record Last (s : Store) (u m l : ℕ) : Type 0 where
  pub low : l ≤ m
  pub at : (i : ℕ) → l ≡ suc i → touches u (s.low i) (s.high i) ≡ true
  pub past : (j : ℕ) → l ≤ j → j < m → touches u (s.low j) (s.high j) ≡ false

pub last_is : (s : Store) (u m : ℕ) → Last s u m (last s u m)
unfolding last
last_is s u zero = record {
  low = omega arith;
  at = λ i q. absurd (omega arith);
  past = λ j a b. absurd (omega arith);
}
last_is s u (suc m) = go (is_test (touches u (s.low m) (s.high m))) (last_is s u m)
  where
    go : {t : Bool} → Test (touches u (s.low m) (s.high m) ≡ true) (touches u (s.low m) (s.high m) ≡ false) t
        → Last s u m (last s u m) → Last s u (suc m) (cond t (suc m) (last s u m))
    go (pass e) i = record {
      low = omega arith;
      at = λ k q. (let z : k ≡ m = omega arith in rw z e);
      past = λ j a b. absurd (omega arith);
    }
    go (fail e) i = record { low = omega (arith, i.low); at = i.at; past = λ j a b. past j a b (eq_test j m) }
      where
        past : (j : ℕ) → last s u m ≤ j → j < suc m → {r : Bool} → Test (j ≡ m) (j ≢ m) r
            → touches u (s.low j) (s.high j) ≡ false
        past j a b (pass q) = rw q e
        past j a b (fail n) = i.past j a (omega arith)

pub link_is : (e : ℕ) (s : Store) (i u : ℕ) → Slots e s → i < e → touches u (s.low i) (s.high i) ≡ true
    → cond (eqb (s.low i) u) (s.low_link i) (s.high_link i) ≡ last s u i
link_is e s i u h l t = go (eq_test (s.low i) u) (eq_test (s.high i) u) t
  where
    go : {q r : Bool} → Test (s.low i ≡ u) (s.low i ≢ u) q → Test (s.high i ≡ u) (s.high i ≢ u) r → q || r ≡ true
        → cond q (s.low_link i) (s.high_link i) ≡ last s u i
    go (pass q) y k = (h.links i l).0 ∙ ap (λ (c : ℕ). last s c i) q
    go (fail n) (pass r) k = (h.links i l).1 ∙ ap (λ (c : ℕ). last s c i) r
    go (fail n) (fail m) k = clash k refl
