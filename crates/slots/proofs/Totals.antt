-- Sums over the slots. In order: equal and ordered terms; terms that differ in one place; one term of a sum, and a sum
-- of which one term is left; a sum of one. Assumes nothing.
use mathlib.Core.Path.{◌≡◌, refl}
use mathlib.Core.Logic.{◌≢◌}
use mathlib.Core.Bool.{Bool}
use Prim.Native.Nat.{ℕ, zero, suc, ◌+◌, ◌*◌, ◌≤◌, ◌<◌}
use native.Mathlib.Omega.{arith}
use Rattle.matching.proofs.Tests.{Test, pass, fail, eq_test}
use Rattle.slots.specs.Slots.{total}

pub total_same : (f g : ℕ → ℕ) (e : ℕ) → ((j : ℕ) → j < e → f j ≡ g j) → total f e ≡ total g e
unfolding total
total_same f g zero h = refl
total_same f g (suc e) h = omega (arith, h e (omega arith), total_same f g e (λ j l. h j (omega arith)))

pub total_le : (f g : ℕ → ℕ) (e : ℕ) → ((j : ℕ) → j < e → f j ≤ g j) → total f e ≤ total g e
unfolding total
total_le f g zero h = omega arith
total_le f g (suc e) h = omega (arith, h e (omega arith), total_le f g e (λ j l. h j (omega arith)))

pub total_most : (f : ℕ → ℕ) (e m : ℕ) → ((j : ℕ) → j < e → f j ≤ m) → total f e ≤ e * m
unfolding total
total_most f zero m h = omega arith
total_most f (suc e) m h = omega (arith, h e (omega arith), total_most f e m (λ j l. h j (omega arith)))

pub total_none : (f : ℕ → ℕ) (e : ℕ) → ((j : ℕ) → j < e → f j ≡ 0) → total f e ≡ 0
unfolding total
total_none f zero h = refl
total_none f (suc e) h = omega (arith, h e (omega arith), total_none f e (λ j l. h j (omega arith)))

-- The terms are the same but for one.
pub total_but : (f g : ℕ → ℕ) (e i : ℕ) → i < e → ((j : ℕ) → j ≢ i → f j ≡ g j)
    → total f e + g i ≡ total g e + f i
unfolding total
total_but f g zero i l h = omega arith
total_but f g (suc e) i l h = go (eq_test e i) (λ k. total_but f g e i k h)
  where
    go : {t : Bool} → Test (e ≡ i) (e ≢ i) t → (i < e → total f e + g i ≡ total g e + f i)
        → f e + total f e + g i ≡ g e + total g e + f i
    go (pass q) r = rw q (omega (arith, total_same f g i (λ j k. h j (omega arith))))
    go (fail n) r = omega (arith, h e n, r (omega arith))

pub total_at : (f : ℕ → ℕ) (e i : ℕ) → i < e → f i ≤ total f e
unfolding total
total_at f zero i l = omega arith
total_at f (suc e) i l = go (eq_test e i) (λ k. total_at f e i k)
  where
    go : {t : Bool} → Test (e ≡ i) (e ≢ i) t → (i < e → f i ≤ total f e) → f i ≤ f e + total f e
    go (pass q) r = rw q (omega arith)
    go (fail n) r = omega (arith, r (omega arith))

pub total_only : (f : ℕ → ℕ) (e i : ℕ) → i < e → ((j : ℕ) → j < e → j ≢ i → f j ≡ 0) → total f e ≡ f i
unfolding total
total_only f zero i l h = absurd (omega arith)
total_only f (suc e) i l h = go (eq_test e i) (λ k. total_only f e i k (λ j m. h j (omega arith)))
  where
    go : {t : Bool} → Test (e ≡ i) (e ≢ i) t → (i < e → total f e ≡ f i) → f e + total f e ≡ f i
    go (pass q) r = rw (← q) (omega (arith, total_none f e (λ j m. h j (omega arith) (omega arith))))
    go (fail n) r = omega (arith, h e (omega arith) n, r (omega arith))

-- A sum of one: one of its terms is one.
pub record One (f : ℕ → ℕ) (e : ℕ) : Type 0 where
  pub at : ℕ
  pub low : at < e
  pub one : f at ≡ 1
  pub none : (j : ℕ) → j < e → j ≢ at → f j ≡ 0

pub total_one : (f : ℕ → ℕ) (e : ℕ) → total f e ≡ 1 → One f e
unfolding total
total_one f zero h = absurd (omega arith)
total_one f (suc e) h = go (eq_test (f e) 0) (λ k. total_one f e k)
  where
    go : {t : Bool} → Test (f e ≡ 0) (f e ≢ 0) t → (total f e ≡ 1 → One f e) → One f (suc e)
    go (pass z) r =
        let q = r (omega arith) in
        record { at = q.at; low = omega (arith, q.low); one = q.one; none = λ j l n. other j l q n (eq_test j e) }
      where
        other : (j : ℕ) → j < suc e → (q : One f e) → j ≢ q.at → {t : Bool} → Test (j ≡ e) (j ≢ e) t → f j ≡ 0
        other j l q n (pass k) = rw k z
        other j l q n (fail k) = q.none j (omega arith) n
    go (fail n) r = record {
      at = e;
      low = omega arith;
      one = omega arith;
      none = λ j l m. omega (arith, total_at f e j (omega arith));
    }
