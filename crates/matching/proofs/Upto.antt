-- Sums over the numbers below n. In order: their laws; that no more than n distinct numbers lie below n
-- (`distinct_length`). Assumes nothing.
use mathlib.Core.Path.{◌≡◌, refl, ap}
use mathlib.Core.Logic.{◌≢◌}
use mathlib.Core.Bool.{Bool, true}
use mathlib.Core.List.{List, [], ◌∷◌}
use Prim.Native.Nat.{ℕ, zero, suc, ◌+◌, ◌≤◌, ◌<◌}
use native.Mathlib.Omega.{arith}
use lib.Dec.{eqb}
use lib.ListN.{length}
use Rattle.matching.specs.Lists.{mem, distinct}
use Rattle.matching.specs.Pairs.{ι}
use Rattle.matching.proofs.Tests.{Test, pass, fail, eq_test, lt_test, holds}
use Rattle.matching.proofs.Lists.{count, distinct_test}
use Rattle.matching.proofs.Members.{mem_on, mem_head}
use Rattle.matching.proofs.Sums.{ι_is, ι_not}

unfoldable pub sum_to : ℕ → (ℕ → ℕ) → ℕ
sum_to zero f = 0
sum_to (suc n) f = sum_to n f + f n

pub sum_to_le : (n : ℕ) (f g : ℕ → ℕ) → ((i : ℕ) → f i ≤ g i) → sum_to n f ≤ sum_to n g
unfolding sum_to
sum_to_le zero f g h = omega arith
sum_to_le (suc n) f g h = omega (arith, sum_to_le n f g h, h n)

pub sum_to_add : (n : ℕ) (f g : ℕ → ℕ) → sum_to n (λ i. f i + g i) ≡ sum_to n f + sum_to n g
unfolding sum_to
sum_to_add zero f g = omega arith
sum_to_add (suc n) f g = omega (arith, sum_to_add n f g)

pub sum_to_ones : (n : ℕ) (f : ℕ → ℕ) → ((i : ℕ) → f i ≤ 1) → sum_to n f ≤ n
unfolding sum_to
sum_to_ones zero f h = omega arith
sum_to_ones (suc n) f h = omega (arith, sum_to_ones n f h, h n)

-- a sum that is zero but for one number
module _ (c : ℕ) (f : ℕ → ℕ) (only : (i : ℕ) → i ≢ c → f i ≡ 0) where
  pub sum_to_at : (n : ℕ) → (c < n → sum_to n f ≡ f c) × (n ≤ c → sum_to n f ≡ 0)
  unfolding sum_to
  sum_to_at zero = (λ h. absurd (omega arith), λ h. refl)
  sum_to_at (suc n) = go (eq_test n c) (sum_to_at n)
    where
      go : {t : Bool} → Test (n ≡ c) (n ≢ c) t → (c < n → sum_to n f ≡ f c) × (n ≤ c → sum_to n f ≡ 0)
          → (c < suc n → sum_to n f + f n ≡ f c) × (suc n ≤ c → sum_to n f + f n ≡ 0)
      go (pass e) i = (λ h. omega (arith, i.1 (omega arith), ap f e), λ h. absurd (omega arith))
      go (fail d) i =
          let z = only n d in
          (λ h. omega (arith, i.0 (omega arith)), λ h. omega (arith, i.1 (omega arith)))

  pub sum_to_most : (n : ℕ) → sum_to n f ≤ f c
  sum_to_most n = go (lt_test c n)
    where
      go : {t : Bool} → Test (c < n) (n ≤ c) t → sum_to n f ≤ f c
      go (pass h) = omega (arith, (sum_to_at n).0 h)
      go (fail h) = omega (arith, (sum_to_at n).1 h)

-- the numbers of a list below n, counted
pub sum_to_count : (n : ℕ) (xs : List ℕ) → ((c : ℕ) → mem c xs ≡ true → c < n) → sum_to n (λ i. count i xs) ≡ length xs
sum_to_count n [] low = (sum_to_at n (λ i. 0) (λ i d. refl) n).1 (omega arith)
sum_to_count n (x ∷ xs) low =
    omega (
      arith,
      sum_to_add n (λ i. ι (eqb x i)) (λ i. count i xs),
      (sum_to_at x (λ i. ι (eqb x i)) (λ i d. ι_not x i (λ e. d (omega arith))) n).0 (low x (mem_head x x xs refl)),
      ι_is x {b = x} refl,
      sum_to_count n xs (λ c h. low c (mem_on c x xs h)),
    )

pub distinct_length : (n : ℕ) (xs : List ℕ) → distinct xs ≡ true → ((c : ℕ) → mem c xs ≡ true → c < n) → length xs ≤ n
distinct_length n xs d low =
    omega (arith, sum_to_count n xs low, sum_to_ones n (λ i. count i xs) (holds (distinct_test xs) d))
