-- The tests over lists of numbers, told by how often a number stands there (`count`): `mem` is 'at least once', and
-- `distinct` is 'none twice'. Assumes nothing.
use mathlib.Core.Path.{◌≡◌, refl, subst}
use mathlib.Core.Logic.{◌⊎◌, inl, inr, ◌≢◌}
use mathlib.Core.Bool.{Bool, ◌||◌}
use mathlib.Core.List.{List, [], ◌∷◌}
use Prim.Native.Nat.{ℕ, ◌+◌, ◌≤◌, ◌<◌}
use native.Mathlib.Omega.{arith}
use lib.Dec.{eqb}
use borrow.Author.Tests.{eq-eqb}
use Rattle.matching.specs.Lists.{mem, distinct}
use Rattle.matching.specs.Pairs.{ι}
use Rattle.matching.proofs.Tests.{Test, pass, fail, eq_test, not_test, and_test, map_test}

-- How often the number stands in the list.
abbrev pub count : ℕ → List ℕ → ℕ
count c [] = 0
count c (x ∷ xs) = ι (eqb x c) + count c xs

-- Some number stands twice.
abbrev pub Twice : List ℕ → Type 0
Twice xs = (c : ℕ) × (1 < count c xs)

pub mem_test : (c : ℕ) (xs : List ℕ) → Test (0 < count c xs) (count c xs ≡ 0) (mem c xs)
mem_test c [] = fail refl
mem_test c (x ∷ xs) = go (eq_test x c) (mem_test c xs)
  where
    go : {s t : Bool} → Test (x ≡ c) (x ≢ c) s → Test (0 < count c xs) (count c xs ≡ 0) t
        → Test (0 < ι s + count c xs) (ι s + count c xs ≡ 0) (s || t)
    go (pass e) y = pass (omega arith)
    go (fail n) y = map_test (λ h. omega arith) (λ h. omega arith) y

pub distinct_test : (xs : List ℕ) → Test ((c : ℕ) → count c xs ≤ 1) (Twice xs) (distinct xs)
distinct_test [] = pass (λ c. omega arith)
distinct_test (x ∷ xs) = map_test once twice (and_test (not_test (mem_test x xs)) (distinct_test xs))
  where
    once : (count x xs ≡ 0) × ((c : ℕ) → count c xs ≤ 1) → (c : ℕ) → count c (x ∷ xs) ≤ 1
    once h c = go (eq_test x c)
      where
        go : {t : Bool} → Test (x ≡ c) (x ≢ c) t → ι t + count c xs ≤ 1
        go (pass e) = omega (arith, subst (λ (k : ℕ). count k xs ≡ 0) e h.0)
        go (fail n) = omega (arith, h.1 c)

    twice : (0 < count x xs) ⊎ Twice xs → Twice (x ∷ xs)
    twice (inl h) = (x, rw (eq-eqb x x refl) (omega arith))
    twice (inr h) = (h.0, omega arith)
