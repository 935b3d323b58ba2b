-- What a test tells, as a type to go by cases over: `Test P N t` has P where the test t is true, N where it is false.
-- A proof by cases is a helper `go : {t : Bool} → Test P N t → goal of t`, called as `go (eq_test a b)`.
-- In order: the tests on numbers; tests made of tests; from a test's value to the fact and back. Assumes nothing.
use mathlib.Core.Path.{◌≡◌, refl}
use mathlib.Core.Logic.{◌⊎◌, inl, inr, ◌≢◌}
use mathlib.Core.Bool.{Bool, true, false, not, ◌&&◌, ◌||◌, false≢true}
use Prim.Native.Nat.{ℕ, ◌≤◌, ◌<◌}
use lib.Dec.{eqb, ltb, leb}
use borrow.Author.Tests.{eqb-true, eqb-false, ltb-true, ltb-false, leb-true, leb-false}

pub data Test (P N : Type 0) : Bool → Type 0 where
  pass : P → Test P N true
  fail : N → Test P N false

-- A test by what its two values tell.
pub test : {P N : Type 0} (t : Bool) → (t ≡ true → P) → (t ≡ false → N) → Test P N t
test true p n = pass (p refl)
test false p n = fail (n refl)

-- A test by itself.
pub is_test : (t : Bool) → Test (t ≡ true) (t ≡ false) t
is_test t = test t (λ e. e) (λ e. e)

-- The tests on numbers.
pub eq_test : (a b : ℕ) → Test (a ≡ b) (a ≢ b) (eqb a b)
eq_test a b = test (eqb a b) (eqb-true a b) (eqb-false a b)

pub lt_test : (a b : ℕ) → Test (a < b) (b ≤ a) (ltb a b)
lt_test a b = test (ltb a b) (ltb-true a b) (ltb-false a b)

pub le_test : (a b : ℕ) → Test (a ≤ b) (b < a) (leb a b)
le_test a b = test (leb a b) (leb-true a b) (leb-false a b)

-- Tests made of tests.
pub not_test : {P N : Type 0} {t : Bool} → Test P N t → Test N P (not t)
not_test (pass p) = fail p
not_test (fail n) = pass n

pub and_test : {P N Q M : Type 0} {s t : Bool} → Test P N s → Test Q M t → Test (P × Q) (N ⊎ M) (s && t)
and_test (pass p) (pass q) = pass (p, q)
and_test (pass p) (fail m) = fail (inr m)
and_test (fail n) y = fail (inl n)

pub or_test : {P N Q M : Type 0} {s t : Bool} → Test P N s → Test Q M t → Test (P ⊎ Q) (N × M) (s || t)
or_test (pass p) y = pass (inl p)
or_test (fail n) (pass q) = pass (inr q)
or_test (fail n) (fail m) = fail (n, m)

-- The same test, told in other words.
pub map_test : {P N Q M : Type 0} {t : Bool} → (P → Q) → (N → M) → Test P N t → Test Q M t
map_test f g (pass p) = pass (f p)
map_test f g (fail n) = fail (g n)

-- From a test's value to the fact, and back.
pub holds : {P N : Type 0} {t : Bool} → Test P N t → t ≡ true → P
holds (pass p) e = p
holds (fail n) e = absurd (false≢true e)

pub passes : {P N : Type 0} {t : Bool} → Test P N t → (N → ⊥) → t ≡ true
passes (pass p) h = refl
passes (fail n) h = absurd (h n)

pub fails : {P N : Type 0} {t : Bool} → Test P N t → (P → ⊥) → t ≡ false
fails (pass p) h = absurd (h p)
fails (fail n) h = refl
