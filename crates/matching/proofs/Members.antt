-- Laws of `mem`, whether a number is in a list.
use mathlib.Core.Path.{◌≡◌, refl, sym, ap, subst, ◌∙◌}
use mathlib.Core.Logic.{◌⊎◌, inl, inr, ◌≢◌}
use mathlib.Core.Bool.{Bool, true, false, ◌||◌, false≢true}
use mathlib.Core.List.{List, [], ◌∷◌, ◌++◌}
use Prim.Native.Nat.{ℕ}
use native.Mathlib.Omega.{arith}
use lib.Dec.{eqb}
use borrow.Author.Tests.{eq-eqb, ne_eqb}
use Rattle.matching.specs.Lists.{mem, distinct}
use Rattle.matching.proofs.Tests.{Test, pass, fail, is_test, eq_test, not_test, or_test, and_test, holds}

pub or_cases : (s t : Bool) → s || t ≡ true → (s ≡ true) ⊎ (t ≡ true)
or_cases true t h = inl refl
or_cases false t h = inr h

pub or_left : (s t : Bool) → s ≡ true → s || t ≡ true
or_left s t e = rw e

pub or_right : (s t : Bool) → t ≡ true → s || t ≡ true
or_right true t e = refl
or_right false t e = e

pub no_mem : {P : Type 0} (c : ℕ) → mem c [] ≡ true → P
no_mem c h = (let y : ◌≡◌ {A = ℕ} 0 1 = cc in (let z : ⊥ = omega arith in absurd z))

pub mem_on : (c x : ℕ) (xs : List ℕ) → mem c xs ≡ true → mem c (x ∷ xs) ≡ true
mem_on c x xs h = go (eqb x c)
  where
    go : (t : Bool) → t || mem c xs ≡ true
    go true = refl
    go false = h

pub mem_head : (c x : ℕ) (xs : List ℕ) → x ≡ c → mem c (x ∷ xs) ≡ true
mem_head c x xs e = rw (eq-eqb x c e)

pub mem_apart : (c d : ℕ) (xs : List ℕ) → mem c xs ≡ true → mem d xs ≡ false → c ≢ d
mem_apart c d xs h k e = false≢true (sym k ∙ ap (λ x. mem x xs) (sym e) ∙ h)

pub mem_cases : (c x : ℕ) (xs : List ℕ) → mem c (x ∷ xs) ≡ true → (x ≡ c) ⊎ (mem c xs ≡ true)
mem_cases c x xs = go (eq_test x c)
  where
    go : {t : Bool} → Test (x ≡ c) (x ≢ c) t → t || mem c xs ≡ true → (x ≡ c) ⊎ (mem c xs ≡ true)
    go (pass e) h = inl e
    go (fail n) h = inr h

pub mem_none : (P : ℕ → Type 0) (c : ℕ) → mem c [] ≡ true → P c
mem_none P c h = (let y : ◌≡◌ {A = ℕ} 0 1 = cc in (let z : ⊥ = omega arith in absurd z))

pub mem_more : (P : ℕ → Type 0) (x : ℕ) (xs : List ℕ) → P x → ((c : ℕ) → mem c xs ≡ true → P c)
    → (c : ℕ) → mem c (x ∷ xs) ≡ true → P c
mem_more P x xs p f c h = go (mem_cases c x xs h)
  where
    go : (x ≡ c) ⊎ (mem c xs ≡ true) → P c
    go (inl e) = subst P e p
    go (inr q) = f c q

pub mem_not : (c x : ℕ) (xs : List ℕ) → mem c (x ∷ xs) ≡ false → (x ≢ c) × (mem c xs ≡ false)
mem_not c x xs = go (eq_test x c)
  where
    go : {t : Bool} → Test (x ≡ c) (x ≢ c) t → t || mem c xs ≡ false → (x ≢ c) × (mem c xs ≡ false)
    go (pass e) h = (let y : ◌≡◌ {A = ℕ} 0 1 = cc in (let z : ⊥ = omega arith in absurd z))
    go (fail n) h = (n, h)

pub mem_append : (c : ℕ) (xs ys : List ℕ) → mem c (xs ++ ys) ≡ mem c xs || mem c ys
mem_append c [] ys = refl
mem_append c (x ∷ xs) ys = go (eqb x c) (mem_append c xs ys)
  where
    go : (t : Bool) → mem c (xs ++ ys) ≡ mem c xs || mem c ys → t || mem c (xs ++ ys) ≡ (t || mem c xs) || mem c ys
    go true e = refl
    go false e = e

-- a pair a, b touches some cells, or it is away from them
abbrev pub Meets : List ℕ → ℕ → ℕ → Type 0
Meets cs a b = (mem a cs ≡ true) ⊎ (mem b cs ≡ true)

abbrev pub Away : List ℕ → ℕ → ℕ → Type 0
Away cs a b = (mem a cs ≡ false) × (mem b cs ≡ false)

pub meets_test : (cs : List ℕ) (a b : ℕ) → Test (Meets cs a b) (Away cs a b) (mem a cs || mem b cs)
meets_test cs a b = or_test (is_test (mem a cs)) (is_test (mem b cs))

pub mem_past : (c x : ℕ) (xs : List ℕ) → x ≢ c → mem c (x ∷ xs) ≡ mem c xs
mem_past c x xs n = rw (ne_eqb x c n)

-- a test is not both
pub clash : {P : Type 0} {t : Bool} → t ≡ true → t ≡ false → P
clash h k = absurd (false≢true (sym k ∙ h))

pub mem_one : (c x : ℕ) → mem c (x ∷ []) ≡ true → x ≡ c
mem_one c x h = mem_more (λ k. x ≡ k) x [] refl (λ k q. no_mem k q) c h

pub distinct_cons : (x : ℕ) (xs : List ℕ) → distinct (x ∷ xs) ≡ true → (mem x xs ≡ false) × (distinct xs ≡ true)
distinct_cons x xs h = holds (and_test (not_test (is_test (mem x xs))) (is_test (distinct xs))) h
