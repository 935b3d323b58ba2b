-- The tests over pairs: whether two pairs are the same (`same_test`), whether every pair of a list is as P says
-- (`each_test`).
-- Assumes nothing.
use mathlib.Core.Path.{◌≡◌}
use mathlib.Core.Logic.{◌⊎◌, inl, inr, ◌≢◌}
use mathlib.Core.Bool.{Bool}
use mathlib.Core.List.{List, [], ◌∷◌}
use Prim.Native.Nat.{ℕ}
use Rattle.matching.specs.Lists.{all}
use Rattle.matching.specs.Pairs.{Pair, Each, same}
use Rattle.matching.proofs.Tests.{Test, pass, eq_test, and_test, or_test, map_test}

-- The cells a, b are x, y in either order, or they are not.
abbrev pub Same : ℕ → ℕ → ℕ → ℕ → Type 0
Same x y a b = ((a ≡ x) × (b ≡ y)) ⊎ ((a ≡ y) × (b ≡ x))

abbrev pub Apart : ℕ → ℕ → ℕ → ℕ → Type 0
Apart x y a b = ((a ≢ x) ⊎ (b ≢ y)) × ((a ≢ y) ⊎ (b ≢ x))

pub same_test : (x y a b : ℕ) → Test (Same x y a b) (Apart x y a b) (same x y a b)
same_test x y a b = or_test (and_test (eq_test a x) (eq_test b y)) (and_test (eq_test a y) (eq_test b x))

pub each_test : {P : ℕ → ℕ → Type 0} {t : ℕ → ℕ → Bool} → ((a b : ℕ) → Test (P a b) (P a b → ⊥) (t a b))
    → (m : List Pair) → Test (Each P m) (Each P m → ⊥) (all (λ (e : Pair). t e.0 e.1) m)
each_test d [] = pass tt
each_test {P} d (e ∷ m) = map_test (λ h. h) stray (and_test (d e.0 e.1) (each_test d m))
  where
    stray : (P e.0 e.1 → ⊥) ⊎ (Each P m → ⊥) → P e.0 e.1 × Each P m → ⊥
    stray (inl n) h = n h.0
    stray (inr n) h = n h.1
