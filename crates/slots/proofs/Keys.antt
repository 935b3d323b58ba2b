-- What a slot adds to the sum of a cell: which key, or nothing; a key is small, and tells its partner and slot.
-- Assumes nothing.
use mathlib.Core.Path.{◌≡◌, refl}
use mathlib.Core.Logic.{◌≢◌}
use mathlib.Core.Bool.{Bool, true, false, cond}
use Prim.Native.Nat.{ℕ, ◌+◌, ◌/◌, ◌%◌, ◌≤◌, ◌<◌}
use native.Mathlib.Omega.{arith}
use lib.Dec.{eqb, ltb}
use borrow.Author.Tests.{eq-eqb, ne_eqb, lt-ltb, le-ltb}
use Rattle.slots.specs.Slots.{key, key_at, Store}

-- What slot i adds to the sum of c.
abbrev pub key_of : Store → ℕ → ℕ → ℕ
key_of s c i = key_at c (s.weight i) (s.low i) (s.high i) i

module _ (c k a b i : ℕ) where
  pub key_dead : k ≡ 0 → key_at c k a b i ≡ 0
  unfolding key_at
  key_dead z = rw (le-ltb 0 k (omega arith))

  pub key_low : 0 < k → a ≡ c → key_at c k a b i ≡ key b i
  unfolding key_at
  key_low p q = rw (lt-ltb 0 k p, eq-eqb a c q)

  pub key_high : 0 < k → a ≢ c → b ≡ c → key_at c k a b i ≡ key a i
  unfolding key_at
  key_high p n q = rw (lt-ltb 0 k p, ne_eqb a c n, eq-eqb b c q)

  pub key_off : a ≢ c → b ≢ c → key_at c k a b i ≡ 0
  unfolding key_at
  key_off n m = rw (ne_eqb a c n, ne_eqb b c m) (go (ltb 0 k))
    where
      go : (t : Bool) → ◌≡◌ {A = ℕ} (cond t 0 0) 0
      go true = refl
      go false = refl

  pub key_live : (k' : ℕ) → 0 < k → 0 < k' → key_at c k a b i ≡ key_at c k' a b i
  unfolding key_at
  key_live k' p q = rw (lt-ltb 0 k p, lt-ltb 0 k' q)

pub key_most : (c k a b i : ℕ) → (a < b) × (b < 1024) → i < 4096 → key_at c k a b i ≤ 140737488355328
unfolding key_at
key_most c k a b i cells l = go (ltb 0 k) (eqb a c) (eqb b c)
  where
    go : (r s t : Bool) → cond r (cond s (key b i) (cond t (key a i) 0)) 0 ≤ 140737488355328
    go true true t = omega arith
    go true false true = omega arith
    go true false false = omega arith
    go false s t = omega arith

-- A key tells its partner and its slot.
pub key_parts : (p i x : ℕ) → x ≡ key p i → p < 1024 → i < 4096
    → (x % 16777216 ≡ i) × (x / 16777216 % 4194304 ≡ p)
key_parts p i x e hp hi =
    (omega arith, let q : x / 16777216 ≡ 4194304 + p = omega arith in rw q (omega arith))
