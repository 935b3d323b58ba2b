-- Laws of the number of the first bytes, as the loop that reads it needs them; and a part with these bytes has it too.
use Prim.Native.Nat.{ℕ, zero, suc, ◌+◌, ◌*◌, ◌≤◌, ◌<◌, ◌^◌}
use mathlib.Core.Path.{◌≡◌, refl}
use mathlib.Core.List.{List}
use native.Mathlib.Omega.{arith}
use native.Mathlib.Nat.{pow-suc, pow-le-pow_right}
use native.Mathlib.Numerals.{add-one}
use lib.ListN.{get_or, take}
use lib.Seq.{get_or-take}
use Rattle.cellfile.specs.Bytes.{number}

pub number_none : (s : List ℕ) → 0 ≡ number 0 s
unfolding number
number_none s = refl

-- one byte more
pub number_next : (s : List ℕ) (i : ℕ) {v b : ℕ} → v ≡ number i s → b ≡ get_or s i 0 → v * 256 + b ≡ number (i + 1) s
unfolding number
number_next s i p q = rw (add-one, ← p, ← q)

pub below_next : (i v b : ℕ) → v < 256 ^ i → b < 256 → v * 256 + b < 256 ^ (i + 1)
below_next i v b h k = rw (add-one, pow-suc) (omega arith)

-- with at most seven bytes read, one more fits 64 bits
pub below_seven : (i v : ℕ) → i < 8 → v < 256 ^ i → v < 72057594037927936
below_seven i v h k = omega (arith, pow-le-pow_right {n = 256} (omega arith) {i = i} {j = 7} (omega arith))

-- later bytes do not count
pub number_part : (k j : ℕ) (s : List ℕ) → k ≤ j → number k (take j s) ≡ number k s
unfolding number
number_part zero j s l = refl
number_part (suc k) j s l = rw (number_part k j s (omega arith), get_or-take j s k 0 (omega arith))
