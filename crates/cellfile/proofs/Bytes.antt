-- Laws of numbers as bytes. In order: what `bytes` writes, and that it writes the low bytes only;
-- that each undoes the other, `number_bytes` and `bytes_number`.
use Prim.Native.Nat.{ℕ, zero, suc, ◌+◌, ◌*◌, ◌/◌, ◌%◌, ◌^◌, ◌≤◌, ◌<◌}
use mathlib.Core.Path.{◌≡◌, refl, sym, ap, ◌∙◌}
use mathlib.Core.List.{List, [], ◌∷◌, ◌++◌, append_assoc}
use native.Mathlib.Omega.{arith}
use native.Mathlib.Nat.{pow-suc, one-le-pow, mod-one}
use lib.Arith.{digits_div, digits_mod, mod-mul}
use lib.ListN.{length, get_or, take, length-append}
use lib.Seq.{take-suc, get_or_at}
use Rattle.cellfile.specs.Bytes.{number, bytes}
use Rattle.cellfile.specs.Fits.{AreBytes}
use Rattle.cellfile.proofs.All.{all_get_or}

-- a missing byte counts as 0
byte_lt : (s : List ℕ) (i : ℕ) → AreBytes s → get_or s i 0 < 256
byte_lt s i a = all_get_or (λ (b : ℕ). b < 256) s i 0 (omega arith) a

pub length_bytes : (k v : ℕ) → length (bytes k v) ≡ k
unfolding bytes
length_bytes zero v = refl
length_bytes (suc k) v =
    omega (arith, length-append (bytes k (v / 256)) (v % 256 ∷ []), length_bytes k (v / 256))

-- a byte more, behind the others
bytes_suc : (k q : ℕ) {r : ℕ} → r < 256 → bytes (suc k) (q * 256 + r) ≡ bytes k q ++ (r ∷ [])
unfolding bytes
bytes_suc k q h = rw (digits_div q h, digits_mod q h)

-- the low bytes of a number, the last of them apart
mod_suc : (k v : ℕ) → v % 256 ^ suc k ≡ v / 256 % 256 ^ k * 256 + v % 256
mod_suc k v = rw (pow-suc 256 k) (mod-mul v (one-le-pow k 256 (omega arith)) (omega arith))

pub bytes_mod : (k v : ℕ) → bytes k (v % 256 ^ k) ≡ bytes k v
unfolding bytes
bytes_mod zero v = refl
bytes_mod (suc k) v =
    ap (bytes (suc k)) (mod_suc k v) ∙ bytes_suc k (v / 256 % 256 ^ k) (omega arith) ∙ rw (bytes_mod k (v / 256))

pub number_bytes : (k v : ℕ) (t : List ℕ) → number k (bytes k v ++ t) ≡ v % 256 ^ k
unfolding number bytes
number_bytes zero v t = sym (mod-one v)
number_bytes (suc k) v t =
    let front = bytes k (v / 256) in
    rw (append_assoc front (v % 256 ∷ []) t, get_or_at front (v % 256) t 0 k (length_bytes k (v / 256)))
    (rw (number_bytes k (v / 256) (v % 256 ∷ t)) (sym (mod_suc k v)))

pub bytes_number : (k : ℕ) (s : List ℕ) → AreBytes s → k ≤ length s → bytes k (number k s) ≡ take k s
unfolding number bytes
bytes_number zero s a h = refl
bytes_number (suc k) s a h =
    bytes_suc k (number k s) (byte_lt s k a) ∙ rw (bytes_number k s a (omega arith)) (sym (take-suc s k 0 h))
