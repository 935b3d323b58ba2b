-- Numbers as bytes, most significant byte first.
use Rattle.std.specs.Prelude.{ℕ, zero, suc, ◌+◌, ◌*◌, ◌/◌, ◌%◌, List, [], ◌∷◌, ◌++◌, get_or}

-- The number that the first k bytes write; a missing byte counts as 0.
unfoldable pub number : ℕ → List ℕ → ℕ
number zero s = 0
number (suc k) s = number k s * 256 + get_or s k 0

-- The last k bytes of a number.
unfoldable pub bytes : ℕ → ℕ → List ℕ
bytes zero v = []
bytes (suc k) v = bytes k (v / 256) ++ (v % 256 ∷ [])
