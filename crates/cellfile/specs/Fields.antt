-- 'All fields are bit-packed, most significant first.' A record is given by the widths of its fields in bits.
use Rattle.std.specs.Prelude.{ℕ, zero, suc, ◌+◌, ◌*◌, ◌/◌, ◌%◌, ◌^◌, List, [], ◌∷◌, ◌++◌, drop}
use Rattle.cellfile.specs.Bytes.{number, bytes}

-- The bits and the bytes of a record.
abbrev pub bits : List ℕ → ℕ
bits [] = 0
bits (w ∷ ws) = w + bits ws

abbrev pub size : List ℕ → ℕ
size ws = bits ws / 8

-- The fields of a record's number: each is a quotient and a remainder of it.
unfoldable pub fields : List ℕ → ℕ → List ℕ
fields [] v = []
fields (w ∷ ws) v = v / 2 ^ bits ws % 2 ^ w ∷ fields ws v

-- The number that the fields make.
unfoldable pub packed : List ℕ → List ℕ → ℕ
packed [] xs = 0
packed (w ∷ ws) [] = 0
packed (w ∷ ws) (x ∷ xs) = x * 2 ^ bits ws + packed ws xs

-- Reading the record at the start of the bytes, and writing one.
abbrev pub read_record : List ℕ → List ℕ → List ℕ
read_record ws s = fields ws (number (size ws) s)

abbrev pub write_record : List ℕ → List ℕ → List ℕ
write_record ws xs = bytes (size ws) (packed ws xs)

-- Several records of the same widths, one after the other.
unfoldable pub read_records : List ℕ → ℕ → List ℕ → List (List ℕ)
read_records ws zero s = []
read_records ws (suc m) s = read_record ws s ∷ read_records ws m (drop (size ws) s)

unfoldable pub write_records : List ℕ → List (List ℕ) → List ℕ
write_records ws [] = []
write_records ws (r ∷ rs) = write_record ws r ++ write_records ws rs
