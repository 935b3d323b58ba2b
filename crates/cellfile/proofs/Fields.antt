-- Laws of records of bit fields, for any widths. In order: `fields` and `packed` undo each other; so do reading and
-- writing a record of whole bytes; so do reading and writing several of them.
use Prim.Native.Nat.{ℕ, zero, suc, ◌+◌, ◌*◌, ◌/◌, ◌%◌, ◌^◌, ◌≤◌, ◌<◌}
use mathlib.Core.Path.{◌≡◌, refl, sym, ap, ◌∙◌}
use mathlib.Core.List.{List, [], ◌∷◌, ◌++◌, append_assoc}
use native.Mathlib.Omega.{arith}
use native.Mathlib.Nat.{pow-suc, mul_assoc, mul-zero, mul-suc, mod-one, mod-eq_of_lt, mul-add-div_right}
use native.Mathlib.Nat.{mul-add-mod_self_right}
use lib.Arith.{digits_lt}
use lib.Pow.{pow_pos, pow-add, high, mod-pow-add}
use lib.ListN.{length, take, drop, length-append, length-drop}
use lib.Seq.{take-add, drop_at}
use Rattle.cellfile.specs.Bytes.{number, bytes}
use Rattle.cellfile.specs.Fields.{bits, size, fields, packed, read_record, write_record, read_records, write_records}
use Rattle.matching.specs.Lists.{All}
use Rattle.cellfile.specs.Fits.{AreBytes, FitsFields, WholeBytes}
use Rattle.cellfile.proofs.All.{all_drop}
use Rattle.cellfile.proofs.Bytes.{length_bytes, number_bytes, bytes_number, bytes_mod}

-- ---- fields and the number that they make

pub packed_lt : (ws xs : List ℕ) → FitsFields ws xs → packed ws xs < 2 ^ bits ws
unfolding packed
packed_lt [] [] h = omega arith
packed_lt [] (x ∷ xs) h = absurd h
packed_lt (w ∷ ws) [] h = absurd h
packed_lt (w ∷ ws) (x ∷ xs) h = rw (pow-add 2 w (bits ws)) (digits_lt h.0 (packed_lt ws xs h.1))

-- what stands above the fields does not count
fields_above : (ws : List ℕ) (hi v : ℕ) → fields ws (hi * 2 ^ bits ws + v) ≡ fields ws v
unfolding fields
fields_above [] hi v = refl
fields_above (w ∷ ws) hi v =
    let b = bits ws in
    let e : hi * 2 ^ (w + b) ≡ hi * 2 ^ w * 2 ^ b = rw (pow-add 2 w b) (sym (mul_assoc hi (2 ^ w) (2 ^ b))) in
    rw (
      e,
      fields_above ws (hi * 2 ^ w) v,
      mul-add-div_right (pow_pos b) (hi * 2 ^ w) v,
      mul-add-mod_self_right hi (2 ^ w) (v / 2 ^ b),
    )

pub fields_packed : (ws xs : List ℕ) → FitsFields ws xs → fields ws (packed ws xs) ≡ xs
unfolding fields packed
fields_packed [] [] h = refl
fields_packed [] (x ∷ xs) h = absurd h
fields_packed (w ∷ ws) [] h = absurd h
fields_packed (w ∷ ws) (x ∷ xs) h =
    rw (
      high x (bits ws) (packed_lt ws xs h.1),
      mod-eq_of_lt h.0,
      fields_above ws x (packed ws xs),
      fields_packed ws xs h.1,
    )

pub packed_fields : (ws : List ℕ) (v : ℕ) → packed ws (fields ws v) ≡ v % 2 ^ bits ws
unfolding fields packed
packed_fields [] v = sym (mod-one v)
packed_fields (w ∷ ws) v = rw (packed_fields ws v) (sym (mod-pow-add v w (bits ws)))

-- ---- a record of whole bytes

pow_bytes : (k : ℕ) → 256 ^ k ≡ 2 ^ (8 * k)
pow_bytes zero = refl
pow_bytes (suc k) = rw (pow-suc 256 k, mul-suc 8 k, pow-add 2 (8 * k) 8, pow_bytes k)

pow_size : (ws : List ℕ) → WholeBytes ws → 256 ^ size ws ≡ 2 ^ bits ws
pow_size ws whole = pow_bytes (size ws) ∙ ap (λ (n : ℕ). 2 ^ n) whole

pub length_write_record : (ws xs : List ℕ) → length (write_record ws xs) ≡ size ws
length_write_record ws xs = length_bytes (size ws) (packed ws xs)

pub read_write_record : (ws xs t : List ℕ) → WholeBytes ws → FitsFields ws xs
    → read_record ws (write_record ws xs ++ t) ≡ xs
read_write_record ws xs t whole h =
    rw (number_bytes (size ws) (packed ws xs) t, pow_size ws whole, mod-eq_of_lt (packed_lt ws xs h))
    (fields_packed ws xs h)

pub write_fields : (ws : List ℕ) (v : ℕ) → WholeBytes ws → write_record ws (fields ws v) ≡ bytes (size ws) v
write_fields ws v whole = rw (packed_fields ws v, ← pow_size ws whole) (bytes_mod (size ws) v)

pub write_read_record : (ws s : List ℕ) → WholeBytes ws → AreBytes s → size ws ≤ length s
    → write_record ws (read_record ws s) ≡ take (size ws) s
write_read_record ws s whole a h = write_fields ws (number (size ws) s) whole ∙ bytes_number (size ws) s a h

-- ---- several records

pub length_write_records : (ws : List ℕ) (rs : List (List ℕ)) → length (write_records ws rs) ≡ size ws * length rs
unfolding write_records
length_write_records ws [] = omega arith
length_write_records ws (r ∷ rs) =
    rw (length-append (write_record ws r) (write_records ws rs), length_write_record ws r, length_write_records ws rs)
    (omega arith)

pub length_read_records : (ws : List ℕ) (m : ℕ) (s : List ℕ) → length (read_records ws m s) ≡ m
unfolding read_records
length_read_records ws zero s = refl
length_read_records ws (suc m) s = ap suc (length_read_records ws m (drop (size ws) s))

pub read_write_records : (ws : List ℕ) (rs : List (List ℕ)) (t : List ℕ) → WholeBytes ws → All (FitsFields ws) rs
    → read_records ws (length rs) (write_records ws rs ++ t) ≡ rs
unfolding read_records write_records
read_write_records ws [] t whole h = refl
read_write_records ws (r ∷ rs) t whole h =
    let rest = write_records ws rs ++ t in
    rw (
      append_assoc (write_record ws r) (write_records ws rs) t,
      read_write_record ws r rest whole h.0,
      drop_at (write_record ws r) rest (size ws) (length_write_record ws r),
      read_write_records ws rs t whole h.1,
    )

pub write_read_records : (ws : List ℕ) (m : ℕ) (s : List ℕ) → WholeBytes ws → AreBytes s → size ws * m ≤ length s
    → write_records ws (read_records ws m s) ≡ take (size ws * m) s
unfolding read_records write_records
write_read_records ws zero s whole a h = rw (mul-zero (size ws))
write_read_records ws (suc m) s whole a h =
    let e : size ws * suc m ≡ size ws + size ws * m = omega arith in
    let rest : size ws * m ≤ length (drop (size ws) s) = rw (length-drop (size ws) s) (omega arith) in
    rw (
      e,
      take-add (size ws) (size ws * m) s,
      write_read_record ws s whole a (omega arith),
      write_read_records ws m (drop (size ws) s) whole (all_drop (λ (b : ℕ). b < 256) (size ws) s a) rest,
    )
