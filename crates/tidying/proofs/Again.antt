-- A list that refusals 2 to 6 pass, its kind changed to 6, passes 13 and comes back as itself, byte for byte (`again`).
-- In order: only the kind changes; the conditions of 13; the entries stay; a store list is what is written of its
-- entries (`list_again`); the law. Assumes nothing.
use mathlib.Core.Path.{◌≡◌, refl, sym, ap, ap₂, ◌∙◌}
use mathlib.Core.Bool.{false}
use mathlib.Core.List.{List, [], ◌∷◌, map}
use Prim.Native.Nat.{ℕ, zero, suc, ◌+◌, ◌*◌, ◌≤◌, ◌<◌, min, max}
use native.Mathlib.Omega.{arith}
use borrow.Author.Tests.{le-ltb, ltb-false, eq-eqb}
use lib.Dec.{ltb}
use lib.ListN.{length, drop, get_or}
use Rattle.matching.specs.Lists.{All, any}
use Rattle.matching.specs.Listed.{Entry}
use Rattle.matching.proofs.Alls.{all_map}
use Rattle.matching.proofs.Entries.{Fit}
use Rattle.cellfile.specs.Bytes.{number}
use Rattle.cellfile.specs.Fields.{fields, read_records}
use Rattle.cellfile.specs.Files.{store_list, raw_list, as_entry, as_fields, kind_of, cells_of, count_of, zeros_of}
use Rattle.cellfile.specs.Files.{file_length}
use Rattle.cellfile.specs.Files.{list_layout, entries_all, entry_key, write_file, list_file}
use Rattle.cellfile.specs.Fits.{AreBytes}
use Rattle.cellfile.proofs.All.{all_get_or}
use Rattle.cellfile.proofs.Lists.{shape_is, length_said, store_kind, layout_store, entries_are}
use Rattle.checks.specs.Refusals.{first, lists, list_rows, is_no_list, is_too_large, wrong_length, loose_pair}
use Rattle.checks.specs.Refusals.{is_bad_raw}
use Rattle.checks.proofs.Rows.{or_none, any_fails, list_none, not_a_list_none}
use Rattle.checks.proofs.Forms.{loose_not}
use Rattle.checks.proofs.Ascending.{ascending_ascends}
use Rattle.checks.proofs.Accepted.{accepted_entries, list_fits, write_read_list}
use Rattle.sorting.proofs.Sorted.{sorted_same}
use Rattle.tidying.specs.Calls.{low_first, tidied, tidy_file}
use Rattle.tidying.specs.Said.{as_raw}

-- ---- the header: the first four bits are the kind

module _ (b : ℕ) (s : List ℕ) (a : AreBytes (b ∷ s)) where
  byte : (i : ℕ) → get_or s i 0 < 256
  byte i = all_get_or (λ (x : ℕ). x < 256) s i 0 (omega arith) a.1

  raw_kind : kind_of (as_raw (b ∷ s)) ≡ 6
  unfolding fields number
  raw_kind = omega (arith, byte 0, byte 1, byte 2)

  same_cells : cells_of (as_raw (b ∷ s)) ≡ cells_of (b ∷ s)
  unfolding fields number
  same_cells = omega (arith, byte 0, byte 1, byte 2)

  same_count : count_of (as_raw (b ∷ s)) ≡ count_of (b ∷ s)
  unfolding fields number
  same_count = omega (arith, byte 0, byte 1, byte 2)

  same_zeros : zeros_of (as_raw (b ∷ s)) ≡ zeros_of (b ∷ s)
  unfolding fields number
  same_zeros = omega (arith, byte 0, byte 1, byte 2)

-- ---- a store list is what is written of its entries

-- records of three fields
records_again : (m : ℕ) (s : List ℕ)
    → map as_fields (map as_entry (read_records store_list.entry m s)) ≡ read_records store_list.entry m s
unfolding read_records fields
records_again zero s = refl
records_again (suc m) s = ap₂ (λ r rs. r ∷ rs) refl (records_again m (drop 5 s))

-- it is a store list
module _ (s : List ℕ) (h : first (list_rows lists s) ≡ 0) where
  rows_are : (kind_of s ≡ 1) × (zeros_of s ≡ 0) × (4 ≤ length s)
  unfolding is_no_list
  rows_are =
      let two = (list_none lists s h).0 in
      let k = not_a_list_none lists s two in
      (store_kind s k.0, k.1, ltb-false (length s) 4 (or_none (ltb (length s) 4) _ two).0)

  list_again : AreBytes s → list_file (cells_of s) (entries_all s) ≡ s
  unfolding fields
  list_again a =
      ap (λ rs. write_file store_list (record { cells = cells_of s; extra = []; entries = rs }))
      (ap (map as_fields) (entries_are s) ∙ records_again (count_of s) (drop 4 s))
      ∙ rw (layout_store s rows_are.0) at (write_read_list s a h)

-- ---- entries in order stay

low_same : (n : ℕ) (es : List Entry) → All (Fit n) es → map low_first es ≡ es
low_same n [] h = refl
low_same n (e ∷ es) h =
    let p : min e.0 e.1 ≡ e.0 = omega arith in
    let q : max e.0 e.1 ≡ e.1 = omega arith in
    ap₂ (λ x xs. x ∷ xs) (rw (p, q)) (low_same n es h.1)

tidied_same : (s : List ℕ) → first (list_rows lists s) ≡ 0 → tidied (entries_all s) ≡ entries_all s
unfolding tidied
tidied_same s h =
    let e = accepted_entries s h in
    rw (low_same (cells_of s) (entries_all s) e.0)
    (sorted_same entry_key (entries_all s) (ascending_ascends entry_key 0 (entries_all s) e.1))

-- ---- the law

module _ (b : ℕ) (s : List ℕ) (a : AreBytes (b ∷ s)) (h : first (list_rows lists (b ∷ s)) ≡ 0) where
  abbrev list : List ℕ
  list = b ∷ s

  same_entries : entries_all (as_raw list) ≡ entries_all list
  same_entries =
      entries_are (as_raw list)
      ∙ ap (λ m. map as_entry (read_records store_list.entry m (drop 4 list))) (same_count b s a)
      ∙ sym (entries_are list)

  -- the length, by the count
  said : (s : List ℕ) → file_length (list_layout s) (cells_of s) (count_of s) ≡ 4 + 5 * count_of s
  said s = sym (length_said s (record { start = 4; bytes = 5 }) (count_of s) (shape_is s))

  none_loose : any (λ (e : Entry). loose_pair (cells_of list) e.0 e.1) (entries_all list) ≡ false
  none_loose =
      any_fails (λ (e : Entry). loose_pair (cells_of list) e.0 e.1) (entries_all list)
      (all_map (λ (e : Entry) f. loose_not (cells_of list) e.0 e.1 (omega (arith, f.0)) (omega (arith, f)) f.1)
      (entries_all list) (accepted_entries list h).0)

  kind_right : is_no_list (raw_list.kind ∷ []) (as_raw list) ≡ false
  unfolding is_no_list
  kind_right =
      let r = rows_are list h in
      rw (raw_kind b s a, same_zeros b s a, r.1, le-ltb (length list) 4 r.2)

  not_large : is_too_large (as_raw list) ≡ false
  unfolding is_too_large
  not_large =
      let f = list_fits list h in
      rw (
        same_cells b s a,
        same_count b s a,
        le-ltb 1024 (cells_of list) f.0,
        le-ltb 4096 (count_of list) f.1,
      )

  length_right : wrong_length (as_raw list) ≡ false
  unfolding wrong_length
  length_right =
      rw (eq-eqb (length (as_raw list)) (file_length (list_layout (as_raw list)) (cells_of (as_raw list))
      (count_of (as_raw list)))
      (omega (arith, (list_fits list h).2, said list, said (as_raw list), same_count b s a)))

  passes : is_bad_raw (as_raw list) ≡ false
  unfolding is_bad_raw
  passes = rw (kind_right, not_large, length_right, same_cells b s a, same_entries) none_loose

  comes_back : tidy_file (as_raw list) ≡ list
  comes_back =
      ap₂ (λ n es. list_file n (tidied es)) (same_cells b s a) same_entries
      ∙ ap (list_file (cells_of list)) (tidied_same list h) ∙ list_again list h a

pub again : (s : List ℕ) → AreBytes s → first (list_rows lists s) ≡ 0
    → (is_bad_raw (as_raw s) ≡ false) × (tidy_file (as_raw s) ≡ s)
again [] a h = absurd (omega (arith, (rows_are [] h).2))
again (b ∷ s) a h = (passes b s a h, comes_back b s a h)
