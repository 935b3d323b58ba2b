-- What is written is not refused. In order: the header of a file that fits is read again (`header_read`), and the
-- entries (`entries_read`); refusals 7 and 9 find no fault in the header (`headed`); a well-formed list passes 2 to 6
-- (`list_passes`) and is read again (`list_cells`, `list_written`), a raw list passes 13 (`raw_passes`) and is read
-- again (`raw_cells`, `raw_written`); a slip of steps that have a rule passes 7 (`slip_passes`), and its steps are read
-- again (`steps_read`); pairs of n cells in file order, as a pairing, pass 9 (`pairing_passes`) and are read again
-- (`pairs_read`). Assumes nothing.
use Prim.Native.Nat.{ℕ, suc, ◌≤◌, ◌<◌}
use mathlib.Core.Path.{◌≡◌, refl, sym, ap, ◌∙◌}
use mathlib.Core.Logic.{inl, inr, ◌≢◌}
use mathlib.Core.Bool.{true, false, not}
use mathlib.Core.List.{List, [], ◌∷◌, ◌++◌, map}
use native.Mathlib.Omega.{arith}
use borrow.Author.Tests.{le-ltb, eq-eqb, le-leb}
use lib.ListN.{length, get_or, length-map}
use Rattle.matching.specs.Lists.{All, any}
use Rattle.matching.specs.Pairs.{Pair, Each}
use Rattle.matching.specs.Listed.{Entry, Before, Accepted}
use Rattle.matching.proofs.Alls.{all_map}
use Rattle.matching.proofs.Entries.{accepted_all}
use Rattle.matching.proofs.Filed.{InOrder}
use Rattle.matching.proofs.Sums.{each_map, each_all}
use Rattle.cellfile.specs.Fields.{read_record, write_record, write_records}
use Rattle.cellfile.specs.Files.{Layout, store_list, raw_list, slip, pairing, file_length, File, write_file}
use Rattle.cellfile.specs.Files.{read_entries}
use Rattle.cellfile.specs.Files.{as_entry, as_fields, entries_of, header, kind_of, cells_of, count_of, zeros_of}
use Rattle.cellfile.specs.Files.{as_pair}
use Rattle.cellfile.specs.Files.{steps_of, pairs_of, pair_fields, key, entry_key, list_layout, entries_all, list_file}
use Rattle.cellfile.specs.Files.{raw_file}
use Rattle.cellfile.specs.Fits.{FitsFields, FitsFile}
use Rattle.checks.specs.Refusals.{first, lists, list_rows, is_no_list, is_too_large, wrong_length, stray_pair}
use Rattle.checks.specs.Refusals.{stray_entry}
use Rattle.checks.specs.Refusals.{ascending_from, unordered, misheaded, is_no_rule, bad_slip, bad_pair, bad_pairing}
use Rattle.checks.specs.Refusals.{loose_pair, is_bad_raw}
use Rattle.checks.specs.Loops.{head_rows, entry_rows}
use Rattle.cellfile.proofs.All.{all_values}
use Rattle.cellfile.proofs.Fields.{read_write_record}
use Rattle.cellfile.proofs.Lists.{layout_store, layout_raw}
use Rattle.cellfile.proofs.RoundTrip.{read_write, length_file}
use Rattle.checks.proofs.Rows.{any_fails, first_none}
use Rattle.checks.proofs.Layers.{first_passed}
use Rattle.checks.proofs.Forms.{stray_not, raw_entries, loose_not}
use Rattle.checks.proofs.Accepted.{all_with}

-- ---- the header

module _ (l : Layout) (f : File) (fits : FitsFile l f) where
  pub header_read : read_record header (write_file l f) ≡ l.kind ∷ f.cells ∷ length f.entries ∷ 0 ∷ []
  header_read =
      read_write_record header (l.kind ∷ f.cells ∷ length f.entries ∷ 0 ∷ [])
      (write_record (l.extra f.cells) f.extra ++ write_records l.entry f.entries) refl
      (fits.kind, (fits.cells, (fits.count, (omega arith, tt))))

  pub entries_read : read_entries l (write_file l f) ≡ f.entries
  entries_read = ap (λ (g : File). g.entries) (read_write l f fits)

  kind_read : kind_of (write_file l f) ≡ l.kind
  kind_read = ap (λ (r : List ℕ). get_or r 0 0) header_read

  pub cells_read : cells_of (write_file l f) ≡ f.cells
  cells_read = ap (λ (r : List ℕ). get_or r 1 0) header_read

  count_read : count_of (write_file l f) ≡ length f.entries
  count_read = ap (λ (r : List ℕ). get_or r 2 0) header_read

  zeros_read : zeros_of (write_file l f) ≡ 0
  zeros_read = ap (λ (r : List ℕ). get_or r 3 0) header_read

  pub headed : misheaded l f.cells (write_file l f) ≡ false
  unfolding misheaded
  headed =
      let s = write_file l f in
      let long = length_file l f in
      rw (
        le-ltb (length s) 4 (omega (arith, long)),
        eq-eqb (kind_of s) l.kind kind_read,
        eq-eqb (cells_of s) f.cells cells_read,
        eq-eqb (zeros_of s) 0 zeros_read,
        eq-eqb (length s) (file_length l (cells_of s) (count_of s)) (long ∙ rw (cells_read, count_read)),
      )

-- ---- lists: their order, and their cells

key_before : (e f : Entry) → e.1 < 1024 → Before e f → key e.0 e.1 < key f.0 f.1
key_before e f l (inl p) = omega arith
key_before e f l (inr p) = omega (arith, p.0, p.1)

keys_ascend : (n low : ℕ) (es : List Entry) → n ≤ 1024 → Accepted n es
    → All (λ (e : Entry). low ≤ key e.0 e.1) es
    → ascending_from low (map entry_key es) ≡ true
keys_ascend n low [] le h p = refl
keys_ascend n low (e ∷ es) le h p =
    rw (le-leb low (key e.0 e.1) p.0)
    (keys_ascend n (suc (key e.0 e.1)) es le h.1.1
    (all_map (λ (f : Entry) b. omega (arith, key_before e f (omega (arith, h.0.1)) b)) es h.1.0))

none_stray : (n : ℕ) (es : List Entry) → Accepted n es
    → any (λ (e : Entry). stray_pair n e.0 e.1) es ≡ false
none_stray n [] h = refl
none_stray n (e ∷ es) h = rw (stray_not n e.0 e.1 h.0.1 h.0.0, none_stray n es h.1.1)

entries_again : (es : List Entry) → map as_entry (map as_fields es) ≡ es
entries_again [] = refl
entries_again (e ∷ es) = ap (λ fs. e ∷ fs) (entries_again es)

pub entries_written : (l : Layout) (n : ℕ) (extra : List ℕ) (es : List Entry)
    → FitsFile l (record { cells = n; extra = extra; entries = map as_fields es })
    → entries_of l (write_file l (record { cells = n; extra = extra; entries = map as_fields es })) ≡ es
entries_written l n extra es fits =
    ap (map as_entry) (entries_read l (record { cells = n; extra = extra; entries = map as_fields es }) fits)
    ∙ entries_again es

-- a list of that kind, with the fields of a store list
abbrev of_kind : ℕ → Layout
of_kind kind = record { kind = kind; extra = store_list.extra; entry = store_list.entry }

-- An entry of n cells, with points of 20 bits.
abbrev Small : ℕ → Entry → Type 0
Small n e = (e.0 < n) × (e.1 < n) × (e.2 < 1048576)

module _ (kind n : ℕ) (es : List Entry) (top : kind < 16) (le : n ≤ 1024) (few : length es ≤ 4096)
    (small : All (Small n) es) where
  abbrev l : Layout
  l = of_kind kind

  abbrev said : File
  said = record { cells = n; extra = []; entries = map as_fields es }

  abbrev s : List ℕ
  s = write_file l said

  fit : FitsFile l said
  fit = record {
    kind = top;
    cells = omega (arith, le);
    count = omega (arith, length-map es as_fields, few);
    whole_extra = refl;
    whole_entry = refl;
    extra = tt;
    entries =
        all_values as_fields (FitsFields store_list.entry) es
        (all_map (λ (e : Entry) h. (omega (arith, h.0), (omega (arith, h.1), (h.2, tt)))) es small);
  }

  its_cells : cells_of s ≡ n
  its_cells = cells_read l said fit

  its_kind : kind_of s ≡ kind
  its_kind = kind_read l said fit

  module _ (layout : list_layout s ≡ l) where
    its_entries : entries_all s ≡ es
    unfolding entries_all
    its_entries = rw layout (entries_written l n [] es fit)

    -- refusals 2 to 4 find no fault
    its_head : first (head_rows (kind ∷ []) s) ≡ 0
    unfolding is_no_list is_too_large wrong_length
    its_head =
        rw (
          le-ltb (length s) 4 (omega (arith, length_file l said)),
          eq-eqb kind (kind_of s) (sym its_kind),
          eq-eqb (zeros_of s) 0 (zeros_read l said fit),
          le-ltb 1024 (cells_of s) (omega (arith, its_cells, le)),
          le-ltb 4096 (count_of s) (omega (arith, count_read l said fit, length-map es as_fields, few)),
          layout,
          eq-eqb (length s) (file_length l (cells_of s) (count_of s)) (length_file l said ∙ rw (count_read l said fit)),
        )

-- ---- a store list

module _ (n : ℕ) (es : List Entry) (le : n ≤ 1024) (few : length es ≤ 4096) (h : Accepted n es)
    (small : All (λ (e : Entry). e.2 < 1048576) es) where
  abbrev small_store : All (Small n) es
  small_store =
      all_with (λ (e : Entry). e.2 < 1048576) (Small n) es small
      (all_map {Q = λ (e : Entry). e.2 < 1048576 → Small n e} (λ e f p. (omega (arith, f), f.1, p)) es
      (accepted_all n es h))

  store_layout : list_layout (list_file n es) ≡ store_list
  store_layout = layout_store (list_file n es) (its_kind 1 n es (omega arith) le few small_store)

  pub list_written : entries_all (list_file n es) ≡ es
  list_written = its_entries 1 n es (omega arith) le few small_store store_layout

  pub list_cells : cells_of (list_file n es) ≡ n
  list_cells = its_cells 1 n es (omega arith) le few small_store

  five : stray_entry (list_file n es) ≡ false
  unfolding stray_entry
  five =
      ap (λ (c : ℕ). any (λ (e : Entry). stray_pair c e.0 e.1) (entries_all (list_file n es))) list_cells
      ∙ ap (any (λ (e : Entry). stray_pair n e.0 e.1)) list_written
      ∙ none_stray n es h

  six : unordered (list_file n es) ≡ false
  unfolding unordered
  six =
      ap (λ (fs : List Entry). not (ascending_from 0 (map entry_key fs))) list_written
      ∙ ap not (keys_ascend n 0 es le h (all_true es))
    where
      all_true : (es : List Entry) → All (λ (e : Entry). 0 ≤ key e.0 e.1) es
      all_true [] = tt
      all_true (e ∷ es) = (omega arith, all_true es)

  -- A well-formed list is not refused.
  pub list_passes : first (list_rows lists (list_file n es)) ≡ 0
  list_passes =
      first_passed (head_rows lists (list_file n es)) (entry_rows (list_file n es))
      (first_none (head_rows lists (list_file n es)) (omega arith)
      (its_head 1 n es (omega arith) le few small_store store_layout)) ∙ rw (five, six)

-- ---- a raw list

module _ (n : ℕ) (es : List Entry) (le : n ≤ 1024) (few : length es ≤ 4096)
    (two : All (λ (e : Entry). (e.0 ≢ e.1) × (e.0 < n) × (e.1 < n)) es)
    (small : All (λ (e : Entry). e.2 < 1048576) es) where
  abbrev small_raw : All (Small n) es
  small_raw =
      all_with (λ (e : Entry). e.2 < 1048576) (Small n) es small
      (all_map {Q = λ (e : Entry). e.2 < 1048576 → Small n e} (λ e t p. (t.1, t.2, p)) es two)

  raw_layout : list_layout (raw_file n es) ≡ raw_list
  raw_layout = layout_raw (raw_file n es) (its_kind 6 n es (omega arith) le few small_raw)

  pub raw_written : entries_all (raw_file n es) ≡ es
  raw_written = its_entries 6 n es (omega arith) le few small_raw raw_layout

  pub raw_cells : cells_of (raw_file n es) ≡ n
  raw_cells = its_cells 6 n es (omega arith) le few small_raw

  pub raw_passes : is_bad_raw (raw_file n es) ≡ false
  raw_passes =
      sym (raw_entries (raw_file n es) (its_head 6 n es (omega arith) le few small_raw raw_layout) (sym raw_cells))
      ∙ ap (any (λ (e : Entry). loose_pair n e.0 e.1)) raw_written
      ∙ any_fails (λ (e : Entry). loose_pair n e.0 e.1) es
      (all_map (λ (e : Entry) t. loose_not n e.0 e.1 t.0 t.1 t.2) es two)

-- ---- slips

module _ (f : File) (fits : FitsFile slip f) where
  pub steps_read : steps_of (write_file slip f) ≡ map as_pair f.entries
  steps_read = ap (map as_pair) (entries_read slip f fits)

  pub slip_passes : (taken : ℕ × ℕ) → any (λ (t : ℕ × ℕ). is_no_rule taken t.0) (map as_pair f.entries) ≡ false
      → bad_slip taken f.cells (write_file slip f) ≡ false
  unfolding bad_slip
  slip_passes taken rules = rw (headed slip f fits, steps_read, rules)

-- ---- pairings

no_bad : (n : ℕ) (m : List Pair) → Each (λ a b. (a < b) × (b < n)) m → any (bad_pair n) (map pair_fields m) ≡ false
no_bad n [] h = refl
no_bad n (e ∷ m) h = rw (stray_not n e.0 e.1 h.0.1 h.0.0, no_bad n m h.1)

ascending : (low : ℕ) (m : List Pair) → InOrder m → Each (λ a b. low ≤ a) m
    → ascending_from low (map (λ (r : List ℕ). get_or r 0 0) (map pair_fields m)) ≡ true
ascending low [] o l = refl
ascending low (e ∷ m) o l =
    rw (le-leb low e.0 l.0) (ascending (suc e.0) m o.1.1 (each_map (λ a b k. omega arith) m o.1.0))

pair_fields_fit : (n : ℕ) (m : List Pair) → n ≤ 1024 → Each (λ a b. (a < b) × (b < n)) m
    → All (FitsFields pairing.entry) (map pair_fields m)
pair_fields_fit n [] le h = tt
pair_fields_fit n (e ∷ m) le h =
    ((omega (arith, h.0.0, h.0.1), (omega (arith, h.0.1), (omega arith, tt))), pair_fields_fit n m le h.1)

pairs_again : (m : List Pair) → map as_pair (map pair_fields m) ≡ m
pairs_again [] = refl
pairs_again (e ∷ m) = ap (λ es. e ∷ es) (pairs_again m)

module _ (n : ℕ) (m : List Pair) (le : n ≤ 1024) (few : length m < 8192) (h : Each (λ a b. (a < b) × (b < n)) m) where
  abbrev file : File
  file = record { cells = n; extra = []; entries = map pair_fields m }

  fits : FitsFile pairing file
  fits = record {
    kind = omega arith;
    cells = omega arith;
    count = omega (arith, length-map m pair_fields);
    whole_extra = refl;
    whole_entry = refl;
    extra = tt;
    entries = pair_fields_fit n m le h;
  }

  pub pairs_read : pairs_of (write_file pairing file) ≡ m
  pairs_read = ap (map as_pair) (entries_read pairing file fits) ∙ pairs_again m

  pub pairing_passes : InOrder m → bad_pairing n (write_file pairing file) ≡ false
  unfolding bad_pairing
  pairing_passes o =
      rw (
        headed pairing file fits,
        entries_read pairing file fits,
        no_bad n m h,
        ascending 0 m o (each_all (λ a b. omega arith) m),
      )
