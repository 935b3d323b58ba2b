-- The entries of a raw list as words, and the store list that they make. In order: loading them; they fit their fields;
-- the words in order are the entries in order (`order_words`); the file of these words (`order_length`,
-- `tidy_written`). Assumes nothing.
use mathlib.Core.Path.{◌≡◌, refl, sym, ap, ◌∙◌}
use mathlib.Core.Bool.{false}
use mathlib.Core.List.{List, [], ◌∷◌, ◌++◌, map, map-map, append-nil}
use Prim.Native.Nat.{ℕ, ◌+◌, ◌≤◌, ◌<◌}
use native.Mathlib.Omega.{arith}
use lib.ListN.{length, take, drop, set, drop_of_length-le, length-map}
use lib.Seq.{take-append-le}
use Rattle.matching.specs.Lists.{All}
use Rattle.matching.specs.Listed.{Entry}
use Rattle.matching.proofs.Alls.{all_map}
use Rattle.cellfile.specs.Fields.{packed}
use Rattle.cellfile.specs.Files.{store_list, cells_of, count_of, entries_all, entry_key, as_fields, onto, file_length}
use Rattle.cellfile.specs.Fits.{FitsFields}
use Rattle.cellfile.specs.Reads.{EntryRead}
use Rattle.cellfile.specs.Words.{store_word, words_file}
use Rattle.cellfile.specs.declared.decode.Entry.{Entry as Read}
use Rattle.cellfile.proofs.All.{all_values}
use Rattle.cellfile.proofs.Lists.{view_all, view_small}
use Rattle.cellfile.proofs.Walk.{entries_count, entry_next}
use Rattle.cellfile.proofs.Outputs.{plain_store, words_length, records_file}
use Rattle.checks.specs.Refusals.{is_bad_raw}
use Rattle.checks.proofs.Rows.{bad_raw_none}
use Rattle.checks.specs.Answering.{Does}
use Rattle.checks.proofs.Answering.{one_written}
use Rattle.checks.proofs.Accepted.{all_with}
use Rattle.sorting.specs.Sorted.{sorted}
use Rattle.sorting.specs.Words.{word_key}
use Rattle.sorting.proofs.Sorted.{all_onto, length_sorted, sorted_map}
use Rattle.sorting.proofs.Merging.{store_next}
use Rattle.tidying.specs.Calls.{low_first, tidied, tidy_file}
use Rattle.tidying.specs.Words.{raw_word, RawThere}

-- ---- loading

pub load_next : (raw : List ℕ) (i : ℕ) (e : Read) (w : List ℕ) {x : ℕ} → i < count_of raw → EntryRead raw i e
    → x ≡ raw_word (e.a, e.b, e.points) → i < length w
    → take i w ++ map raw_word (drop i (entries_all raw))
    ≡ take (i + 1) (set w i x) ++ map raw_word (drop (i + 1) (entries_all raw))
load_next raw i e w {x} l r q h =
    ap (λ es. take i w ++ map raw_word es) (entry_next raw i e l r)
    ∙ ap (λ y. take i w ++ y ∷ map raw_word (drop (i + 1) (entries_all raw))) (sym q)
    ∙ store_next w (map raw_word (drop (i + 1) (entries_all raw))) i x h

pub load_end : (raw w : List ℕ) {m : ℕ} (i : ℕ) → m ≡ count_of raw → i ≤ m → m ≤ i
    → map raw_word (entries_all raw) ≡ take i w ++ map raw_word (drop i (entries_all raw))
    → take m w ≡ map raw_word (entries_all raw)
load_end raw w {m} i c l g e =
    let same : m ≡ i = omega arith in
    let none : drop i (entries_all raw) ≡ [] =
    drop_of_length-le (entries_all raw) {i = i} (omega (arith, entries_count raw)) in
    rw same (sym (e ∙ rw none (append-nil (take i w))))

-- ---- what has passed 13

pub raw_few : {raw w1 w2 : List ℕ} {m : ℕ} → RawThere raw w1 w2 → m ≡ count_of raw → m ≤ 4096
raw_few {raw} t c = omega (arith, (bad_raw_none raw t.accepted).0.1)

-- Cells of 10 bits, points of 20.
abbrev pub FitsEntry : Entry → Type 0
FitsEntry e = FitsFields store_list.entry (as_fields e)

module _ (raw : List ℕ) (accepted : is_bad_raw raw ≡ false) where
  abbrev es : List Entry
  es = entries_all raw

  turned_fit : All FitsEntry (map low_first es)
  turned_fit =
      let r = bad_raw_none raw accepted in
      all_values low_first FitsEntry es
      (all_with (λ (e : Entry). e.2 < 1048576) (λ (e : Entry). FitsEntry (low_first e)) es
      (rw (view_all raw) at (view_small raw))
      (all_map {Q = λ (e : Entry). e.2 < 1048576 → FitsEntry (low_first e)}
      (λ e c p. (omega (arith, c.1, r.0), (omega (arith, c.1, c.2, r.0), (p, tt)))) es r.2))

  pub tidied_fit : All FitsEntry (tidied es)
  unfolding tidied
  tidied_fit = all_onto entry_key FitsEntry (map low_first es) [] turned_fit tt

  pub tidied_length : length (tidied es) ≤ count_of raw
  unfolding tidied
  tidied_length =
      omega (arith, length_sorted entry_key (map low_first es), length-map es low_first, entries_count raw)

  -- ---- the words in order

  word_key_is : (e : Entry) → FitsEntry e → word_key (store_word e) ≡ entry_key e
  unfolding packed
  word_key_is e h = omega (arith, h.1.0, h.1.1.0)

  sorted_words : sorted word_key (map raw_word es) ≡ map store_word (tidied es)
  unfolding tidied
  sorted_words =
      ap (sorted word_key) (sym (map-map store_word low_first es))
      ∙ sorted_map entry_key word_key store_word (map low_first es) (all_map word_key_is (map low_first es) turned_fit)

  -- put in order in their part of the buffer
  pub order_words : (w v : List ℕ) {r m : ℕ} → take m w ≡ map raw_word es → m ≡ count_of raw
      → length v ≡ length (take m w) → r ≤ length (take m w) → take r v ≡ sorted word_key (take m w)
      → (r ≤ 4096) × (take r (v ++ drop m w) ≡ map store_word (tidied es))
  order_words w v {r} {m} part c lv lr q = (
    omega (arith, ap length part, length-map es raw_word, entries_count raw, (bad_raw_none raw accepted).0.1),
    take-append-le r v (drop m w) (omega (arith, lv)) ∙ q ∙ ap (sorted word_key) part ∙ sorted_words,
  )

  -- ---- the file of the words

  module _ (w : List ℕ) (r : ℕ) (l : r ≤ length w) (e : take r w ≡ map store_word (tidied es)) where
    order_file : {n : ℕ} → n ≡ cells_of raw → words_file store_list n r w ≡ tidy_file raw
    order_file c = rw c (records_file store_list (cells_of raw) r w as_fields (tidied es) e tidied_fit)

    pub order_length : file_length store_list (cells_of raw) r ≡ length (tidy_file raw)
    order_length = words_length plain_store (cells_of raw) r w l ∙ ap length (order_file refl)

    pub tidy_written : {n : ℕ} (out : List ℕ) {out' : List ℕ} → n ≡ cells_of raw
        → length (tidy_file raw) ≤ length out
        → out' ≡ onto (words_file store_list n r w) out
        → Does [] ((tidy_file raw, out, out') ∷ []) (0, length (tidy_file raw) ∷ [])
    tidy_written out c h q =
        one_written (tidy_file raw) out refl h (q ∙ ap (λ f. onto f out) (order_file c))
