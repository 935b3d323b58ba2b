-- Records met one by one from the start of a file, as the loops over entries, steps and pairs meet them. In order: a
-- part to the end; the record at a place (`record_at_is`); what is left of a list from place i on is its item there and
-- what is left from the next place on (`entry_next`, `step_next`, `pair_next`), and how many there are;
-- at the end: the cells of pairs have 10 bits (`cells_fit`). Assumes nothing.
use Prim.Native.Nat.{ℕ, suc, ◌+◌, ◌*◌, ◌-◌, ◌<◌, ◌≤◌, zero}
use mathlib.Core.Path.{◌≡◌, sym, ap, ◌∙◌}
use mathlib.Core.List.{List, [], ◌∷◌, map}
use native.Mathlib.Omega.{arith}
use native.Mathlib.Nat.{mul-suc, mul-zero}
use native.Mathlib.Numerals.{add-one}
use lib.ListN.{length, take, drop, get_or, length-drop, length-map, get_or-map}
use lib.Seq.{drop-drop, drop-cons, take_all}
use Rattle.matching.specs.Lists.{All}
use Rattle.matching.specs.Pairing.{cells}
use Rattle.cellfile.specs.Fields.{size, read_record, read_records, fields}
use Rattle.cellfile.specs.Files.{Layout, start, cells_of, count_of, read_entries, as_entry, as_pair, pairing}
use Rattle.cellfile.specs.Files.{list_layout, entries_all, steps_of, pairs_of, slip}
use Rattle.cellfile.specs.Reads.{WholeFile, place_of, RecordAt, RecordRead, EntryRead, StepRead, PairRead}
use Rattle.cellfile.specs.Words.{no_entry}
use Rattle.cellfile.specs.declared.decode.Entry.{Entry}
use Rattle.cellfile.specs.declared.decode.SlipStep.{SlipStep}
use Rattle.cellfile.specs.declared.decode.PairEntry.{PairEntry}
use Rattle.cellfile.proofs.Fields.{length_read_records}

-- a part to the end is what is left
abbrev pub rest_from : ℕ → List ℕ → List ℕ
rest_from at s = take (length s - at) (drop at s)

pub from_place : (at : ℕ) (s : List ℕ) → rest_from at s ≡ drop at s
from_place at s = take_all (length s - at) (drop at s) (omega (arith, length-drop at s))

-- ---- the record at a place

pub record_in_is : (ws s : List ℕ) (m i : ℕ) → i < m
    → get_or (read_records ws m s) i [] ≡ read_record ws (drop (size ws * i)
    s)
unfolding read_records
record_in_is ws s zero i l = absurd (omega arith)
record_in_is ws s (suc m) zero l = rw mul-zero
record_in_is ws s (suc m) (suc i) l =
    let e : size ws + size ws * i ≡ size ws * suc i = rw mul-suc (omega arith) in
    record_in_is ws (drop (size ws) s) m i (omega arith) ∙ rw (drop-drop (size ws * i) (size ws) s, e)

pub record_at_is : (l : Layout) (s : List ℕ) (i : ℕ) → i < count_of s
    → get_or (read_entries l s) i [] ≡ read_record l.entry (drop (place_of l s i) s)
record_at_is l s i h =
    record_in_is l.entry (drop (start l (cells_of s)) s) (count_of s) i h
    ∙ rw (drop-drop (size l.entry * i) (start l (cells_of s)) s)

-- the record read where it starts
pub record_found : {A : Type 0} {l : Layout} {says : A → List ℕ} {Fits : A → Type 0} (s : List ℕ) {m : ℕ} (i at : ℕ)
    {r : A} → WholeFile l s m → i < m → at ≡ place_of l s i → RecordAt l says Fits (rest_from at s) r
    → RecordRead l says Fits s i r
record_found {l = l} s i at w k e h = record {
  is =
      h.is ∙ ap (read_record l.entry) (from_place at s ∙ ap (λ p. drop p s) e)
      ∙ sym (record_at_is l s i (omega (arith, w.count, k)));
  fits = h.fits;
}

records_count : (l : Layout) (s : List ℕ) → length (read_entries l s) ≡ count_of s
records_count l s = length_read_records l.entry (count_of s) (drop (start l (cells_of s)) s)

-- ---- what is left from a place on

pub next : {A : Type 0} (xs : List A) (i : ℕ) (d x : A) → i < length xs → x ≡ get_or xs i d
    → drop i xs ≡ x ∷ drop (i + 1) xs
next xs i d x l e = rw (e, add-one i) (drop-cons xs i d l)

pub entries_count : (s : List ℕ) → length (entries_all s) ≡ count_of s
unfolding entries_all
entries_count s = length-map (read_entries (list_layout s) s) as_entry ∙ records_count (list_layout s) s

pub entry_next : (s : List ℕ) (i : ℕ) (e : Entry) → i < count_of s → EntryRead s i e
    → drop i (entries_all s) ≡ (e.a, e.b, e.points) ∷ drop (i + 1) (entries_all s)
entry_next s i e l r = next (entries_all s) i no_entry _ (omega (arith, entries_count s)) r.is

pub steps_count : (s : List ℕ) → length (steps_of s) ≡ count_of s
steps_count s = length-map (read_entries slip s) as_pair ∙ records_count slip s

pub step_next : (s : List ℕ) (i : ℕ) (t : SlipStep) → i < count_of s → StepRead s i t
    → drop i (steps_of s) ≡ (t.rule, t.cell) ∷ drop (i + 1) (steps_of s)
step_next s i t l r =
    next (steps_of s) i (0, 0) _ (omega (arith, steps_count s))
    (ap as_pair r.is ∙ sym (get_or-map as_pair (read_entries slip s) i []))

pub fields_count : (s : List ℕ) → length (read_entries pairing s) ≡ count_of s
fields_count s = records_count pairing s

pub pairs_count : (s : List ℕ) → length (pairs_of s) ≡ count_of s
pairs_count s = length-map (read_entries pairing s) as_pair ∙ fields_count s

pub pair_next : (s : List ℕ) (i : ℕ) (p : PairEntry) → i < count_of s → PairRead s i p
    → drop i (pairs_of s) ≡ (p.a, p.b) ∷ drop (i + 1) (pairs_of s)
pair_next s i p l r =
    next (pairs_of s) i (0, 0) _ (omega (arith, pairs_count s))
    (ap as_pair r.is ∙ sym (get_or-map as_pair (read_entries pairing s) i []))

-- ---- the cells of pairs

cells_in : (k m : ℕ) (s : List ℕ) → 1024 ≤ k
    → All (λ (c : ℕ). c < k) (cells (map as_pair (read_records pairing.entry m s)))
unfolding read_records fields
cells_in k zero s h = tt
cells_in k (suc m) s h = (omega arith, (omega arith, cells_in k m (drop 3 s) h))

pub cells_fit : (k : ℕ) (s : List ℕ) → 1024 ≤ k → All (λ (c : ℕ). c < k) (cells (pairs_of s))
cells_fit k s h = cells_in k (count_of s) (drop 4 s) h
