-- Laws of files written into an output. In order: the last bytes of a number; one part written after
-- another, `onto_next`; the words of a file; the files that words make, their length (`words_length`), and what they
-- stand for (`records_file`).
use Prim.Native.Nat.{ℕ, zero, suc, ◌+◌, ◌*◌, ◌-◌, ◌/◌, ◌%◌, ◌^◌, ◌<◌, ◌≤◌}
use mathlib.Core.Path.{◌≡◌, refl, sym, ap, ap₂, ◌∙◌}
use mathlib.Core.List.{List, [], ◌∷◌, ◌++◌, map, append-nil, append_assoc}
use native.Mathlib.Omega.{arith}
use native.Mathlib.Nat.{mul-suc, mul-le-mul_left, div-div-eq-div-mul, mul_comm, pow-suc}
use native.Mathlib.Numerals.{add-one}
use lib.ListN.{length, take, drop, get_or, length-append, length-drop, length-map, get_or-map}
use lib.Seq.{drop-length, drop_at, drop-drop, take-suc, take_at, take_all}
use lib.Seq.{length-take-le}
use Rattle.std.specs.Int.{byte_at, bytes_high_first, to_be_bytes, w64}
use borrow.Rule.Slice.PartMut.{put_mid, post_of, Post-is}
use Rattle.cellfile.specs.Bytes.{bytes}
use Rattle.cellfile.specs.Fields.{size, packed, fields, write_records}
use Rattle.matching.specs.Lists.{All}
use Rattle.matching.specs.Listed.{Entry}
use Rattle.buffers.specs.Map.{unit, at_cells}
use Rattle.cellfile.specs.Files.{Layout, header, store_list, short_list, slip, pairing, origin_list, file_length}
use Rattle.cellfile.specs.Files.{write_file, onto, as_fields}
use Rattle.cellfile.specs.Fits.{WholeBytes, FitsFields}
use Rattle.cellfile.specs.Words.{word_bytes, file_of, words_file, word_of_short, no_entry, Plain, RowsOf}
use Rattle.cellfile.specs.Words.{points_room}
use Rattle.cellfile.proofs.Bytes.{length_bytes}
use Rattle.cellfile.proofs.Fields.{write_fields, fields_packed}
use Rattle.cellfile.proofs.RoundTrip.{length_file}

-- ---- the last bytes of a number

byte_on : (k v : ℕ) → byte_at k (v / 256) ≡ byte_at (suc k) v
byte_on zero v = refl
byte_on (suc k) v = rw (div-div-eq-div-mul v 256 (256 ^ suc k), mul_comm 256 (256 ^ suc k), ← pow-suc 256 (suc k))

high_first : (k v : ℕ) → bytes (suc k) v ≡ byte_at k v ∷ bytes k v
unfolding bytes
high_first zero v = refl
high_first (suc k) v = rw (high_first k (v / 256), byte_on k v)

all_bytes : (k v : ℕ) → bytes_high_first k v ≡ bytes k v
unfolding bytes
all_bytes zero v = refl
all_bytes (suc k) v = rw (all_bytes k v) (sym (high_first k v))

pub last_bytes : (k v : ℕ) → k ≤ 8 → drop (8 - k) (to_be_bytes w64 v) ≡ bytes k v
last_bytes k v h = low k h ∙ all_bytes k v
  where
    low : (k : ℕ) → k ≤ 8 → drop (8 - k) (bytes_high_first 8 v) ≡ bytes_high_first k v
    low zero h = refl
    low (suc zero) h = refl
    low (suc (suc zero)) h = refl
    low (suc (suc (suc zero))) h = refl
    low (suc (suc (suc (suc zero)))) h = refl
    low (suc (suc (suc (suc (suc zero))))) h = refl
    low (suc (suc (suc (suc (suc (suc zero)))))) h = refl
    low (suc (suc (suc (suc (suc (suc (suc zero))))))) h = refl
    low (suc (suc (suc (suc (suc (suc (suc (suc zero)))))))) h = refl
    low (suc (suc (suc (suc (suc (suc (suc (suc (suc k))))))))) h = absurd (omega arith)

-- written at the start of an output
pub last_written : (k v : ℕ) (out : List ℕ) {all : List ℕ} → k ≤ 8 → all ≡ to_be_bytes w64 v
    → take (8 - (8 - k)) (drop (8 - k) all) ++ drop k out ≡ onto (bytes k v) out
unfolding onto
last_written k v out h e =
    rw (
      e,
      take_all (8 - (8 - k)) (drop (8 - k) (to_be_bytes w64 v)) (omega
          (arith, length-drop (8 - k) (to_be_bytes w64 v))),
      last_bytes k v h,
      length_bytes k v,
    )

-- ---- a part after what was written

module _ (pre xs out₀ out : List ℕ) (at : ℕ) (len : length pre ≡ at) (e : out ≡ onto pre out₀) where
  room : at ≤ length out
  unfolding onto
  room = omega (arith, ap length e, length-append pre (drop (length pre) out₀))

  front : take at out ≡ pre
  unfolding onto
  front = rw e (take_at pre (drop (length pre) out₀) at len)

  back : drop at out ≡ drop at out₀
  unfolding onto
  back = rw (e, len) (drop_at pre (drop at out₀) at len)

  pub onto_next : {last : List ℕ} → last ≡ onto xs (take (length out - at) (drop at out))
      → put_mid at (length out - at) out last ≡ onto (pre ++ xs) out₀
  unfolding onto
  onto_next q =
      let z : post_of at (length out - at) out ≡ [] = Post-is at (length out) out room ∙ drop-length out in
      let a : take (length out - at) (drop at out) ≡ drop at out₀ =
      take_all (length out - at) (drop at out) (omega (arith, length-drop at out)) ∙ back in
      rw (front, z, append-nil, q, a, drop-drop (length xs) at out₀, length-append, len, append_assoc)

-- ---- words

words_append : (k : ℕ) (us vs : List ℕ) → word_bytes k (us ++ vs) ≡ word_bytes k us ++ word_bytes k vs
unfolding word_bytes
words_append k [] vs = refl
words_append k (w ∷ us) vs = rw (words_append k us vs, append_assoc)

length_words : (k : ℕ) (ws : List ℕ) → length (word_bytes k ws) ≡ k * length ws
unfolding word_bytes
length_words k [] = omega arith
length_words k (w ∷ ws) = rw (length-append, length_bytes k w, length_words k ws, mul-suc) (omega arith)

words_next : (k : ℕ) (ws : List ℕ) (i : ℕ) → i < length ws
    → word_bytes k (take i ws) ++ bytes k (get_or ws i 0) ≡ word_bytes k (take (i + 1) ws)
unfolding word_bytes
words_next k ws i h = sym (rw (add-one, take-suc ws i 0 h, words_append, append-nil))

pub words_room : (k i count at : ℕ) → at ≡ k * i → i < count → at + k ≤ k * count
words_room k i count at e h = omega (arith, e, mul-suc k i, mul-le-mul_left {m = suc i} {n = count} k h)

pub words_at_is : (k i at : ℕ) → at ≡ k * i → at + k ≡ k * (i + 1)
words_at_is k i at e = rw (add-one, mul-suc, e)

length_taken : (k : ℕ) (ws : List ℕ) (i : ℕ) → i ≤ length ws → length (word_bytes k (take i ws)) ≡ k * i
length_taken k ws i h = length_words k (take i ws) ∙ ap (λ j. k * j) (length-take-le i ws h)

-- one word more of a run of words, written behind the others
pub run_next : (k : ℕ) (ws out₀ : List ℕ) {i at v : ℕ} {out last : List ℕ} → at ≡ k * i → i < length ws
    → v ≡ get_or ws i 0 → out ≡ onto (word_bytes k (take i ws)) out₀
    → last ≡ onto (bytes k v) (take (length out - at) (drop at out))
    → put_mid at (length out - at) out last ≡ onto (word_bytes k (take (i + 1) ws)) out₀
run_next k ws out₀ {i} {at} {v} {out} e l p q h =
    onto_next (word_bytes k (take i ws)) (bytes k v) out₀ out at (length_taken k ws i (omega arith) ∙ sym e) q h
    ∙ rw (p, words_next k ws i l)

-- words are records
words_records : (ws words : List ℕ) → WholeBytes ws → word_bytes (size ws) words ≡ write_records ws
    (map (fields ws) words)
unfolding word_bytes write_records
words_records ws [] whole = refl
words_records ws (w ∷ words) whole = rw (write_fields ws w whole, words_records ws words whole)

entries_records : (es : List Entry)
    → word_bytes 8 (map word_of_short es) ≡ write_records short_list.entry (map as_fields es)
unfolding word_bytes write_records
entries_records [] = refl
entries_records (e ∷ es) = rw (entries_records es)

-- the word of the entry that stands as row i
pub row_word : {es : List Entry} {m : ℕ} {w1 : List ℕ} → RowsOf es m w1 → (i : ℕ) → i < m
    → get_or w1 (at_cells + i) 0 * 1024 * points_room + get_or w1 i 0 / unit * points_room + get_or w1 i 0 % unit
    ≡ get_or (map word_of_short es) i 0
unfolding packed
row_word {es} h i l =
    omega (arith, h.row i l, h.cell i l, h.points i l) ∙ sym (get_or-map word_of_short es i no_entry)

-- the header's number
pub header_number : (kind n m : ℕ) → kind * 268435456 + n * 131072 + m * 16 ≡ packed header (kind ∷ n ∷ m ∷ 0 ∷ [])
unfolding packed
header_number kind n m = omega arith

-- ---- the files that the writers write: a header, what stands behind it, and the entries

-- nothing between the header and the entries
pub plain_file : {l : Layout} {kind k : ℕ} → Plain l kind k → (n : ℕ) (words : List ℕ)
    → bytes 4 (packed header (kind ∷ n ∷ length words ∷ 0 ∷ [])) ++ word_bytes k words
    ≡ write_file l (file_of l n [] words)
unfolding bytes
plain_file {l} p n words = rw (← p.kind_is, ← p.bytes_are, words_records l.entry words p.whole, length-map, p.bare n)

-- the length of a file of words
pub words_length : {l : Layout} {kind k : ℕ} → Plain l kind k → (n r : ℕ) (ws : List ℕ) → r ≤ length ws
    → file_length l n r ≡ length (words_file l n r ws)
words_length {l} p n r ws h =
    let all = take r ws in
    let count : length (map (fields l.entry) all) ≡ r =
    length-map all (fields l.entry) ∙ length-take-le r ws h in
    sym (length_file l (file_of l n [] all) ∙ ap (file_length l n) count)

-- the file of what the words stand for
pub records_file : {A : Type 0} (l : Layout) (n r : ℕ) (ws : List ℕ) (g : A → List ℕ) (xs : List A)
    → take r ws ≡ map (λ (x : A). packed l.entry (g x)) xs → All (λ (x : A). FitsFields l.entry (g x)) xs
    → words_file l n r ws ≡ write_file l (record { cells = n; extra = []; entries = map g xs })
records_file {A} l n r ws g xs e h =
    ap (λ vs. write_file l (file_of l n [] vs)) e
    ∙ ap (λ rs. write_file l (record { cells = n; extra = []; entries = rs })) (again xs h)
  where
    again : (xs : List A) → All (λ (x : A). FitsFields l.entry (g x)) xs
        → map (fields l.entry) (map (λ (x : A). packed l.entry (g x)) xs) ≡ map g xs
    again [] h = refl
    again (x ∷ xs) h = ap₂ (λ v vs. v ∷ vs) (fields_packed l.entry (g x) h.0) (again xs h.1)

-- the layouts of store lists, slips, pairings and origin lists
pub plain_store : Plain store_list 1 5
plain_store = record { kind_is = refl; bytes_are = refl; whole = refl; bare = λ n. refl }

pub plain_slip : Plain slip 3 2
plain_slip = record { kind_is = refl; bytes_are = refl; whole = refl; bare = λ n. refl }

pub plain_pairing : Plain pairing 4 3
plain_pairing = record { kind_is = refl; bytes_are = refl; whole = refl; bare = λ n. refl }

pub plain_origins : Plain origin_list 5 5
plain_origins = record { kind_is = refl; bytes_are = refl; whole = refl; bare = λ n. refl }

pub length_head : (v w : ℕ) → length (bytes 4 v ++ bytes 8 w) ≡ 12
length_head v w = rw (length-append, length_bytes 4 v, length_bytes 8 w)

one_field : (v : ℕ) → v ≡ packed (64 ∷ []) (v ∷ [])
unfolding packed
one_field v = omega arith

-- the carried points between the header and the entries
pub short_file_is : (n carried : ℕ) (es : List Entry) {m : ℕ} → m ≡ length es
    → (bytes 4 (packed header (2 ∷ n ∷ m ∷ 0 ∷ [])) ++ bytes 8 carried) ++ word_bytes 8 (map word_of_short es)
    ≡ write_file short_list (record { cells = n; extra = carried ∷ []; entries = map as_fields es })
short_file_is n carried es e = rw (length-map, e, ← one_field carried, ← entries_records es, append_assoc)
