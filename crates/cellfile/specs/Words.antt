-- Records as words. Inner contracts cite these; laws tie them to the definitions that promises cite.
use Rattle.std.specs.Prelude.{ℕ, ◌+◌, ◌*◌, ◌%◌, ◌^◌, ◌<◌, ◌≤◌, ◌≡◌, List, [], ◌∷◌, ◌++◌, map, length, get_or, take}
use Rattle.buffers.specs.Map.{unit, at_cells}
use Rattle.matching.specs.Pairs.{Pair}
use Rattle.matching.specs.Listed.{Entry}
use Rattle.cellfile.specs.Bytes.{bytes}
use Rattle.cellfile.specs.Fields.{size, fields, packed}
use Rattle.cellfile.specs.Fits.{WholeBytes}
use Rattle.cellfile.specs.Files.{Layout, File, file_length, write_file, store_list, pairing, as_fields}
use Rattle.cellfile.specs.Files.{name_fields, pair_fields, origin_fields, short_list, slip, origin_list}
use Rattle.matching.specs.Steps.{Step}
use Rattle.matching.specs.Origin.{Origins}

-- The last k bytes of each word. Law: proofs/Outputs, `words_records`.
unfoldable pub word_bytes : ℕ → List ℕ → List ℕ
word_bytes k [] = []
word_bytes k (w ∷ ws) = bytes k w ++ word_bytes k ws

-- The file whose entries are words, each the number of a record.
abbrev pub file_of : Layout → ℕ → List ℕ → List ℕ → File
file_of l n extra words = record { cells = n; extra = extra; entries = map (fields l.entry) words }

-- The file whose records are the first r words.
abbrev pub words_file : Layout → ℕ → ℕ → List ℕ → List ℕ
words_file l n r ws = write_file l (file_of l n [] (take r ws))

-- A layout of that kind with records of so many whole bytes and nothing between the header and the records; that is all
-- that a writer knows of it.
pub record Plain (l : Layout) (kind bytes : ℕ) : Type 0 where
  pub kind_is : l.kind ≡ kind
  pub bytes_are : size l.entry ≡ bytes
  pub whole : WholeBytes l.entry
  pub bare : (n : ℕ) → l.extra n ≡ []

-- What a writer asks: n and the count of the words fit the header, and the output has room.
pub record Writable (l : Layout) (n : ℕ) (ws out : List ℕ) : Type 0 where
  pub cells : n < 2048
  pub count : length ws < 8192
  pub room : file_length l n (length ws) ≤ length out

-- An entry of a store list and of a short list, a pair of a pairing and of an origin list, and a step of a slip as
-- words.
abbrev pub store_word : Entry → ℕ
store_word e = packed store_list.entry (as_fields e)

abbrev pub word_of_short : Entry → ℕ
word_of_short e = packed short_list.entry (as_fields e)

abbrev pub pair_word : Pair → ℕ
pair_word e = packed pairing.entry (pair_fields e)

abbrev pub word_of_origin : Origins → Pair → ℕ
word_of_origin o e = packed origin_list.entry (origin_fields o e)

abbrev pub name_word : Step → ℕ
name_word s = packed slip.entry (name_fields s)

-- An entry as two words: the row word, its higher cell above its points, and its lower cell.
abbrev pub row_word : Entry → ℕ
row_word e = e.1 * unit + e.2

-- What the points field of a short list has room for is below this: so are the points left and the points carried.
abbrev pub points_room : ℕ
points_room = 2 ^ get_or short_list.entry 2 0

abbrev pub no_entry : Entry
no_entry = (0, 0, 0)

-- The entries stand as the first m row words and lower cells of the first work buffer.
pub record RowsOf (es : List Entry) (m : ℕ) (w1 : List ℕ) : Type 0 where
  pub count : m ≡ length es
  pub row : (i : ℕ) → i < m → get_or w1 i 0 ≡ row_word (get_or es i no_entry)
  pub cell : (i : ℕ) → i < m → get_or w1 (at_cells + i) 0 ≡ (get_or es i no_entry).0
  pub points : (i : ℕ) → i < m → (get_or es i no_entry).2 < unit

-- P of the entries that stand so.
abbrev pub OfRows : ℕ → List ℕ → (List Entry → Type 0) → Type 0
OfRows m w1 P = (es : List Entry) → RowsOf es m w1 → P es

-- What stands as the first m rows and cells fits the fields of a short list.
pub record RowsFit (m : ℕ) (w1 : List ℕ) : Type 0 where
  pub room : 8192 ≤ length w1
  pub most : m ≤ 4096
  pub fits : (i : ℕ) → i < m → (get_or w1 (at_cells + i) 0 < 1024) × (get_or w1 i 0 % unit < points_room)
