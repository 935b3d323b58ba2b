-- The files: 'every file starts with 32 bits: kind (4), cells n (11), count m (13), four zero bits'.
use Rattle.std.specs.Prelude.{ℕ, ◌+◌, ◌*◌, ◌-◌, ◌^◌, List, [], ◌∷◌, ◌++◌, map, length, get_or, drop, cond, eqb}
use Rattle.matching.specs.Pairs.{Pair}
use Rattle.matching.specs.Listed.{Entry}
use Rattle.cellfile.specs.Fields.{size, read_record, write_record, read_records, write_records}
use Rattle.matching.specs.Steps.{Rule, by_leaf, by_ring, by_chain, Step, name}
use Rattle.matching.specs.Origin.{Origin, from_short, from_step, Origins, number_in}

-- The fields of the header, and what each of them is.
abbrev pub header : List ℕ
header = 4 ∷ 11 ∷ 13 ∷ 4 ∷ []

abbrev pub kind_of : List ℕ → ℕ
kind_of s = get_or (read_record header s) 0 0

abbrev pub cells_of : List ℕ → ℕ
cells_of s = get_or (read_record header s) 1 0

abbrev pub count_of : List ℕ → ℕ
count_of s = get_or (read_record header s) 2 0

abbrev pub zeros_of : List ℕ → ℕ
zeros_of s = get_or (read_record header s) 3 0

-- The layout of a kind: its number, the fields between the header and the entries of a file of n cells,
-- and the fields of an entry.
pub record Layout : Type 0 where
  pub kind : ℕ
  pub extra : ℕ → List ℕ
  pub entry : List ℕ

-- Store list: cell a, cell b, points.
abbrev pub store_list : Layout
store_list = record { kind = 1; extra = λ n. []; entry = 10 ∷ 10 ∷ 20 ∷ [] }

-- Short list (kernel): after the header the carried points; cell a, cell b, points.
abbrev pub short_list : Layout
short_list = record { kind = 2; extra = λ n. 64 ∷ []; entry = 10 ∷ 10 ∷ 44 ∷ [] }

-- Slip (reduction trace): rule, cell.
abbrev pub slip : Layout
slip = record { kind = 3; extra = λ n. []; entry = 6 ∷ 10 ∷ [] }

-- Pairing (matching): cell a, cell b, four zero bits.
abbrev pub pairing : Layout
pairing = record { kind = 4; extra = λ n. []; entry = 10 ∷ 10 ∷ 4 ∷ [] }

-- Origin list: cell a, cell b, step, rule, six zero bits.
abbrev pub origin_list : Layout
origin_list = record { kind = 5; extra = λ n. []; entry = 10 ∷ 10 ∷ 11 ∷ 3 ∷ 6 ∷ [] }

-- Raw list: 'the store list's header and entry fields'.
abbrev pub raw_list : Layout
raw_list = record { kind = 6; extra = store_list.extra; entry = store_list.entry }

-- Where the entries of a file of n cells start, and how long the file with m entries is.
abbrev pub start : Layout → ℕ → ℕ
start l n = 4 + size (l.extra n)

abbrev pub file_length : Layout → ℕ → ℕ → ℕ
file_length l n m = start l n + size l.entry * m

-- The largest points that an entry of a list can hold.
abbrev pub largest : Layout → ℕ
largest l = 2 ^ get_or l.entry 2 0 - 1

-- What a file says: its n, the fields after the header, and the fields of each entry.
pub record File : Type 0 where
  pub cells : ℕ
  pub extra : List ℕ
  pub entries : List (List ℕ)

-- Reading and writing a file.
abbrev pub read_entries : Layout → List ℕ → List (List ℕ)
read_entries l s = read_records l.entry (count_of s) (drop (start l (cells_of s)) s)

abbrev pub read_file : Layout → List ℕ → File
read_file l s = record {
  cells = cells_of s;
  extra = read_record (l.extra (cells_of s)) (drop 4 s);
  entries = read_entries l s;
}

abbrev pub write_file : Layout → File → List ℕ
write_file l f =
    write_record header (l.kind ∷ f.cells ∷ length f.entries ∷ 0 ∷ [])
    ++ (write_record (l.extra f.cells) f.extra ++ write_records l.entry f.entries)

-- The entries of a list; the steps of a slip, each its rule and its cell; the pairs of a pairing.
abbrev pub as_entry : List ℕ → Entry
as_entry r = (get_or r 0 0, get_or r 1 0, get_or r 2 0)

abbrev pub as_pair : List ℕ → ℕ × ℕ
as_pair r = (get_or r 0 0, get_or r 1 0)

abbrev pub entries_of : Layout → List ℕ → List Entry
entries_of l s = map as_entry (read_entries l s)

-- The layout of a list, by its kind; one of a kind that no list has is read as a store list. Laws of it: proofs/Lists.
unfoldable pub list_layout : List ℕ → Layout
list_layout s = cond (eqb (kind_of s) raw_list.kind) raw_list store_list

-- All entries of a list; and those in view, which pairings are drawn from.
unfoldable pub entries_all : List ℕ → List Entry
entries_all s = entries_of (list_layout s) s

unfoldable pub in_view : List ℕ → List Entry
in_view s = entries_all s

abbrev pub steps_of : List ℕ → List (ℕ × ℕ)
steps_of s = map as_pair (read_entries slip s)

abbrev pub pairs_of : List ℕ → List Pair
pairs_of s = map as_pair (read_entries pairing s)

-- The carried points of a short list.
abbrev pub carried_of : List ℕ → ℕ
carried_of s = get_or (read_file short_list s).extra 0 0

-- The fields of an entry of a list, and of a pair of a pairing.
abbrev pub as_fields : Entry → List ℕ
as_fields e = e.0 ∷ e.1 ∷ e.2 ∷ []

abbrev pub pair_fields : Pair → List ℕ
pair_fields e = e.0 ∷ e.1 ∷ 0 ∷ []

-- The store list, and the raw list, of n cells with these entries.
abbrev pub list_file : ℕ → List Entry → List ℕ
list_file n es = write_file store_list (record { cells = n; extra = []; entries = map as_fields es })

abbrev pub raw_file : ℕ → List Entry → List ℕ
raw_file n es = write_file raw_list (record { cells = n; extra = []; entries = map as_fields es })

-- (a, b) as one number: both cells have 10 bits.
abbrev pub key : ℕ → ℕ → ℕ
key a b = a * 1024 + b

abbrev pub entry_key : Entry → ℕ
entry_key e = key e.0 e.1

abbrev pub pair_key : Pair → ℕ
pair_key p = key p.0 p.1

-- A step of a slip, 'rule (6; 1 leaf, 2 ring, 3 chain), cell (10)': the rule with a number, a rule's number; a step's
-- name, and the fields by which a step is written.
abbrev pub rule_named : ℕ → Rule
rule_named k = cond (eqb k 1) by_leaf (cond (eqb k 2) by_ring by_chain)

abbrev pub number_of : Rule → ℕ
number_of by_leaf = 1
number_of by_ring = 2
number_of by_chain = 3

abbrev pub as_name : ℕ × ℕ → Rule × ℕ
as_name t = (rule_named t.0, t.1)

abbrev pub name_fields : Step → List ℕ
name_fields s = number_of (name s).0 ∷ (name s).1 ∷ []

-- The fields of a pair of an origin list: its cells, and the number and the rule of its step; 'a pair that stood in the
-- short pairing and was never replaced has step 0 and rule 0'.
abbrev pub rule_in : Origin → ℕ
rule_in from_short = 0
rule_in (from_step number rule) = number_of rule

abbrev pub origin_fields : Origins → Pair → List ℕ
origin_fields o e = e.0 ∷ e.1 ∷ number_in (o e.0 e.1) ∷ rule_in (o e.0 e.1) ∷ 0 ∷ []

-- An output after a file was written to it: its first bytes are the file, the others are unchanged.
unfoldable pub onto : List ℕ → List ℕ → List ℕ
onto file out = file ++ drop (length file) out
