-- What the decoders promise: the fields of the record at the start of the bytes, each with its bound; and the record at
-- a place of a file. Inner contracts cite these; the loops over a file go by the laws of proofs/Walk.
use Rattle.std.specs.Prelude.{ℕ, ◌+◌, ◌*◌, ◌-◌, ◌<◌, ◌≤◌, ◌≡◌, List, [], ◌∷◌, length, get_or}
use Rattle.cellfile.specs.Fields.{size, read_record}
use Rattle.cellfile.specs.Files.{Layout, slip, pairing, start, file_length, kind_of, cells_of, count_of, zeros_of}
use Rattle.cellfile.specs.Files.{read_entries, entries_all}
use Rattle.cellfile.specs.Words.{no_entry}
use Rattle.cellfile.specs.declared.decode.Header.{Header}
use Rattle.cellfile.specs.declared.decode.Entry.{Entry}
use Rattle.cellfile.specs.declared.decode.SlipStep.{SlipStep}
use Rattle.cellfile.specs.declared.decode.PairEntry.{PairEntry}

pub record HeaderRead (s : List ℕ) (h : Header) : Type 0 where
  pub kind : h.kind ≡ kind_of s
  pub n : h.n ≡ cells_of s
  pub m : h.m ≡ count_of s
  pub zeros : h.zeros ≡ zeros_of s
  pub m_fits : h.m < 8192

-- ---- the record at the start of the bytes

-- The fields of a list's entry of so many bytes: cell a, cell b, and points in the bits that are left.
abbrev pub entry_fields : ℕ → List ℕ
entry_fields bytes = 10 ∷ 10 ∷ (8 * bytes - 20) ∷ []

pub record EntryAt (bytes : ℕ) (s : List ℕ) (e : Entry) : Type 0 where
  pub is : (e.a ∷ e.b ∷ e.points ∷ []) ≡ read_record (entry_fields bytes) s
  pub a_fits : e.a < 1024
  pub b_fits : e.b < 1024

-- A record by its fields: those read from the bytes, each within its bound.
abbrev pub step_fields : SlipStep → List ℕ
step_fields t = t.rule ∷ t.cell ∷ []

pub record StepFits (t : SlipStep) : Type 0 where
  pub rule : t.rule < 64
  pub cell : t.cell < 1024

abbrev pub pair_entry_fields : PairEntry → List ℕ
pair_entry_fields p = p.a ∷ p.b ∷ p.zeros ∷ []

pub record PairFits (p : PairEntry) : Type 0 where
  pub a : p.a < 1024
  pub b : p.b < 1024

pub record RecordAt {A : Type 0} (l : Layout) (says : A → List ℕ) (Fits : A → Type 0) (s : List ℕ) (r : A)
    : Type 0 where
  pub is : says r ≡ read_record l.entry s
  pub fits : Fits r

-- ---- the record at a place of a file

-- A file of m records with all the bytes that its header says.
pub record WholeFile (l : Layout) (s : List ℕ) (m : ℕ) : Type 0 where
  pub count : m ≡ count_of s
  pub long : file_length l (cells_of s) (count_of s) ≤ length s

-- The place in bytes of record i.
abbrev pub place_of : Layout → List ℕ → ℕ → ℕ
place_of l s i = start l (cells_of s) + size l.entry * i

-- More than the points of any entry can be.
abbrev pub points_top : ℕ
points_top = 1048576

pub record EntryRead (s : List ℕ) (i : ℕ) (e : Entry) : Type 0 where
  pub is : (e.a, e.b, e.points) ≡ get_or (entries_all s) i no_entry
  pub a_fits : e.a < 1024
  pub b_fits : e.b < 1024
  pub points_fit : e.points < points_top

-- The record at place i of a file, as the decoders say it; of a slip a step, of a pairing a pair.
pub record RecordRead {A : Type 0} (l : Layout) (says : A → List ℕ) (Fits : A → Type 0) (s : List ℕ) (i : ℕ) (r : A)
    : Type 0 where
  pub is : says r ≡ get_or (read_entries l s) i []
  pub fits : Fits r

abbrev pub StepRead : List ℕ → ℕ → SlipStep → Type 0
StepRead = RecordRead slip step_fields StepFits

abbrev pub PairRead : List ℕ → ℕ → PairEntry → Type 0
PairRead = RecordRead pairing pair_entry_fields PairFits
