-- Reading and writing undo each other, for a file of any layout. In plain words:
-- a file whose values fit their fields, written and read again, is the same file (`read_write`);
-- bytes that have the layout's kind, no header zero bit set and the length that their header says, read and written
-- again, are the same bytes (`write_read`).
use Prim.Native.Nat.{ℕ, ◌*◌, ◌<◌}
use mathlib.Core.Path.{◌≡◌, refl, sym, ◌∙◌}
use mathlib.Core.List.{List, [], ◌∷◌, ◌++◌, append-nil}
use native.Mathlib.Omega.{arith}
use lib.ListN.{length, take, drop, length-append, length-drop, take-append-drop}
use lib.Seq.{drop_at, drop-drop, take_all}
use Rattle.cellfile.specs.Fields.{size, fields, read_record, write_record, read_records, write_records}
use Rattle.cellfile.specs.Files.{Layout, start, file_length, header, kind_of, cells_of, count_of, zeros_of, File}
use Rattle.cellfile.specs.Files.{read_file, write_file, read_entries}
use Rattle.cellfile.specs.Fits.{AreBytes, WholeBytes, FitsFile}
use Rattle.cellfile.proofs.All.{all_drop}
use Rattle.cellfile.proofs.Fields.{length_write_record, read_write_record, write_read_record}
use Rattle.cellfile.proofs.Fields.{length_read_records, length_write_records, read_write_records}
use Rattle.cellfile.proofs.Fields.{write_read_records}

-- ---- a file, written and read again

-- what is read of bytes whose header and rest are known
read_parts : (l : Layout) (s rest : List ℕ) (kind n m : ℕ) → read_record header s ≡ kind ∷ n ∷ m ∷ 0 ∷ []
    → drop 4 s ≡ rest → read_file l s ≡ record {
      cells = n;
      extra = read_record (l.extra n) rest;
      entries = read_records l.entry m (drop (size (l.extra n)) rest);
    }
read_parts l s rest kind n m h d = rw (h, ← drop-drop (size (l.extra n)) 4 s, d)

pub read_write : (l : Layout) (f : File) → FitsFile l f → read_file l (write_file l f) ≡ f
read_write l f fits =
    read_parts l (write_file l f) rest l.kind f.cells (length f.entries) header_again rest_again
    ∙ rw (extra_again, entries_again)
  where
    head : List ℕ
    head = l.kind ∷ f.cells ∷ length f.entries ∷ 0 ∷ []

    widths : List ℕ
    widths = l.extra f.cells

    entries : List ℕ
    entries = write_records l.entry f.entries

    rest : List ℕ
    rest = write_record widths f.extra ++ entries

    header_again : read_record header (write_file l f) ≡ head
    header_again =
        read_write_record header head rest refl (fits.kind, (fits.cells, (fits.count, (omega arith, tt))))

    rest_again : drop 4 (write_file l f) ≡ rest
    rest_again = drop_at (write_record header head) rest 4 (length_write_record header head)

    extra_again : read_record widths rest ≡ f.extra
    extra_again = read_write_record widths f.extra entries fits.whole_extra fits.extra

    entries_again : read_records l.entry (length f.entries) (drop (size widths) rest) ≡ f.entries
    entries_again =
        rw (drop_at (write_record widths f.extra) entries (size widths) (length_write_record widths f.extra))
        (rw append-nil at (read_write_records l.entry f.entries [] fits.whole_entry fits.entries))

-- a file is as long as its layout says
pub length_file : (l : Layout) (f : File) → length (write_file l f) ≡ file_length l f.cells (length f.entries)
length_file l f =
    rw (length-append, length-append, length_write_records l.entry f.entries)
    (rw (
      length_write_record header (l.kind ∷ f.cells ∷ length f.entries ∷ 0 ∷ []),
      length_write_record (l.extra f.cells) f.extra,
    ) (omega arith))

-- ---- bytes, read and written again

header_same : (s : List ℕ) (kind : ℕ) → kind_of s ≡ kind → zeros_of s ≡ 0
    → kind ∷ cells_of s ∷ count_of s ∷ 0 ∷ [] ≡ read_record header s
unfolding fields
header_same s kind k z = rw (← k, ← z)

pub write_read : (l : Layout) (s : List ℕ) → WholeBytes (l.extra (cells_of s)) → WholeBytes l.entry → AreBytes s
    → kind_of s ≡ l.kind → zeros_of s ≡ 0 → length s ≡ file_length l (cells_of s) (count_of s)
    → write_file l (read_file l s) ≡ s
write_read l s whole_extra whole_entry a k z h =
    rw (header_again, extra_again, entries_again, take-append-drop (size widths) (drop 4 s), take-append-drop 4 s)
  where
    widths : List ℕ
    widths = l.extra (cells_of s)

    at_entries : ℕ
    at_entries = start l (cells_of s)

    bytes_from : (i : ℕ) → AreBytes (drop i s)
    bytes_from i = all_drop (λ (b : ℕ). b < 256) i s a

    header_again : write_record header (l.kind ∷ cells_of s ∷ length (read_entries l s) ∷ 0 ∷ []) ≡ take 4 s
    header_again =
        rw (length_read_records l.entry (count_of s) (drop at_entries s), header_same s l.kind k z)
        (write_read_record header s refl a (omega arith))

    extra_again : write_record widths (read_record widths (drop 4 s)) ≡ take (size widths) (drop 4 s)
    extra_again =
        write_read_record widths (drop 4 s) whole_extra (bytes_from 4) (rw (length-drop 4 s) (omega arith))

    length_entries : length (drop at_entries s) ≡ size l.entry * count_of s
    length_entries = rw (length-drop at_entries s) (omega arith)

    entries_again : write_records l.entry (read_entries l s) ≡ drop (size widths) (drop 4 s)
    entries_again =
        write_read_records l.entry (count_of s) (drop at_entries s) whole_entry (bytes_from at_entries)
        (omega (arith, length_entries))
        ∙ take_all (size l.entry * count_of s) (drop at_entries s) (omega (arith, length_entries))
        ∙ sym (drop-drop (size widths) 4 s)

-- ---- the layouts, and what is not refused
