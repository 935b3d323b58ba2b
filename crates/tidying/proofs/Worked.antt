-- Worked raw lists, computed from the definitions. 3-1:5, 0-1:7, 1-3:9 of four cells gives the store list 0-1:7, 1-3:9,
-- and 12 judges its 14 bytes, not the raw list's 19; an entry with one cell twice is 13, but a short buffer is 1.
use Prim.Native.Nat.{ℕ}
use mathlib.Core.Path.{◌≡◌, refl}
use mathlib.Core.List.{List, [], ◌∷◌}
use Rattle.cellfile.specs.Bytes.{number, bytes}
use Rattle.cellfile.specs.Fields.{fields, packed, read_records, write_records}
use Rattle.cellfile.specs.Files.{list_layout, entries_all}
use Rattle.checks.specs.Refusals.{too_few_words, is_no_list, is_too_large, wrong_length, is_bad_raw, short_output}
use Rattle.sorting.specs.Sorted.{sorted_in, sorted_onto}
use Rattle.tidying.specs.Calls.{tidied, tidy_file, tidying}

abbrev runs : List ℕ
runs =
    0x60 ∷ 0x08 ∷ 0x00 ∷ 0x30
    ∷ 0x00 ∷ 0xC0 ∷ 0x10 ∷ 0x00 ∷ 0x05
    ∷ 0x00 ∷ 0x00 ∷ 0x10 ∷ 0x00 ∷ 0x07
    ∷ 0x00 ∷ 0x40 ∷ 0x30 ∷ 0x00 ∷ 0x09 ∷ []

abbrev store : List ℕ
store =
    0x10 ∷ 0x08 ∷ 0x00 ∷ 0x20
    ∷ 0x00 ∷ 0x00 ∷ 0x10 ∷ 0x00 ∷ 0x07
    ∷ 0x00 ∷ 0x40 ∷ 0x30 ∷ 0x00 ∷ 0x09 ∷ []

-- 1-1:5
abbrev twice : List ℕ
twice = 0x60 ∷ 0x08 ∷ 0x00 ∷ 0x10 ∷ 0x00 ∷ 0x40 ∷ 0x10 ∷ 0x00 ∷ 0x05 ∷ []

-- The answer for two work buffers of so many words, and the room of the output.
abbrev answers : List ℕ → ℕ → ℕ → ℕ × List ℕ
answers raw words room = tidying raw (8192 ∷ words ∷ []) room

pub runs_tidied : tidy_file runs ≡ store
unfolding number bytes fields packed read_records write_records list_layout entries_all sorted_in sorted_onto tidied
runs_tidied = refl

pub runs_answers : (answers runs 8192 14 ≡ (0, 14 ∷ [])) × (answers runs 8192 13 ≡ (12, []))
    × (answers twice 8192 0 ≡ (13, [])) × (answers twice 8191 0 ≡ (1, []))
unfolding number bytes fields packed read_records write_records list_layout entries_all sorted_in sorted_onto tidied
    too_few_words is_no_list is_too_large wrong_length is_bad_raw short_output
runs_answers = (refl, refl, refl, refl)
