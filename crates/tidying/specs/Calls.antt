-- Tidy: 'the rig writes pairs in the order they were run, either cell first, some run again'; what the call answers and
-- writes of such a raw list.
use Rattle.std.specs.Prelude.{Bool, List, [], ◌∷◌, map, ℕ, min, max}
use Rattle.matching.specs.Listed.{Entry}
use Rattle.cellfile.specs.Files.{cells_of, entries_all, entry_key, list_file}
use Rattle.cellfile.specs.Answers.{Answer}
use Rattle.checks.specs.Refusals.{Row, too_few_words, is_bad_raw}
use Rattle.checks.specs.Calls.{filing}
use Rattle.sorting.specs.Sorted.{sorted}

-- 'Lower cell first.'
abbrev pub low_first : Entry → Entry
low_first e = (min e.0 e.1, max e.0 e.1, e.2)

-- 'Lower cell first, ascending, and of repeated pairs the last points stand.'
unfoldable pub tidied : List Entry → List Entry
tidied es = sorted entry_key (map low_first es)

-- The store list that is written.
abbrev pub tidy_file : List ℕ → List ℕ
tidy_file raw = list_file (cells_of raw) (tidied (entries_all raw))

-- '13, checked after 1 and in place of 2 to 6; 12 still follows': it judges the length that is written. The answer is
-- for the lengths of the work buffers and of the output.
abbrev pub tidy_rows : Bool → List ℕ → List Row
tidy_rows few raw = (1, few) ∷ (13, is_bad_raw raw) ∷ []

abbrev pub tidying : (raw lent : List ℕ) → ℕ → Answer
tidying raw lent room = filing (tidy_rows (too_few_words lent) raw) ((room, tidy_file raw) ∷ [])
