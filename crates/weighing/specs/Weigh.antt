-- Weighing a pairing of the list.
use Rattle.std.specs.Prelude.{ℕ, List, [], ◌∷◌, ◌++◌}
use Rattle.matching.specs.Listed.{joined, points}
use Rattle.cellfile.specs.Files.{cells_of, entries_all, pairs_of}
use Rattle.checks.specs.Refusals.{Row, first, too_few_words}
use Rattle.checks.specs.Calls.{call_rows, form_row, hold_row}
use Rattle.cellfile.specs.Answers.{Answer, answer}

-- Refusal 10. The pairing is for all entries of the list, those of zero points too.
abbrev pub pair_row : List ℕ → List ℕ → Row
pair_row list pairing = hold_row (joined (entries_all list)) pairing

-- The pairing's points, as the one value of the answer.
abbrev pub weight : List ℕ → List ℕ → List ℕ
weight list pairing = points (entries_all list) (pairs_of pairing) ∷ []

-- What weighing answers for the list, the pairing and the lengths of the work buffers lent.
abbrev pub weighing : List ℕ → List ℕ → List ℕ → Answer
weighing list pairing lent =
    answer (first (call_rows (too_few_words lent) list
    ++ form_row (cells_of list) pairing ∷ pair_row list pairing ∷ []))
    (weight list pairing)
