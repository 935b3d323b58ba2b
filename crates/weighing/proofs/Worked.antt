-- The worked list that concerns weighing: 0-1:0 with the pairing 0-1 has no points, and is accepted.
use mathlib.Core.Path.{◌≡◌, refl}
use mathlib.Core.List.{[], ◌∷◌}
use Rattle.matching.specs.Pairing.{is_pairing}
use Rattle.matching.specs.Listed.{joined, listed}
use Rattle.cellfile.specs.Bytes.{number}
use Rattle.cellfile.specs.Fields.{fields, read_records}
use Rattle.cellfile.specs.Files.{list_layout, entries_all}
use Rattle.checks.specs.Refusals.{too_few_words, is_no_list, is_too_large, wrong_length, stray_entry, unordered}
use Rattle.checks.specs.Refusals.{misheaded, bad_pairing}
use Rattle.weighing.specs.Weigh.{weighing}
use Rattle.cellfile.proofs.Worked.{list, pairing}

pub no_points : weighing list pairing (8192 ∷ 8192 ∷ []) ≡ (0, 0 ∷ [])
unfolding number fields read_records list_layout entries_all too_few_words is_no_list is_too_large wrong_length
    stray_entry unordered misheaded bad_pairing is_pairing joined listed
no_points = refl
