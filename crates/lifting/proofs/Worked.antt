-- The worked list that concerns lifting: a pair of no points is not in the graph, so with the empty slip lift refuses
-- it by 10; the list and the pairing are those of which weighing answers 0.
use Prim.Native.Nat.{ℕ}
use mathlib.Core.Path.{◌≡◌, refl}
use mathlib.Core.List.{List, [], ◌∷◌}
use Rattle.matching.specs.Pairing.{is_pairing}
use Rattle.matching.specs.Listed.{joined, listed}
use Rattle.cellfile.specs.Bytes.{number}
use Rattle.cellfile.specs.Fields.{fields, read_records}
use Rattle.cellfile.specs.Files.{list_layout, entries_all, in_view}
use Rattle.checks.specs.Refusals.{too_few_words, is_no_list, is_too_large, wrong_length, stray_entry, unordered}
use Rattle.checks.specs.Refusals.{misheaded, bad_slip}
use Rattle.checks.specs.Refusals.{bad_pairing}
use Rattle.lifting.specs.Calls.{lifting}
use Rattle.cellfile.proofs.Worked.{list, pairing}

-- kind 3, two cells, no step
abbrev empty_slip : List ℕ
empty_slip = 0x30 ∷ 0x04 ∷ 0x00 ∷ 0x00 ∷ []

pub no_points_refused : lifting list empty_slip pairing (8192 ∷ 8192 ∷ []) 7 9 ≡ (10, [])
unfolding number fields read_records list_layout entries_all in_view too_few_words is_no_list is_too_large
    wrong_length stray_entry
    unordered misheaded bad_slip
    bad_pairing is_pairing joined listed
no_points_refused = refl
