-- What the contracts of the checks cite. Nobody has to believe these: laws tie them to the refusals' definitions
-- (proofs/Forms, proofs/Parts).
use Rattle.std.specs.Prelude.{ℕ, Bool, not, ◌||◌, List, [], ◌∷◌, map, get_or, drop}
use Rattle.matching.specs.Lists.{any}
use Rattle.matching.specs.Listed.{Entry}
use Rattle.cellfile.specs.Files.{entries_all}
use Rattle.checks.specs.Refusals.{Row, is_no_list, is_too_large, wrong_length, stray_entry, unordered}
use Rattle.checks.specs.Refusals.{ascending_from, bad_pair}

-- The rows of a list's header and length, and those of its entries, which one walk over them decides: together the rows
-- of the list.
abbrev pub head_rows : List ℕ → List ℕ → List Row
head_rows kinds s = (2, is_no_list kinds s) ∷ (3, is_too_large s) ∷ (4, wrong_length s) ∷ []

abbrev pub entry_rows : List ℕ → List Row
entry_rows s = (5, stray_entry s) ∷ (6, unordered s) ∷ []

-- Whether the test of two cells finds an entry from place i on.
abbrev pub some_from : (ℕ → ℕ → Bool) → List ℕ → ℕ → Bool
some_from bad s i = any (λ (e : Entry). bad e.0 e.1) (drop i (entries_all s))

-- What refusal 9 says of a pairing's entries, of which those seen ascend to below `low`.
abbrev pub has_bad_pairs : ℕ → ℕ → List (List ℕ) → Bool
has_bad_pairs n low rs = any (bad_pair n) rs || not (ascending_from low (map (λ (r : List ℕ). get_or r 0 0) rs))
