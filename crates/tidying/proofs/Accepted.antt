-- What is written of a raw list that has passed 13 passes refusals 2 to 6 (`tidy_accepted`), and is read as the tidied
-- entries (`tidy_cells`, `tidy_entries`). It is not longer than the raw list (`tidy_longest`). Assumes nothing.
use mathlib.Core.Path.{◌≡◌}
use mathlib.Core.Logic.{◌≢◌}
use mathlib.Core.Bool.{false}
use mathlib.Core.List.{List, [], map}
use Prim.Native.Nat.{ℕ, ◌≤◌, ◌<◌}
use native.Mathlib.Omega.{arith}
use lib.ListN.{length, length-map}
use Rattle.matching.specs.Lists.{All, Ascends}
use Rattle.matching.specs.Listed.{Entry, Accepted}
use Rattle.matching.proofs.Alls.{all_map}
use Rattle.matching.proofs.Entries.{Fit}
use Rattle.cellfile.specs.Files.{store_list, cells_of, count_of, entries_all, entry_key, as_fields}
use Rattle.cellfile.proofs.All.{all_values}
use Rattle.cellfile.proofs.Lists.{shape_is, length_said}
use Rattle.cellfile.proofs.RoundTrip.{length_file}
use Rattle.checks.specs.Refusals.{first, lists, list_rows, is_bad_raw}
use Rattle.checks.proofs.Rows.{bad_raw_none}
use Rattle.checks.proofs.Accepted.{accepted_keys}
use Rattle.checks.proofs.Written.{list_passes, list_cells, list_written}
use Rattle.sorting.specs.Sorted.{Lower}
use Rattle.sorting.proofs.Sorted.{all_onto, ascends_sorted}
use Rattle.tidying.specs.Calls.{low_first, tidied, tidy_file}
use Rattle.tidying.proofs.Words.{FitsEntry, tidied_fit, tidied_length}

module _ (raw : List ℕ) (passed : is_bad_raw raw ≡ false) where
  abbrev n : ℕ
  n = cells_of raw

  abbrev es : List Entry
  es = entries_all raw

  -- ---- the entries, their cells and their order

  pub turned_cells : All (Fit n) (map low_first es)
  turned_cells =
      all_values low_first (Fit n) es
      (all_map (λ (e : Entry) (h : (e.0 ≢ e.1) × (e.0 < n) × (e.1 < n)). (omega arith, omega arith)) es
      (bad_raw_none raw passed).2)

  tidied_cells : All (Fit n) (tidied es)
  unfolding tidied
  tidied_cells = all_onto entry_key (Fit n) (map low_first es) [] turned_cells tt

  tidied_ascends : Ascends (Lower entry_key) (tidied es)
  unfolding tidied
  tidied_ascends = ascends_sorted entry_key (map low_first es)

  cells_few : n ≤ 1024
  cells_few = (bad_raw_none raw passed).0.0

  accepted : Accepted n (tidied es)
  accepted = accepted_keys n (tidied es) cells_few tidied_cells tidied_ascends

  -- ---- the file

  few : length (tidied es) ≤ 4096
  few = omega (arith, tidied_length raw passed, (bad_raw_none raw passed).0.1)

  small : All (λ (e : Entry). e.2 < 1048576) (tidied es)
  small = all_map (λ (e : Entry) (h : FitsEntry e). h.1.1.0) (tidied es) (tidied_fit raw passed)

  pub tidy_accepted : first (list_rows lists (tidy_file raw)) ≡ 0
  tidy_accepted = list_passes n (tidied es) cells_few few accepted small

  pub tidy_cells : cells_of (tidy_file raw) ≡ cells_of raw
  tidy_cells = list_cells n (tidied es) cells_few few accepted small

  pub tidy_entries : entries_all (tidy_file raw) ≡ tidied (entries_all raw)
  tidy_entries = list_written n (tidied es) cells_few few accepted small

  pub tidy_longest : length (tidy_file raw) ≤ length raw
  tidy_longest =
      omega (
        arith,
        length_file store_list (record { cells = n; extra = []; entries = map as_fields (tidied es) }),
        length-map (tidied es) as_fields,
        tidied_length raw passed,
        (bad_raw_none raw passed).1,
        length_said raw (record { start = 4; bytes = 5 }) (count_of raw) (shape_is raw),
      )
