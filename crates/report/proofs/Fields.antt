-- The fields that the program prints, from what reduce and pair wrote of an accepted list. In order: the numbers of
-- steps, of carried points and of entries of the short list; the pairs of the pairing, in order and each an entry of
-- the list (`pairs_there`). Assumes nothing.
use mathlib.Core.Path.{◌≡◌, ap, subst, ◌∙◌}
use mathlib.Core.List.{List, [], ◌∷◌, ◌++◌, map}
use Prim.Native.Nat.{ℕ, ◌+◌, ◌*◌, ◌-◌, ◌/◌, ◌%◌, ◌^◌, ◌≤◌, ◌<◌}
use native.Mathlib.Omega.{arith}
use lib.ListN.{length, drop, length-map}
use lib.Seq.{drop-append_seam}
use Rattle.matching.specs.Pairs.{Pair, Each}
use Rattle.matching.specs.Listed.{Entry, joined, short_list, filed}
use Rattle.matching.specs.Steps.{Step, name}
use Rattle.matching.specs.Slip.{carried, lift}
use Rattle.matching.specs.Solve.{solution}
use Rattle.matching.specs.Origin.{origins}
use Rattle.matching.proofs.Demand.{short_fewer}
use Rattle.cellfile.specs.Bytes.{number}
use Rattle.cellfile.specs.Fields.{packed, write_record, write_records}
use Rattle.cellfile.specs.Files.{pairing as pairing_layout, slip as slip_layout, short_list as short_layout, in_view}
use Rattle.cellfile.specs.Files.{header, cells_of, pairs_of, name_fields, as_fields, pair_fields}
use Rattle.cellfile.proofs.Bytes.{number_bytes}
use Rattle.cellfile.proofs.Fields.{length_write_record}
use Rattle.cellfile.proofs.Lists.{view_all}
use Rattle.cellfile.proofs.RoundTrip.{length_file}
use Rattle.checks.specs.Refusals.{first, lists, list_rows}
use Rattle.checks.proofs.Accepted.{accepted_list}
use Rattle.starting.specs.Steps.{graph_in, reduce_steps}
use Rattle.starting.proofs.OnList.{list_few, left_small, steps_few}
use Rattle.reduction.specs.Calls.{slip_file, short_file}
use Rattle.reduction.proofs.Reducing.{reduce_allowed}
use Rattle.lifting.specs.Calls.{graph_after, pairing_file, pairing_origins}
use Rattle.lifting.proofs.Filing.{file_half, file_pairing, file_formed, file_longest, origins_longest, all_entries}
use Rattle.lifting.proofs.Filing.{pairing_pairing, pairing_read}
use Rattle.report.specs.Writing.{LinesThere}

module _ (list : List ℕ) (h : first (list_rows lists list) ≡ 0) where
  abbrev n : ℕ
  n = cells_of list

  abbrev ss : List Step
  ss = reduce_steps list

  abbrev short : List Entry
  short = short_list n (graph_after list ss)

  few : n ≤ 1024
  few = (accepted_list list h).0

  -- ---- the slip and the short list

  slip_length : length (slip_file list ss) ≡ 4 + 2 * length ss
  slip_length =
      omega (
        arith,
        length_file slip_layout (record { cells = n; extra = []; entries = map name_fields ss }),
        length-map ss name_fields,
      )

  short_length : length (short_file list ss) ≡ 12 + 8 * length short
  short_length =
      omega (
        arith,
        length_file short_layout (record {
          cells = n;
          extra = carried (graph_in list) ss
              ∷ [];
          entries = map as_fields short;
        }),
        length-map short as_fields,
      )

  pub slip_most : length (slip_file list ss) ≤ 2052
  slip_most = omega (arith, slip_length, steps_few list h (map name ss) ss (reduce_allowed list h))

  pub short_most : length (short_file list ss) ≤ 32780
  short_most =
      omega (
        arith,
        short_length,
        short_fewer n (in_view list) (accepted_list list h).1 (map name ss) ss (reduce_allowed list h),
        list_few list h,
      )

  pub files_least : (4 ≤ length (slip_file list ss)) × (12 ≤ length (short_file list ss))
  files_least = (omega (arith, slip_length), omega (arith, short_length))

  pub steps_printed : {k : ℕ} → k ≡ length (slip_file list ss) → (k - 4) / 2 ≡ length ss
  steps_printed e = omega (arith, e, slip_length)

  pub entries_printed : (length (short_file list ss) - 12) / 8 ≡ length short
  entries_printed = omega (arith, short_length)

  pub carried_printed : number 8 (drop 4 (short_file list ss)) ≡ carried (graph_in list) ss
  unfolding packed
  carried_printed =
      ap (number 8) drop_header ∙ (number_bytes 8 (packed (64 ∷ []) (c ∷ []))
      (write_records short_layout.entry (map as_fields short))
      ∙ same)
    where
      c : ℕ
      c = carried (graph_in list) ss

      head : List ℕ
      head = write_record header (2 ∷ n ∷ length (map as_fields short) ∷ 0 ∷ [])

      tail : List ℕ
      tail = write_record (64 ∷ []) (c ∷ []) ++ write_records short_layout.entry (map as_fields short)

      drop_header : drop 4 (short_file list ss) ≡ tail
      drop_header =
          subst (λ (i : ℕ). drop i (head ++ tail) ≡ tail)
          (length_write_record header (2 ∷ n ∷ length (map as_fields short) ∷ 0 ∷ [])) (drop-append_seam head tail)

      same : packed (64 ∷ []) (c ∷ []) % 256 ^ 8 ≡ c
      same = omega (arith, left_small list h (map name ss) ss (reduce_allowed list h) 0 0)

  -- ---- the pairing

  abbrev ps : List Pair
  ps = pairs_of (pairing_file list)

  -- the pairing of what is left, brought back
  abbrev brought : List Pair
  brought = lift (graph_in list) ss (solution n (graph_after list ss))

  pub pairs_few : length ps ≤ 512
  pairs_few =
      omega (
        arith,
        ap length (pairing_read list h),
        file_half few (all_entries list h) brought (pairing_pairing list h),
      )

  pub pairs_length : length (pairing_file list) ≡ 4 + 3 * length ps
  pairs_length =
      omega (
        arith,
        length_file pairing_layout (record { cells = n; extra = []; entries = map pair_fields (filed brought) }),
        length-map (filed brought) pair_fields,
        ap length (pairing_read list h),
      )

  pub pairing_most : length (pairing_file list) ≤ 1540
  pairing_most = file_longest few (all_entries list h) brought (pairing_pairing list h)

  pub origins_most : length (pairing_origins list) ≤ 2564
  origins_most =
      origins_longest few (all_entries list h) brought (pairing_pairing list h)
      (origins (graph_in list) ss (solution n (graph_after list ss)))

  -- the list and the pairing, as the loop over the pairs finds them
  pub pairs_there : LinesThere list (pairing_file list)
  pairs_there = record {
    accepted = h;
    formed = file_formed few (all_entries list h) brought (pairing_pairing list h);
    held = subst (λ xs. Each (λ a b. 0 < joined xs a b) ps) (view_all list)
        (file_pairing few (all_entries list h) brought (pairing_pairing list h)).held;
  }
