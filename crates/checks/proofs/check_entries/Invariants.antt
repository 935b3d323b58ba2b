-- `check_entries` answers the first of refusals 5 and 6. Invariant: some entry is stray just where one from place i on
-- is; the number of row 6 is 6 where those from place i on do not ascend from low, else that of what was found.
use Rattle.std.proofs.Common.{◌≡◌, ◌≤◌, [], ◌∷◌}
use mathlib.Core.Bool.{cond}
use Rattle.checks.specs.Refusals.{first, stray_entry, unordered}
use Rattle.checks.proofs.Forms.{strays_from, order_row}
use Rattle.checks.proofs.check_entries.Given as goal

abbrev pub invariant-loop-i : goal.invariant-loop-i
invariant-loop-i l = let s = l.entries.file.now in record {
  low_fits : l.low ≤ 1048576;
  strays : stray_entry s ≡ strays_from s l.i;
  order : first ((6, unordered s) ∷ []) ≡ order_row s (cond l.ordered 0 6) l.low l.i;
}
