-- `mark_paying` goes from the last word on. Invariant: `ways` are the points of the path of the words from place i on,
-- and the marks from there on say which of its pairs pay.
use mathlib.Core.Path.{◌≡◌}
use mathlib.Core.List.{map}
use lib.ListN.{drop}
use Rattle.rows.specs.Row.{row_points, paying}
use Rattle.rows.proofs.Points.{WaysOf}
use Rattle.rows.proofs.mark_paying.Given as goal

abbrev pub invariant-loop-i : goal.invariant-loop-i
invariant-loop-i l =
    WaysOf (drop l.i l.words) l.ways × (drop l.i l.marks ≡ paying (map row_points (drop l.i l.words)))
