-- `let_stand` goes from the first mark on. Invariant: the marks before the index are as they will be, `before` is the
-- last of them.
use mathlib.Core.Path.{◌≡◌}
use mathlib.Core.List.{◌++◌}
use lib.ListN.{take, drop}
use Rattle.rows.specs.Row.{standing}
use Rattle.rows.proofs.let_stand.Given as goal

abbrev pub invariant-loop-mark : goal.invariant-loop-mark
invariant-loop-mark l =
    standing 0 l.initial.marks ≡ take l.mark-index l.marks ++ standing l.before (drop l.mark-index l.marks)
