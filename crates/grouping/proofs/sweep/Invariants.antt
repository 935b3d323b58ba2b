-- `sweep` goes over the rows: the pairs from row i on, swept over the labels as they are now, lead to the labels of the
-- whole sweep, and a split pair was met, or will be, just where the whole sweep meets one.
use Rattle.grouping.proofs.Sweeping.{Sweeping}
use Rattle.grouping.proofs.sweep.Given as goal

abbrev pub invariant-loop-i : goal.invariant-loop-i
invariant-loop-i l = Sweeping l.r l.i l.w1 l.initial.w2 l.w2 l.met
