-- `level` sweeps at most 12 times: so many sweeps are done, the labels are as they leave them, and each sweep met a
-- split pair, so that some group has more cells than that where there was a sweep.
use Rattle.grouping.proofs.Sweeping.{Levelling}
use Rattle.grouping.proofs.level.Given as goal

abbrev pub invariant-loop : goal.invariant-loop
invariant-loop l = Levelling l.r l.counter l.w1 l.initial.w2 l.w2
