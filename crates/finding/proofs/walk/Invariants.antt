-- `walk` goes on while it may. Invariant: the rest of the walk from here ends the whole walk.
use Prim.Native.Nat.{◌-◌}
use Rattle.finding.proofs.Walks.{Walking}
use Rattle.finding.proofs.walk.Given as goal

abbrev pub invariant-loop : goal.invariant-loop
invariant-loop l = Walking l.graph.slots l.graph.w1.now l.low l.fn.from l.at (1024 - l.counter)
