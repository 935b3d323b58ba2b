-- `ruled_out` walks both ways in turns. Invariant: both ways stand on the row of z, a cell seen is a lower one, and the
-- partners of the cells passed are passed, or a way stands at them.
use Rattle.cellfile.specs.Kinds.{as_rule}
use Rattle.finding.proofs.Lower.{Turns}
use Rattle.finding.proofs.ruled_out.Given as goal

abbrev pub invariant-loop : goal.invariant-loop
invariant-loop l = Turns l.graph.slots l.graph.w1.now (as_rule l.rule) l.z l.way l.other l.seen
