-- `start` by the degree of z, then over its slots. Invariant: those behind `next` are gone, so that none shows a step.
use Rattle.cellfile.specs.Kinds.{as_rule}
use Rattle.slots.specs.Slots.{name_of}
use Rattle.finding.specs.Finding.{Unmet}
use Rattle.finding.proofs.start.Given as goal

abbrev pub invariant-loop-next : goal.invariant-loop-next
invariant-loop-next l = Unmet l.graph.slots l.graph.w1.now (as_rule l.rule) l.z (name_of l.next)

abbrev pub decreases-loop-next : goal.decreases-loop-next
decreases-loop-next l = name_of l.next
