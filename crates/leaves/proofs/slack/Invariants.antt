-- `slack` goes over the slots of u. Invariant: `least` is not above the points of the slots behind `next` that join u
-- with a cell that is no leaf, and `most` not above those of some pair at u.
use Rattle.slots.specs.Slots.{name_of}
use Rattle.leaves.proofs.Slacks.{Slacks}
use Rattle.leaves.proofs.slack.Given as goal

abbrev pub invariant-loop-next : goal.invariant-loop-next
invariant-loop-next l = Slacks l.graph.slots l.graph.w1.now l.u l.least l.most (name_of l.next)

abbrev pub decreases-loop-next : goal.decreases-loop-next
decreases-loop-next l = name_of l.next
