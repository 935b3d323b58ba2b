-- `lessen_all` goes over the slots of u from the last one down. Invariant: the slots met so far have lost p where they
-- have u, and `next` is the next slot of u.
use Rattle.slots.specs.Slots.{name_of}
use Rattle.slots.proofs.Lessening.{Lessened}
use Rattle.slots.proofs.graph.WorkingGraph.lessen_all.Given as goal

abbrev pub invariant-loop-next : goal.invariant-loop-next
invariant-loop-next l = Lessened l.u l.p l.initial.self l.self (name_of l.next)

abbrev pub decreases-loop-next : goal.decreases-loop-next
decreases-loop-next l = name_of l.next
