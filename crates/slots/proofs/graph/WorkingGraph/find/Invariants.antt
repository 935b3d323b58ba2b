-- `find` goes over the slots of u from the last one down. Invariant: the slots met so far give the pair u, v nothing,
-- and `next` is the next slot of u.
use Rattle.slots.specs.Slots.{name_of}
use Rattle.slots.proofs.Finding.{Sought}
use Rattle.slots.proofs.graph.WorkingGraph.find.Given as goal

abbrev pub invariant-loop-next : goal.invariant-loop-next
invariant-loop-next l = Sought l.self.slots l.u l.v l.self.w1.now (name_of l.next)

abbrev pub decreases-loop-next : goal.decreases-loop-next
decreases-loop-next l = name_of l.next
