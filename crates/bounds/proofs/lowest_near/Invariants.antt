-- `lowest_near` goes over the slots of u. Invariant: `least` is not above low, u and its partners in the slots behind
-- `next`.
use Rattle.slots.specs.Slots.{name_of}
use Rattle.bounds.proofs.Quiet.{Lows}
use Rattle.bounds.proofs.lowest_near.Given as goal

abbrev pub invariant-loop : goal.invariant-loop
invariant-loop l = Lows l.graph.slots l.graph.w1.now l.u l.low l.least (name_of l.next)
