-- `lessen_all` goes over the slots of u from the last one down.
use mathlib.Core.Path.{ap}
use Rattle.slots.specs.Slots.{name_of}
use Rattle.slots.proofs.Lessening.{less_end}
use Rattle.slots.proofs.graph.WorkingGraph.lessen_all.Goals as goal

pub returns : goal.returns
returns c = less_end c.loop-next.invariant (ap name_of c.in_default.is)
