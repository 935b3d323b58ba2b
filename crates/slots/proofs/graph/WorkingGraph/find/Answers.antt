-- `find` goes over the slots of u from the last one down.
use mathlib.Core.Path.{ap}
use Rattle.slots.specs.Slots.{name_of}
use Rattle.slots.proofs.Finding.{seek_end}
use Rattle.slots.proofs.graph.WorkingGraph.find.Goals as goal

pub returns : goal.returns
returns c = seek_end c.loop-next.invariant (ap name_of c.in_default.is)
