-- `last_slot` reads it off.
use Rattle.slots.proofs.Scanning.{last_slot}
use Rattle.slots.proofs.graph.WorkingGraph.last_slot.Goals as goal

pub returns : goal.returns
returns c = last_slot c.args.self.now.holds c.requires c.slot_of.ensures
