-- `slot_before` is the link of the slot.
use Rattle.slots.proofs.Scanning.{slot_before}
use Rattle.slots.proofs.graph.WorkingGraph.slot_before.Goals as goal

pub returns : goal.returns
returns c = slot_before c.args.self.now.holds c.requires.0 c.requires.1 c.link.ensures
