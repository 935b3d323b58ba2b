-- `only` reads the partner and the slot off the sum of c, which is the key of its only live slot.
use Rattle.slots.proofs.Others.{only_of}
use Rattle.slots.proofs.graph.WorkingGraph.only.Goals as goal

pub returns : goal.returns
returns c = let o = c.other_in.ensures in
    only_of c.args.self.now.holds c.args.c c.requires.0 c.requires.1 _ o.1 o.0
