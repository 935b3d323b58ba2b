-- `leaf` takes the points of its pair, kills the pair, and lessens every pair at the partner.
use Rattle.slots.proofs.Leaving.{leaf_holds}
use Rattle.slots.proofs.graph.WorkingGraph.leaf.Goals as goal

pub returns : goal.returns
returns c = leaf_holds c.requires.0 c.requires.2 c.kill.ensures.0 c.lessen_all.ensures
