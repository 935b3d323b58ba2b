-- `degree` reads the high bits of the sum of c, where each live slot of c has a one.
use Rattle.slots.proofs.Degrees.{degree_of}
use Rattle.slots.proofs.graph.WorkingGraph.degree.Goals as goal

pub returns : goal.returns
returns c = degree_of c.args.self.now.holds c.args.c c.requires
