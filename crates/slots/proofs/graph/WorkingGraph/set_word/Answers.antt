-- `set_word` leaves the words of the graph as they are.
use Rattle.slots.proofs.Holding.{holds_aside}
use Rattle.slots.proofs.graph.WorkingGraph.set_word.Goals as goal

pub invariant_of-self : goal.invariant_of-self
invariant_of-self c = record { holds = holds_aside c.args.self.now.holds _ _ c.requires.0 }
