-- `take_pair` reads the points of the slot, takes its pair from the graph and stores the word on the trail.
use Rattle.trail.proofs.TakenRow.{pair_taken}
use Rattle.trail.proofs.take_pair.Goals as goal

pub returns : goal.returns
returns c = pair_taken c.requires c.kill.ensures.0 c.kill.ensures.1 c.set_word.ensures c.row_word-word.ensures
