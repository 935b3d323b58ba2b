-- `free_pair` takes the pair's slot from the graph where there is one.
use Rattle.putting.proofs.Putting.{freed_none, freed_kill}
use Rattle.putting.proofs.free_pair.Goals as goal

pub returns-in_default : goal.returns-in_default
returns-in_default c = freed_none _ _ _ (rw c.in_default.is at c.find.ensures)

pub returns : goal.returns
returns c = freed_kill _ _ _ c.in-Some.ensures c.kill.ensures.0
