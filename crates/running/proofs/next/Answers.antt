-- `next` by whether the slip names a step.
use Rattle.running.proofs.Runs.{run_graph, next_scanned, next_first}
use Rattle.running.proofs.next.Goals as goal

pub returns-in-Some : goal.returns-in-Some
returns-in-Some c = next_scanned c.requires.2 c.in-Some.t _ c.in-Some.ensures c.named-in-Some.ensures c.scan.ensures

pub first_step-requires : goal.first_step-requires
first_step-requires c = let h = c.requires.2 in (h.asked.cells, run_graph h, h.quiet, h.rings)

pub returns-in-None : goal.returns-in-None
returns-in-None c = next_first c.requires.2 _ c.in-None.ensures c.first_step.ensures
