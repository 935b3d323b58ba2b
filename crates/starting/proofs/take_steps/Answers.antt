-- `take_steps` clears the second buffer, which then holds the empty graph, loads the list, and hands on what the loop
-- answers.
use Rattle.slots.proofs.Graphs.{holds_empty}
use Rattle.starting.proofs.OnList.{run_asked}
use Rattle.starting.proofs.Starts.{named_few}
use Rattle.starting.proofs.take_steps.Goals as goal

pub invariant_of-graph : goal.invariant_of-graph
invariant_of-graph c =
    record { holds = (holds_empty _ _ _ c.requires.0 c.requires.1 c.clear.ensures).0 }

pub run-requires : goal.run-requires
run-requires c =
    let list = c.args.list.now in
    run_asked _ list.accepted list.entries.cells c.load.ensures.graph (named_few c.args.slip (λ r. r.now.file.now))
    c.requires.2
