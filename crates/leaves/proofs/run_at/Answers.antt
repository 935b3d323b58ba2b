-- `run_at` takes the run, and then what is owed from the pairs at u.
use mathlib.Core.Path.{◌∙◌}
use Rattle.leaves.proofs.Passing.{run_quiet, run_taken, quiet_zero}
use Rattle.leaves.proofs.run_at.Goals as goal

pub returns-then-degree-eq1 : goal.returns-then-degree-eq1
returns-then-degree-eq1 c = run_taken c.requires c.take_leaves-run.ensures c.lessen_all.ensures (quiet_zero _)

pub returns : goal.returns
returns c = let r = c.take_leaves-run.ensures in
    let d = c.lessen_all.ensures in
    run_taken c.requires r d (run_quiet c.requires r d (λ q. c.if-degree-eq1.false (c.degree.ensures ∙ q)))
