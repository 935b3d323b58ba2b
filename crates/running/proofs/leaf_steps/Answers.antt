-- `leaf_steps` takes a run; the laws say where the loop stands after it.
use native.Mathlib.Omega.{arith}
use Rattle.std.proofs.lemmas.Bool.Decides.{nat_tests}
use Rattle.running.proofs.Runs.{run_graph}
use Rattle.running.proofs.LeafRuns.{leaves_most, leaves_carry, after_leaves}
use Rattle.running.proofs.leaf_steps.Goals as goal

pub spare-requires : goal.spare-requires
spare-requires c = let h = c.requires.3 in
    let r = leaves_most h in
    (r.0, r.1, omega (arith, h.top, c.requires.2), omega (arith, h.asked.count, c.requires.2), h.asked.few)

pub leaf_run-run-requires : goal.leaf_run-run-requires
leaf_run-run-requires c = let h = c.requires.3 in (h.asked.cells, run_graph h, h.quiet)

pub overflow_add-result-2 : goal.overflow_add-result-2
overflow_add-result-2 c =
    omega (arith, leaves_carry c.requires.3 c.requires.2 c.spare.ensures c.leaf_run-run.ensures.taken)

pub returns-clause-on : goal.returns-clause-on
returns-clause-on c = λ w rs many h.
    after_leaves h many c.spare.ensures c.leaf_run-run.ensures.taken c.rings_left.ensures.low c.rings_left.ensures.rings
    (λ l. grind (arith, nat_tests))
