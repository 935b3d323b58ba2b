-- `leaf_step` goes by the first leaf and its only pair.
use Rattle.std.proofs.Common.{arith}
use Rattle.finding.proofs.Scans.{leaf_none, leaf_some}
use Rattle.finding.proofs.leaf_step.Goals as goal

pub returns-in_err-v : goal.returns-in_err-v
returns-in_err-v c =
    rw c.from_residual.ensures (leaf_none c.args.graph.now.holds c.args.from c.args.to c.in_err-v.ensures)

pub only-only-requires : goal.only-only-requires
only-only-requires c = let f = c.in_ok-v.ensures in (omega (arith, f.1), f.2)

pub returns : goal.returns
returns c = leaf_some c.args.graph.now.holds c.args.from c.args.to c.in_ok-v.ensures c.only-only.ensures
