-- `due_at` of a leaf of u.
use native.Mathlib.Omega.{arith}
use Rattle.leaves.proofs.Slacks.{due_here}
use Rattle.leaves.proofs.due_at.Goals as goal

pub returns : goal.returns
returns c = due_here c.args.graph.now.holds c.only-only.ensures (omega arith)
