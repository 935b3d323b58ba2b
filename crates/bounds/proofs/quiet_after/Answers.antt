-- `quiet_after` by the cases of the enum.
use native.Mathlib.Omega.{arith}
use Rattle.bounds.proofs.Quiet.{quieted_leaf, quieted_ring, quieted_chain}
use Rattle.bounds.proofs.quiet_after.Goals as goal

pub returns-in-Leaf : goal.returns-in-Leaf
returns-in-Leaf c = quieted_leaf c.in-Leaf.is (omega arith, omega arith) c.lowest_near.ensures

pub returns-in-Ring : goal.returns-in-Ring
returns-in-Ring c = quieted_ring c.in-Ring.is (omega arith) (omega arith) (omega arith)

pub returns-in-Chain : goal.returns-in-Chain
returns-in-Chain c = quieted_chain c.in-Chain.is (omega arith) (omega arith) (omega arith)
