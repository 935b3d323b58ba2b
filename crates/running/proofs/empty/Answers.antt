-- `empty` leaves zeros, which hold the empty graph.
use native.Mathlib.Omega.{arith}
use Rattle.slots.proofs.Graphs.{holds_empty}
use Rattle.slots.proofs.Holding.{holds_room}
use Rattle.running.proofs.empty.Goals as goal

pub invariant_of-graph : goal.invariant_of-graph
invariant_of-graph c = let r = holds_room c.args.graph.now.holds in record {
  holds = (holds_empty _ _ _ (omega (arith, r, c.clear.auto.work)) (omega (arith, r)) c.clear-2.ensures).0;
}
