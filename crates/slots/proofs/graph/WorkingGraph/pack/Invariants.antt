-- `pack` appends each live slot anew. Invariant: the live slots below i stand packed, and those from i on are as they
-- were.
use Rattle.slots.proofs.Packing.{Packed}
use Rattle.slots.proofs.graph.WorkingGraph.pack.Given as goal

abbrev pub invariant-loop-i : goal.invariant-loop-i
invariant-loop-i l = Packed l.fn.self l.self l.i
