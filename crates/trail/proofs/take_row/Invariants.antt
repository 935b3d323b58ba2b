-- `take_row` walks to v and takes each pair as it leaves it behind. Invariant: the rest of the row is a run from where
-- the walk stands, k pairs of the row are gone, and their words stand on the trail (`Going`).
use Prim.Native.Nat.{◌-◌}
use Rattle.buffers.specs.Map.{trail_room}
use Rattle.trail.proofs.TakenRow.{Going}
use Rattle.trail.proofs.take_row.Given as goal

abbrev pub invariant-loop-at : goal.invariant-loop-at
invariant-loop-at l = Going l.fn.graph l.t l.fn.from l.v l.graph l.at l.k

abbrev pub decreases-loop-at : goal.decreases-loop-at
decreases-loop-at l = trail_room - l.k
