-- `sweep` goes over the rows: the pairs from row i on, swept over the labels as they are now, lead to the labels of the
-- whole sweep, and a split pair was met, or will be, just where the whole sweep meets one.
use native.Mathlib.Omega.{arith}
use Rattle.grouping.proofs.Sweeping.{sweep_split, sweep_on}
use Rattle.grouping.proofs.sweep.Goals as goal
use Rattle.grouping.proofs.sweep.Goals.{then-x-y, else-x-y}

pub loop-i-preserved : goal.loop-i-preserved
loop-i-preserved c =
    let l = c.loop-i in
    let p = c.requires in
    let t = c.loop-i-test.true in
    let q = p.cells l.i t in
    elim c.if-x-y.branch [
      | then-x-y w ↦ rw (w.w2-is, w.met-is)
          (sweep_split l.invariant t (omega (arith, p.room2, l.invariant.front.long)) q.0 q.1 w.if-x-y.true
          w.min-low.ensures)
      | else-x-y w ↦ rw (w.w2-is, w.met-is) (sweep_on l.invariant t w.if-x-y.false)
    ]
