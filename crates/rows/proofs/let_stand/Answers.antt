-- `let_stand` goes from the first mark on.
use native.Mathlib.Omega.{arith}
use Rattle.rows.proofs.Best.{stand_more, stand_all}
use Rattle.rows.proofs.let_stand.Goals as goal

pub loop-mark-preserved : goal.loop-mark-preserved
loop-mark-preserved c = let l = c.loop-mark in
    stand_more _ l.marks l.mark-index l.before _ (omega arith) c.stand-before.ensures l.invariant

pub returns : goal.returns
returns c = let l = c.loop-mark in
    stand_all _ l.marks l.mark-index l.before (omega arith) l.invariant
