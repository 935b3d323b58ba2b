-- `mark_paying` goes from the last word on.
use native.Mathlib.Omega.{arith}
use Prim.Native.Nat.{◌-◌}
use Rattle.rows.proofs.Best.{marks_none, marks_more}
use Rattle.rows.proofs.mark_paying.Goals as goal

pub loop-i-init : goal.loop-i-init
loop-i-init c = marks_none _ _ c.requires.1

pub loop-i-preserved : goal.loop-i-preserved
loop-i-preserved c = let l = c.loop-i in
    marks_more c.args.words.now l.marks l.i (l.i - 1) c.from.result l.ways _ (omega arith) (omega arith) (omega arith)
    l.invariant.0 c.before-ways.ensures (cc) l.invariant.1
