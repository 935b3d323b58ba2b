-- `take_leaves` goes over the cells from c on.
use native.Mathlib.Omega.{arith}
use Rattle.leaves.proofs.Passing.{running_start, running_gone, running_take, running_end}
use Rattle.leaves.proofs.take_leaves.Goals as goal
use Rattle.leaves.proofs.take_leaves.Goals.{then-carried-points, else-carried-points}

pub loop-v-init : goal.loop-v-init
loop-v-init c = running_start c.requires c.slack-slack.ensures

pub loop-v-preserved : goal.loop-v-preserved
loop-v-preserved c = let h = c.requires in
    let s = c.loop-v.invariant in
    let d = c.in-Points.ensures in
    elim c.if-carried-points.branch [
      | then-carried-points w ↦ rw (w.graph-is, w.steps-is, w.carried-is)
          (running_take h s d c.if-slack-points.false w.if-carried-points.true c.if-room-steps.false w.note.ensures)
      | else-carried-points w ↦ rw (w.graph-is, w.steps-is, w.carried-is)
          (running_gone h s d w.if-carried-points.false)
    ]

pub returns-in-Elsewhere : goal.returns-in-Elsewhere
returns-in-Elsewhere c = running_end c.requires c.loop-v.invariant (omega arith)

pub returns-then-slack-points : goal.returns-then-slack-points
returns-then-slack-points c = running_end c.requires c.loop-v.invariant (omega arith)

pub returns : goal.returns
returns c = running_end c.requires c.loop-v.invariant (omega arith)
