-- `slack` goes over the slots of u.
use native.Mathlib.Omega.{arith}
use Rattle.leaves.proofs.Slacks.{slacks_on, slacks_end}
use Rattle.leaves.proofs.slack.Goals as goal
use Rattle.leaves.proofs.slack.Goals.{in-Some-kept, in_default-kept}

pub loop-next-preserved : goal.loop-next-preserved
loop-next-preserved c = let h = c.args.graph.now.holds in
    let s = rw c.in-Some.is at c.loop-next.invariant in
    elim c.match-kept.branch [
      | in-Some-kept w ↦ slacks_on h s (omega arith) (λ f j d. omega (arith, w.in-Some-kept.ensures f j d))
          c.slot_before-next.ensures c.max-most.ensures
      | in_default-kept w ↦ slacks_on h s (omega arith)
          (λ f j d. omega (arith, w.in_default-kept.ensures c.match-kept.least f j d)) c.slot_before-next.ensures
          c.max-most.ensures
    ]

pub returns : goal.returns
returns c =
    slacks_end c.args.graph.now.holds (rw c.in_default.is at c.loop-next.invariant) c.min.ensures
