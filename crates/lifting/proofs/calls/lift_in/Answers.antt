-- `lift_in` answers what the start refuses, or what `lift_tail` answers.
use Rattle.buffers.specs.Buffers.{lent}
use Rattle.checks.specs.Refusals.{too_few_words}
use Rattle.lifting.proofs.Lifting.{start_there, lift_passed}
use Rattle.lifting.proofs.calls.lift_in.Goals as goal

pub lift_tail-requires : goal.lift_tail-requires
lift_tail-requires c = start_there c.args.list.now c.args.slip.now c.in_ok-at.ensures.starts.1

pub returns : goal.returns
returns c =
    let a = c.args in
    let s = c.in_ok-at.ensures.starts in
    lift_passed a.list.now a.slip.now s.1 (too_few_words (lent a.w1.now a.w2.now)) s.0 a.pairing.now c.lift_tail.ensures
