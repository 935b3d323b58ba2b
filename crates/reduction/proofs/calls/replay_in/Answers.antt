-- `replay_in` answers what the start refuses, or what `write_left` answers.
use Rattle.buffers.specs.Buffers.{lent}
use Rattle.checks.specs.Refusals.{too_few_words}
use Rattle.reduction.proofs.Replaying.{replay_left, replay_passed}
use Rattle.reduction.proofs.calls.replay_in.Goals as goal

pub write_left-requires : goal.write_left-requires
write_left-requires c = replay_left c.args.list.now c.args.slip.now c.in_ok-at.ensures.starts.1

pub returns : goal.returns
returns c =
    let a = c.args in
    let s = c.in_ok-at.ensures.starts in
    replay_passed a.list.now a.slip.now s.1 (too_few_words (lent a.w1.now a.w2.now)) s.0 a.short.now
    c.write_left.ensures
