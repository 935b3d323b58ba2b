-- `reduce_in` answers what the start refuses, or what `write_both` answers.
use native.Mathlib.Omega.{arith}
use Rattle.buffers.specs.Buffers.{lent}
use Rattle.checks.specs.Refusals.{too_few_words}
use Rattle.reduction.proofs.Reducing.{reduce_left, reduce_passed}
use Rattle.reduction.proofs.calls.reduce_in.Goals as goal

pub write_both-requires : goal.write_both-requires
write_both-requires c =
    let l = reduce_left c.args.list.now c.in_ok-at.ensures.starts.1 in
    (l.0, omega (arith, l.1), l.2)

pub returns : goal.returns
returns c =
    let a = c.args in
    let s = c.in_ok-at.ensures.starts in
    reduce_passed a.list.now s.1 (too_few_words (lent a.w1.now a.w2.now)) s.0 a.slip.now a.short.now
    c.write_both.ensures
