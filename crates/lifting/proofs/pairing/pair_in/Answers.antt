-- `pair_in` answers what the start refuses, or what `pair_tail` answers.
use Rattle.buffers.specs.Buffers.{lent}
use Rattle.checks.specs.Refusals.{too_few_words}
use Rattle.lifting.proofs.Tailing.{reduce_tail, pair_passed}
use Rattle.lifting.proofs.pairing.pair_in.Goals as goal

pub pair_tail-requires : goal.pair_tail-requires
pair_tail-requires c = reduce_tail c.args.list.now c.in_ok-at.ensures.starts.1

pub returns : goal.returns
returns c =
    let a = c.args in
    let s = c.in_ok-at.ensures.starts in
    pair_passed a.list.now s.1 (too_few_words (lent a.w1.now a.w2.now)) s.0 c.pair_tail.ensures
