-- `solve_in` answers what the start refuses, or what `solve_tail` answers.
use Rattle.buffers.specs.Buffers.{lent}
use Rattle.checks.specs.Refusals.{too_few_words}
use Rattle.lifting.proofs.Solves.{solve_left, solve_passed}
use Rattle.lifting.proofs.calls.solve_in.Goals as goal

pub solve_tail-requires : goal.solve_tail-requires
solve_tail-requires c = solve_left c.args.list.now c.args.slip.now c.in_ok-at.ensures.starts.1

pub returns : goal.returns
returns c =
    let a = c.args in
    let s = c.in_ok-at.ensures.starts in
    solve_passed a.list.now a.slip.now s.1 (too_few_words (lent a.w1.now a.w2.now)) s.0 a.pairing.now
    c.solve_tail.ensures
