-- `pair_tail` answers refusal 11 where some group has too many cells, else what `bring_back` answers.
use Rattle.std.proofs.lemmas.Option.{MatchOption-at_some}
use Rattle.std.proofs.lemmas.Result.{err_from_is_err_and}
use Rattle.checks.proofs.Parts.{refused_none}
use Rattle.lifting.proofs.Tailing.{tail_left, tail_returns, tail_crowded, tail_passed}
use Rattle.lifting.proofs.pairing.pair_tail.Goals as goal

pub solve_left-requires : goal.solve_left-requires
solve_left-requires c = tail_left c.requires

pub returns-in_err-ok_or : goal.returns-in_err-ok_or
returns-in_err-ok_or c =
    let q = err_from_is_err_and c.from_residual.result c.from_residual.ensures.1 in
    let h = refused_none _ c.solve_left.result _ _ c.in_err-ok_or.ensures.value c.solve_left.ensures in
    rw (q.1, q.2, h.1) (λ p. tail_crowded p c.args.out.now c.args.origins.now h.0)

pub bring_back-requires : goal.bring_back-requires
bring_back-requires c =
    let s = MatchOption-at_some _ _ _ c.in_ok-ok_or.ensures.ok_part c.solve_left.ensures in
    tail_returns c.requires s c.solve_left.auto.w1 c.solve_left.auto.w2

pub returns : goal.returns
returns c p =
    let s = MatchOption-at_some _ _ _ c.in_ok-ok_or.ensures.ok_part c.solve_left.ensures in
    tail_passed p s c.solve_left.auto.w1 c.solve_left.auto.w2 c.bring_back.ensures
