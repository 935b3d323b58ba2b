-- `lift_tail` answers refusal 9, then 10, or what `bring_back` answers.
use Rattle.std.proofs.lemmas.Result.{err_from_is_err_and}
use Rattle.lifting.proofs.Lifting.{nine_refused, nine_passed, ten_there, ten_passed}
use Rattle.lifting.proofs.calls.lift_tail.Goals as goal

pub returns-in_err-pairs : goal.returns-in_err-pairs
returns-in_err-pairs c =
    let a = c.args in
    let p = err_from_is_err_and c.from_residual.result c.from_residual.ensures.1 in
    rw (p.1, p.2) (λ h. nine_refused h a.pairing.now _ c.in_err-pairs.ensures.refusal a.out.now a.origins.now)

pub bring_back-requires : goal.bring_back-requires
bring_back-requires c =
    ten_there c.requires c.args.pairing.now c.in_ok-pairs.ensures.pairing c.in_ok-enter.ensures.0 c.enter.ensures.1
    c.enter.auto.w2

pub returns : goal.returns
returns c h =
    nine_passed h c.args.pairing.now c.in_ok-pairs.ensures.refusal
    (ten_passed h c.args.pairing.now c.in_ok-pairs.ensures.pairing c.in_ok-enter.ensures.0 c.enter.ensures.1
    c.enter.auto.w2 c.bring_back.ensures)
