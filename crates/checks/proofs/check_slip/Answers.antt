-- `check_slip` answers refusal 7: the header's, or else the rules'.
use Rattle.std.proofs.Common.{sym, ◌∙◌}
use Rattle.std.proofs.lemmas.Option.{MatchOption-at_some}
use Rattle.std.proofs.lemmas.Result.{err_from_is_err_and}
use Rattle.checks.proofs.Parts.{refused_none, slip_headed, slip_found}
use Rattle.checks.proofs.check_slip.Goals as goal

pub returns-in_err-steps-clause-refusal : goal.returns-in_err-steps-clause-refusal
returns-in_err-steps-clause-refusal c = let a = c.args in
    let p = err_from_is_err_and c.from_residual.result c.from_residual.ensures.1 in
    let h = refused_none _ c.headed.result _ _ c.in_err-steps.ensures.value c.headed.ensures in
    rw (p.1, p.2, h.1, slip_headed a.n a.slip.now (a.low, a.high) h.0)

pub returns-then-has_no_rule-clause-refusal : goal.returns-then-has_no_rule-clause-refusal
returns-then-has_no_rule-clause-refusal c = let a = c.args in
    let h = MatchOption-at_some _ _ _ c.in_ok-steps.ensures.ok_part c.headed.ensures in
    rw (sym (slip_found a.n a.slip.now (a.low, a.high) h.1 h.0 c.has_no_rule.ensures) ∙ c.if-has_no_rule.true)

pub returns-clause-refusal : goal.returns-clause-refusal
returns-clause-refusal c = let a = c.args in
    let h = MatchOption-at_some _ _ _ c.in_ok-steps.ensures.ok_part c.headed.ensures in
    rw (sym (slip_found a.n a.slip.now (a.low, a.high) h.1 h.0 c.has_no_rule.ensures) ∙ c.if-has_no_rule.false)
