-- `check_pairing` answers refusal 9: the header's, or else the pairs'.
use Rattle.std.proofs.Common.{sym, ◌∙◌}
use Rattle.std.proofs.lemmas.Option.{MatchOption-at_some}
use Rattle.std.proofs.lemmas.Result.{err_from_is_err_and}
use Rattle.checks.proofs.Parts.{refused_none, pairing_headed, pairing_found}
use Rattle.checks.proofs.check_pairing.Goals as goal

pub returns-in_err-pairs-clause-refusal : goal.returns-in_err-pairs-clause-refusal
returns-in_err-pairs-clause-refusal c = let a = c.args in
    let p = err_from_is_err_and c.from_residual.result c.from_residual.ensures.1 in
    let h = refused_none _ c.headed.result _ _ c.in_err-pairs.ensures.value c.headed.ensures in
    rw (p.1, p.2, h.1, pairing_headed a.n a.pairing.now h.0)

pub returns-then-has_bad_pair-clause-refusal : goal.returns-then-has_bad_pair-clause-refusal
returns-then-has_bad_pair-clause-refusal c = let a = c.args in
    let h = MatchOption-at_some _ _ _ c.in_ok-pairs.ensures.ok_part c.headed.ensures in
    rw (sym (pairing_found a.n a.pairing.now h.1 h.0 c.has_bad_pair.ensures) ∙ c.if-has_bad_pair.true)

pub returns-clause-refusal : goal.returns-clause-refusal
returns-clause-refusal c = let a = c.args in
    let h = MatchOption-at_some _ _ _ c.in_ok-pairs.ensures.ok_part c.headed.ensures in
    rw (sym (pairing_found a.n a.pairing.now h.1 h.0 c.has_bad_pair.ensures) ∙ c.if-has_bad_pair.false)
