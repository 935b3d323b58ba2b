-- `check_raw` answers refusal 13: the header's, or else the entries'.
use Rattle.std.proofs.Common.{sym, ◌∙◌, rules}
use Rattle.std.proofs.lemmas.Result.{err_from_is_err_and}
use Rattle.checks.specs.declared.Refusal.TheVariants.{BadRaw}
use Rattle.checks.proofs.Forms.{raw_head, raw_found, replaced_err, replaced_ok}
use Rattle.checks.proofs.check_raw.Goals as goal

pub returns-in_err-entries-clause-refusal : goal.returns-in_err-entries-clause-refusal
returns-in_err-entries-clause-refusal c = let l = c.check_head in
    let p = err_from_is_err_and c.from_residual.result c.from_residual.ensures.1 in
    let h = replaced_err _ l.result _ _ BadRaw c.map_err.ensures.cases c.in_err-entries.was (λ d t q. search rules) in
    rw (p.1, p.2, h.1, sym (raw_head c.args.raw.now l.ensures.refusal h.0))

pub returns-then-has_loose-clause-refusal : goal.returns-then-has_loose-clause-refusal
returns-then-has_loose-clause-refusal c = let l = c.check_head in
    let e = c.in_ok-entries in
    let h = replaced_ok _ _ l.result _ _ c.map_err.ensures.cases e.was l.ensures.list in
    rw (sym (raw_found _ h.1 (h.0 ∙ l.ensures.refusal) e.entries.cells c.has_loose.ensures) ∙ c.if-has_loose.true)

pub returns-clause-refusal : goal.returns-clause-refusal
returns-clause-refusal c = let l = c.check_head in
    let e = c.in_ok-entries in
    let h = replaced_ok _ _ l.result _ _ c.map_err.ensures.cases e.was l.ensures.list in
    rw (sym (raw_found _ h.1 (h.0 ∙ l.ensures.refusal) e.entries.cells c.has_loose.ensures) ∙ c.if-has_loose.false)
