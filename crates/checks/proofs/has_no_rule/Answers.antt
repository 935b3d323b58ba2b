-- `has_no_rule` finds a step whose rule refusal 7 names.
use Rattle.std.proofs.Common.{ℕ, arith, rules}
use Rattle.cellfile.specs.Files.{steps_of}
use Rattle.cellfile.proofs.Walk.{steps_count}
use Rattle.checks.specs.Refusals.{is_no_rule}
use Rattle.checks.proofs.Places.{any_from_places, same_three}
use Rattle.checks.proofs.Parts.{rule_at}
use Rattle.checks.proofs.has_no_rule.Goals as goal

pub returns : goal.returns
returns c = let a = c.args in
    let s = a.steps.now.file.now in
    any_from_places (λ (t : ℕ × ℕ). is_no_rule (a.low, a.high) t.0) (steps_of s) (0, 0) _ _ _ _ c.any.ensures.ran
    (omega (arith, a.steps.now.whole.count, steps_count s)) (λ i b q h. search (rules, rule_at, same_three))
