-- `check_work` is the condition of refusal 1.
use Rattle.std.proofs.Common.{arith}
use Rattle.std.proofs.lemmas.Bool.Decides.{nat_tests}
use Rattle.checks.specs.Refusals.{too_few_words}
use Rattle.checks.proofs.check_work.Goals as goal

pub returns-then-work_a-lt-WORDS-clause-refusal : goal.returns-then-work_a-lt-WORDS-clause-refusal
unfolding too_few_words
returns-then-work_a-lt-WORDS-clause-refusal c = let e = c.then-work_a-lt-WORDS.either in grind (arith, nat_tests, e)

pub returns-clause-refusal : goal.returns-clause-refusal
unfolding too_few_words
returns-clause-refusal c = grind (arith, nat_tests)
