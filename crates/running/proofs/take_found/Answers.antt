-- `take_found` makes the bounds, takes the step and writes its name; the laws say where the loop stands after it.
use mathlib.Core.Logic.{inr}
use native.Mathlib.Omega.{arith}
use Rattle.std.proofs.lemmas.Bool.Decides.{nat_tests}
use Rattle.slots.proofs.Holding.{holds_room}
use Rattle.running.proofs.Runs.{step_there, step_named, step_carried, after_step}
use Rattle.running.proofs.take_found.Goals as goal

pub take_step-step-requires : goal.take_step-step-requires
take_step-step-requires c = step_there c.requires

pub word-requires : goal.word-requires
word-requires c = rw c.from.ensures (step_named c.requires).1

pub set_word-requires : goal.set_word-requires
set_word-requires c =
    (inr (omega arith), omega (arith, step_named c.requires, holds_room c.take_step-step.new.graph.holds))

pub overflow_add-result : goal.overflow_add-result
overflow_add-result c = omega (arith, step_carried c.requires c.take_step-step.ensures)

pub returns-clause-on : goal.returns-clause-on
returns-clause-on c = λ h.
    after_step h c.take_step-step.ensures c.set_word.ensures (rw c.from.ensures at c.word.ensures)
    c.after.ensures.leaves c.after.ensures.rings
    c.rings_left-bounds.ensures.low c.rings_left-bounds.ensures.rings
    (λ l. grind (arith, nat_tests))
