-- `lift_back` undoes the last step until none is left.
use mathlib.Core.Path.{◌≡◌, refl, ◌∙◌}
use native.Mathlib.Omega.{arith}
use Rattle.undoing.proofs.Backing.{onward_there, onward_next, onward_end}
use Rattle.undoing.proofs.lift_back.Goals as goal

pub loop-number-init : goal.loop-number-init
loop-number-init c = (refl, λ b. (b, refl, refl))

pub undo_step-left-requires : goal.undo_step-left-requires
undo_step-left-requires c = let b = c.requires in onward_there b (c.loop-number.invariant.1 b) c.loop-number-test.true

pub loop-number-preserved : goal.loop-number-preserved
loop-number-preserved c = (
  c.undo_step-left.ensures.same ∙ c.loop-number.invariant.0,
  λ b. onward_next b (c.loop-number.invariant.1 b) c.loop-number-test.true c.undo_step-left.auto.w1
      c.undo_step-left.ensures.back,
)

pub returns-clause-back : goal.returns-clause-back
returns-clause-back c b =
    let z : c.loop-number.number ≡ 0 = omega arith in
    onward_end b (c.loop-number.invariant.1 b) z
