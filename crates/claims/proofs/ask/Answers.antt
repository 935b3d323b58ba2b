-- `ask` answers what replay, lift and weigh answer one after the other, and demand 3 holds of it.
use mathlib.Core.Path.{sym, ap, ◌∙◌}
use native.Mathlib.Omega.{arith}
use lib.Seq.{length-take-le}
use Rattle.std.proofs.lemmas.Result.{err_from_is_err_and}
use mathlib.Core.List.{[], ◌∷◌}
use Rattle.std.specs.Prelude.{Err}
use Rattle.checks.specs.Calls.{answered}
use Rattle.claims.specs.Asking.{four}
use Rattle.claims.proofs.Telling.{Given, given, ReplayDid, LiftDid, lift_room, weighs_next, keeps_all}
use Rattle.claims.proofs.ask.Goals as goal
use Rattle.claims.proofs.ask.Goals.{In_ok-j}

-- what `ask` is given, and what replay and lift did with it
abbrev start : In_ok-j → Given
start c =
    let a = c.args in
    given a.list.now a.slip.now a.pairing.now a.work_a.now a.work_b.now a.short.now a.lifted.now a.origins.now

replayed : (c : In_ok-j) → ReplayDid (start c) (0, c.in_ok-i.i ∷ []) c.replay.new.short c.replay.new.work_a
    c.replay.new.work_b
replayed c = let e = c.in_ok-i.ensures in (e.answer, (e.output, e.cleared))

lifted : (c : In_ok-j)
    → LiftDid (start c) c.replay.new.work_a c.replay.new.work_b (0, c.in_ok-j.j ∷ c.in_ok-j.o ∷ [])
    c.lift.new.lifted c.lift.new.origins c.lift.new.work_a c.lift.new.work_b
lifted c = let e = c.in_ok-j.ensures in (e.answer, (e.outputs, e.cleared))

pub slice_bounds-weigh-end : goal.slice_bounds-weigh-end
slice_bounds-weigh-end c =
    let at = (goal.at.slice_bounds-weigh-end c).In_ok-j in
    omega (arith, lift_room (start at) (replayed at) (lifted at), c.lift.auto.lifted)

pub slice_bounds-weigh-end-2 : goal.slice_bounds-weigh-end-2
slice_bounds-weigh-end-2 c =
    let at = (goal.at.slice_bounds-weigh-end-2 c).In_ok-j in
    sym (length-take-le _ _ (omega (arith, lift_room (start at) (replayed at) (lifted at), c.lift.auto.lifted)))

pub returns-in_err-points-clause-answer : goal.returns-in_err-points-clause-answer
returns-in_err-points-clause-answer c =
    let at = (goal.at.returns-in_err-points-clause-answer c).In_ok-j in
    let r = c.from_residual-in_err-points in
    let p = err_from_is_err_and r.result r.ensures.1 in
    let e = c.in_err-points.ensures in
    ap (answered four) (p.1 ∙ ap Err p.2) ∙ weighs_next (start at) (replayed at) (lifted at) (e.answer, e.cleared)

pub returns-clause-answer : goal.returns-clause-answer
returns-clause-answer c =
    let at = (goal.at.returns-clause-answer c).In_ok-j in
    let e = c.in_ok-points.ensures in
    weighs_next (start at) (replayed at) (lifted at) (e.answer, e.cleared)

pub returns-clause-demand : goal.returns-clause-demand
returns-clause-demand c =
    let at = (goal.at.returns-clause-demand c).In_ok-j in
    let e = c.in_ok-points.ensures in
    keeps_all (start at) (replayed at) (lifted at) (e.answer, e.cleared)
