-- `join_group` takes the places out of the set, the lowest first.
use mathlib.Core.Path.{ap, ◌∙◌}
use native.Mathlib.Omega.{arith}
use borrow.Author.Rules.{rules}
use Rattle.sets.specs.Sets.{points}
use Rattle.solving.proofs.Joining.{set_words, join_ready, joining_ready, joining_start, joining_alone}
use Rattle.solving.proofs.Joining.{joining_within, joining_cells, joining_pair, joining_end}
use Rattle.solving.proofs.join_group.Goals as goal

pub points_of-points-requires : goal.points_of-points-requires
points_of-points-requires c = join_ready c.requires.3 c.first_places-all.ensures

pub loop-left-init : goal.loop-left-init
loop-left-init c = λ w cs m v1 p q. joining_start p c.first_places-all.ensures q

pub slice_bounds-take_lowest-end : goal.slice_bounds-take_lowest-end
slice_bounds-take_lowest-end c =
    let h = c.loop-left.invariant _ _ _ _ c.requires.3 c.points_of-points.ensures.1 in
    omega (arith, h.long, c.requires.3.room2)

pub take_lowest-taken-requires : goal.take_lowest-taken-requires
take_lowest-taken-requires c =
    let h = c.loop-left.invariant _ _ _ _ c.requires.3 c.points_of-points.ensures.1 in
    (joining_ready _ h, omega (arith, c.loop-left-test.true))

pub bounds-w2-taken : goal.bounds-w2-taken
bounds-w2-taken c =
    let h = c.loop-left.invariant _ _ _ _ c.requires.3 c.points_of-points.ensures.1 in
    omega (arith, c.take_lowest-taken.ensures.0.low, h.long, c.requires.3.room2)

pub bounds-w2-partner : goal.bounds-w2-partner
bounds-w2-partner c =
    let h = c.loop-left.invariant _ _ _ _ c.requires.3 c.points_of-points.ensures.1 in
    let e = c.take_lowest-taken.ensures in
    omega (arith, joining_within _ h e.0 e.1 c.in-Some.is, h.long, c.requires.3.room2)

pub join-requires : goal.join-requires
join-requires c =
    let h = c.loop-left.invariant _ _ _ _ c.requires.3 c.points_of-points.ensures.1 in
    let e = c.take_lowest-taken.ensures in
    let cells = joining_cells _ h e.0 e.1 c.in-Some.is in
    (cells.0, cells.1, omega arith)

pub invariant_of-join : goal.invariant_of-join
invariant_of-join c =
    let h = c.loop-left.invariant _ _ _ _ c.requires.3 c.points_of-points.ensures.1 in
    record { room = omega (arith, h.long, c.requires.3.room2) }

pub loop-left-preserved : goal.loop-left-preserved
loop-left-preserved c =
    let e = c.take_lowest-taken.ensures in
    λ w cs m v1 p q. joining_pair p (c.loop-left.invariant w cs m v1 p q) e.0 e.1 c.in-Some.is (search rules)

pub loop-left-preserved-in_default : goal.loop-left-preserved-in_default
loop-left-preserved-in_default c =
    let e = c.take_lowest-taken.ensures in
    λ w cs m v1 p q. joining_alone p (c.loop-left.invariant w cs m v1 p q) e.0 e.1 c.in_default.is

pub shape_of-w2 : goal.shape_of-w2
shape_of-w2 c =
    let h = c.loop-left.invariant _ _ _ _ c.requires.3 c.points_of-points.ensures.1 in
    h.long

pub returns : goal.returns
returns c =
    let e = c.points_of-points.ensures in
    λ w cs m p. joining_end p (c.loop-left.invariant w cs m _ p e.1) c.loop-left-test.false
    (e.0 ∙ ap (points (set_words c.args.w2.now)) c.first_places-all.ensures)
