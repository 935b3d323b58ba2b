-- `solve_group` is a chain of four calls: the cells of the group, the points between them, no sets known, their pairs
-- joined.
use Rattle.matching.specs.Groups.{solve_each}
use Rattle.grouping.specs.Labels.{class, classes}
use Rattle.solving.proofs.Groups.{group_links, group_crowded, group_places, group_join, group_solved}
use Rattle.solving.proofs.solve_group.Goals as goal

pub gather_cells-requires : goal.gather_cells-requires
gather_cells-requires c =
    let p = c.requires in
    (class p.0 p.2 c.args.d, group_links p.3 p.4 p.5)

pub returns-in_err-k : goal.returns-in_err-k
returns-in_err-k c = λ n w l p low first.
    rw c.from_residual.ensures (group_crowded p (c.in_err-k.ensures (class n l _) (group_links p low first)))

pub gather_points-requires : goal.gather_points-requires
gather_points-requires c =
    let p = c.requires in
    let cs = class p.0 p.2 c.args.d in
    (p.1, cs, group_places p.3 (c.in_ok-k.ensures cs (group_links p.3 p.4 p.5)))

pub clear_sets-requires : goal.clear_sets-requires
clear_sets-requires c =
    let p = c.requires in
    let a = c.in_ok-k.ensures (class p.0 p.2 c.args.d) (group_links p.3 p.4 p.5) in
    (p.3.laid.room1, a.told.0)

pub join_group-requires : goal.join_group-requires
join_group-requires c =
    let p = c.requires in
    let cs = class p.0 p.2 c.args.d in
    let a = c.in_ok-k.ensures cs (group_links p.3 p.4 p.5) in
    let q = c.gather_points.ensures p.1 cs (group_places p.3 a) in
    (p.1, cs, solve_each p.1 (classes p.0 p.2 c.args.d), group_join p.3 a q p.4 c.clear_sets.ensures)

pub returns : goal.returns
returns c = λ n w l p low first.
    let cs = class n l c.args.d in
    let m = solve_each w (classes n l c.args.d) in
    let a = c.in_ok-k.ensures cs (group_links p low first) in
    let q = c.gather_points.ensures w cs (group_places p a) in
    let f = c.clear_sets.ensures in
    group_solved p a q low f c.join_group.auto.w1 c.join_group.auto.w2
    (c.join_group.ensures w cs m (group_join p a q low f))
