-- `solve_tail` answers 11 where `solve_left` finds a group of too many cells, or what `write_pairs` answers.
use mathlib.Core.Path.{sym, ◌∙◌}
use Prim.Native.Nat.{◌≤◌}
use native.Mathlib.Omega.{arith}
use lib.ListN.{length}
use lib.Seq.{length-take-le}
use Rattle.std.proofs.lemmas.Option.{MatchOption-at_some}
use Rattle.std.proofs.lemmas.Result.{err_from_is_err_and}
use Rattle.checks.proofs.Parts.{refused_none}
use Rattle.lifting.proofs.Solves.{tail_crowded, tail_table, tail_room, tail_written}
use Rattle.lifting.proofs.calls.solve_tail.Goals as goal
use Rattle.lifting.proofs.calls.solve_tail.Goals.{After-list_pairs-r}

listed : (c : After-list_pairs-r) → c.list_pairs-r.result ≤ length c.list_pairs-r.new.w1
listed c =
    let kept = c.solve_left.auto in
    let s = MatchOption-at_some _ _ _ c.in_ok-ok_or.ensures.ok_part c.solve_left.ensures in
    tail_room c.requires s (c.list_pairs-r.ensures _ _ (tail_table c.requires s kept.w1))
    (c.list_pairs-r.auto.w1 ∙ kept.w1)

pub returns-in_err-ok_or : goal.returns-in_err-ok_or
returns-in_err-ok_or c =
    let q = err_from_is_err_and c.from_residual.result c.from_residual.ensures.1 in
    let h = refused_none _ c.solve_left.result _ _ c.in_err-ok_or.ensures.value c.solve_left.ensures in
    rw (q.1, q.2, h.1) (tail_crowded c.requires c.args.out.now h.0)

pub list_pairs-r-requires : goal.list_pairs-r-requires
list_pairs-r-requires c =
    let s = MatchOption-at_some _ _ _ c.in_ok-ok_or.ensures.ok_part c.solve_left.ensures in
    (_, _, tail_table c.requires s c.solve_left.auto.w1)

pub slice_bounds-write_pairs-end : goal.slice_bounds-write_pairs-end
slice_bounds-write_pairs-end c = omega (arith, listed (goal.at.slice_bounds-write_pairs-end c).After-list_pairs-r)

pub slice_bounds-write_pairs-end-2 : goal.slice_bounds-write_pairs-end-2
slice_bounds-write_pairs-end-2 c =
    let l = listed (goal.at.slice_bounds-write_pairs-end-2 c).After-list_pairs-r in
    sym (length-take-le c.list_pairs-r.result c.list_pairs-r.new.w1 l)

pub write_pairs-requires : goal.write_pairs-requires
write_pairs-requires c =
    let kept = c.solve_left.auto in
    let s = MatchOption-at_some _ _ _ c.in_ok-ok_or.ensures.ok_part c.solve_left.ensures in
    let t = c.list_pairs-r.ensures _ _ (tail_table c.requires s kept.w1) in
    let l =
    length-take-le c.list_pairs-r.result c.list_pairs-r.new.w1
    (listed (goal.at.write_pairs-requires c).After-list_pairs-r) in
    (c.requires.cells, omega (arith, l, t.most))

pub returns : goal.returns
returns c =
    let kept = c.solve_left.auto in
    let s = MatchOption-at_some _ _ _ c.in_ok-ok_or.ensures.ok_part c.solve_left.ensures in
    tail_written c.requires s (c.list_pairs-r.ensures _ _ (tail_table c.requires s kept.w1))
    c.args.out.now c.write_pairs.ensures
