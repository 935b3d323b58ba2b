-- `solve_groups` goes over the cells.
use native.Mathlib.Omega.{arith}
use Rattle.solving.proofs.Groups.{names_own, names_other, solving_first, solving_group}
use Rattle.solving.proofs.Groups.{solving_skip, solving_room, solving_end}
use Rattle.solving.proofs.solve_groups.Goals as goal
use Rattle.solving.proofs.solve_groups.Goals.{then-eq+in_ok-points, else-eq}

pub solve_group-requires : goal.solve_group-requires
solve_group-requires c =
    let p = c.requires in
    let h = c.loop-d.invariant p.0 p.1 p.2 in
    let t = c.loop-d-test.true in (
      c.args.n,
      p.0,
      p.1,
      h.there,
      t,
      solving_first h t (names_own _ _ c.first.ensures c.if-eq.ensures),
    )

pub returns-in_err-points : goal.returns-in_err-points
returns-in_err-points c =
    let t = c.loop-d-test.true in
    λ w l p.
    let h = c.loop-d.invariant w l p in
    let o = solving_first h t (names_own _ _ c.first.ensures c.if-eq.ensures) in
    rw c.from_residual.ensures (c.in_err-points.ensures _ w l h.there t o)

pub overflow_add-points : goal.overflow_add-points
overflow_add-points c =
    let p = c.requires in
    let h = c.loop-d.invariant p.0 p.1 p.2 in
    let t = c.loop-d-test.true in
    let o = solving_first h t (names_own _ _ c.first.ensures c.if-eq.ensures) in
    omega (arith, solving_room (solving_group h t (c.in_ok-points.ensures _ p.0 p.1 h.there t o)))

pub loop-d-preserved : goal.loop-d-preserved
loop-d-preserved c =
    let t = c.loop-d-test.true in
    elim c.if-eq.branch [
      | then-eq+in_ok-points w ↦ rw (w.w1-is, w.w2-is, w.points-is) (λ v l p.
          let h = c.loop-d.invariant v l p in
          let o = solving_first h t (names_own _ _ c.first.ensures w.if-eq.ensures) in
          solving_group h t (w.in_ok-points.ensures _ v l h.there t o))
      | else-eq w ↦ rw (w.w1-is, w.w2-is, w.points-is) (λ v l p.
          solving_skip (c.loop-d.invariant v l p) t (names_other _ _ c.first.ensures w.if-eq.ensures))
    ]

pub returns : goal.returns
returns c = λ w l p. solving_end (c.loop-d.invariant w l p) c.loop-d-test.false
