-- `gather_row` goes over the places behind i, and over the run of the rows of the cell at place i.
use native.Mathlib.Omega.{arith}
use mathlib.Core.Path.{sym, ◌∙◌}
use Rattle.gathering.proofs.Gathering.{row_few, row_none, row_in, row_out, row_all}
use Rattle.gathering.proofs.gather_row.Goals as goal
use Rattle.gathering.proofs.gather_row.Goals.{in-Some, in-None}

pub loop-j-init : goal.loop-j-init
loop-j-init c = λ w cs p. row_none p c.args.i c.requires.1

pub points_at-requires : goal.points_at-requires
points_at-requires c = omega (arith, row_few c.requires.0.2 c.args.i c.requires.1, c.requires.0.2.room1)

pub loop-j-preserved : goal.loop-j-preserved
loop-j-preserved c =
    let l = c.loop-j in
    let t = c.loop-j-test.true in
    let e = sym c.points_at.ensures in
    elim c.match-points_at.branch [
      | in-Some w ↦ rw (w.w2-is, w.e-is)
          (λ v cs p. row_in p c.args.i c.requires.1 (l.invariant v cs p) (omega arith) t (e ∙ w.in-Some.is))
      | in-None w ↦ rw (w.w2-is, w.e-is)
          (λ v cs p. row_out p c.args.i c.requires.1 (l.invariant v cs p) (omega arith) t (e ∙ w.in-None.is))
    ]

pub returns : goal.returns
returns c = λ w cs p. row_all (c.loop-j.invariant w cs p) c.loop-j-test.false
