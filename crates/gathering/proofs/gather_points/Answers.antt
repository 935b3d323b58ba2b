-- `gather_points` goes over the places.
use native.Mathlib.Omega.{arith}
use Rattle.gathering.proofs.Gathering.{rows_there, rows_more, rows_all}
use Rattle.gathering.proofs.gather_points.Goals as goal

pub loop-i-preserved : goal.loop-i-preserved
loop-i-preserved c =
    let h = c.loop-i.invariant in
    λ w cs p. rows_more p (h w cs p) (omega arith) (c.gather_row.ensures w cs (rows_there p (h w cs p)))

pub returns : goal.returns
returns c = λ w cs p. rows_all (c.loop-i.invariant w cs p) (omega arith)
