-- `find_starts` goes over the cells.
use Rattle.gathering.proofs.Gathering.{starts_more}
use Rattle.gathering.proofs.find_starts.Goals as goal

pub loop-a-preserved : goal.loop-a-preserved
loop-a-preserved c =
    let l = c.loop-a in
    (c.run_end-i.ensures.within.1, λ w h. starts_more h (l.invariant.1 w h) c.loop-a-test.true c.run_end-i.ensures)
