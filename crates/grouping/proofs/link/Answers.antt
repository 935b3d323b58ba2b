-- `link` goes down over the cells: those from c on are linked.
use native.Mathlib.Omega.{arith}
use Rattle.grouping.proofs.Links.{linking_there, linking_more, linking_last}
use Rattle.grouping.proofs.link.Goals as goal

pub link_cell-requires : goal.link_cell-requires
link_cell-requires c =
    let p = c.requires in
    ((_, p.0, linking_there c.loop-c.invariant c.loop-c-test.true p.1), omega (arith, p.1.cells))

pub loop-c-preserved : goal.loop-c-preserved
loop-c-preserved c = linking_more c.loop-c.invariant c.loop-c-test.true c.requires.1 c.link_cell.ensures

pub returns : goal.returns
returns c = linking_last c.loop-c.invariant c.loop-c-test.false
