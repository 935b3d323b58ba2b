-- `take_row` walks to v and takes each pair as it leaves it behind.
use Rattle.trail.proofs.TakenRow.{going_start, going_pair, going_on, going_end}
use Rattle.trail.proofs.take_row.Goals as goal

pub loop-at-init : goal.loop-at-init
loop-at-init c = going_start c.requires

pub take_pair-requires : goal.take_pair-requires
take_pair-requires c = going_pair c.loop-at.invariant c.requires.room

pub loop-at-preserved : goal.loop-at-preserved
loop-at-preserved c =
    going_on c.loop-at.invariant c.loop-at-test.true c.onward-next.ensures c.take_pair.ensures

pub take_pair-requires-2 : goal.take_pair-requires-2
take_pair-requires-2 c = going_pair c.loop-at.invariant c.requires.room

pub returns : goal.returns
returns c = going_end c.requires c.loop-at.invariant c.loop-at-test.false c.take_pair-2.ensures
