-- `shape_of` tells the shape of a list.
use Rattle.cellfile.proofs.Lists.{shape_is}
use Rattle.cellfile.proofs.records.shape_of.Goals as goal

pub returns : goal.returns
returns c = rw (c.start.ensures.is 0, c.record_bytes.ensures.is) (shape_is c.args._list.now)
