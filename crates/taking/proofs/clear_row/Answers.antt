-- `clear_row` takes the row from the graph, pair by pair, and then makes room for three pairs.
use Rattle.taking.proofs.Applied.{row_room, row_gone}
use Rattle.taking.proofs.clear_row.Goals as goal

pub room-requires : goal.room-requires
room-requires c = row_room c.requires c.take_row-pairs.ensures

pub returns : goal.returns
returns c = row_gone c.requires c.take_row-pairs.ensures c.room.ensures.0 c.room.ensures.1
