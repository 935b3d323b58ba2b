-- `undo_leaf` by whether u has a partner.
use Rattle.undoing.proofs.Undoing.{leaf_below, leaf_free, leaf_paired}
use Rattle.undoing.proofs.undo_leaf.Goals as goal

pub is_free-requires : goal.is_free-requires
is_free-requires c = (leaf_below c.requires c.args.table.now.room).0

pub join-requires : goal.join-requires
join-requires c = leaf_below c.requires c.args.table.now.room

pub returns-then-is_free-clause-back : goal.returns-then-is_free-clause-back
returns-then-is_free-clause-back c b =
    leaf_free b c.args.table.now.room c.is_free.ensures c.if-is_free.true c.join.ensures.joined

pub returns-else-is_free-clause-back : goal.returns-else-is_free-clause-back
returns-else-is_free-clause-back c b = leaf_paired b c.args.table.now.room c.is_free.ensures c.if-is_free.false
