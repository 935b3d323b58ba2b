-- `undo_step` reads the closing word and undoes the step that it names.
use Rattle.undoing.proofs.Closing.{last_some, last_fits, leaf_there, ring_there, chain_there}
use Rattle.undoing.proofs.Closing.{none_there, leaf_undone, ring_undone, chain_undone}
use native.Mathlib.Omega.{arith}
use Rattle.undoing.proofs.undo_step.Goals as goal

pub overflow_sub-word : goal.overflow_sub-word
overflow_sub-word c = omega (arith, last_some c.requires c.args.table.now.room)

pub overflow_sub-a : goal.overflow_sub-a
overflow_sub-a c = last_some c.requires c.args.table.now.room

pub overflow_sub-a-2 : goal.overflow_sub-a-2
overflow_sub-a-2 c = last_fits c.requires c.args.table.now.room c.pairs_of-k.ensures

pub undo_leaf-requires : goal.undo_leaf-requires
undo_leaf-requires c = leaf_there c.requires c.args.table.now.room c.pairs_of-k.ensures c.in-Some.ensures c.in-Leaf.is

pub undo_ring-requires : goal.undo_ring-requires
undo_ring-requires c =
    ring_there c.requires c.args.table.now.room c.pairs_of-k.ensures c.in-Some.ensures c.in-Ring.is

pub undo_chain-requires : goal.undo_chain-requires
undo_chain-requires c =
    chain_there c.requires c.args.table.now.room c.pairs_of-k.ensures c.in-Some.ensures c.in-Chain.is
    c.more_of-more.ensures

pub returns-in-Leaf-clause-back : goal.returns-in-Leaf-clause-back
returns-in-Leaf-clause-back c h =
    leaf_undone h c.args.table.now.room c.pairs_of-k.ensures c.in-Some.ensures c.in-Leaf.is c.undo_leaf.new.table.room
    c.undo_leaf.ensures.back

pub returns-in-Ring-clause-back : goal.returns-in-Ring-clause-back
returns-in-Ring-clause-back c h =
    ring_undone h c.args.table.now.room c.pairs_of-k.ensures c.in-Some.ensures c.in-Ring.is
    c.undo_ring.new.table.room c.undo_ring.ensures.back

pub returns-in-Chain-clause-back : goal.returns-in-Chain-clause-back
returns-in-Chain-clause-back c h =
    chain_undone h c.args.table.now.room c.pairs_of-k.ensures c.in-Some.ensures c.in-Chain.is
    c.more_of-more.ensures c.undo_chain.new.table.room c.undo_chain.ensures.back

pub returns-in_default-clause-back : goal.returns-in_default-clause-back
returns-in_default-clause-back c h = none_there h c.args.table.now.room c.pairs_of-k.ensures c.in_default.ensures
