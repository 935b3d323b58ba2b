-- `take_step` takes the step by its rule.
use Rattle.taking.proofs.Applied.{leaf_found, ring_found, chain_found}
use Rattle.taking.proofs.take_step.Goals as goal

pub take_leaf-requires : goal.take_leaf-requires
take_leaf-requires c = leaf_found c.requires c.in-Leaf.is

pub take_ring-requires : goal.take_ring-requires
take_ring-requires c = rw c.entry.ensures (ring_found c.requires c.in-Ring.is)

pub take_chain-requires : goal.take_chain-requires
take_chain-requires c = rw c.entry-in-Chain.ensures (chain_found c.requires c.in-Chain.is)

pub returns-in-Ring : goal.returns-in-Ring
returns-in-Ring c = rw c.in-Ring.is (rw c.entry.ensures at c.take_ring.ensures)

pub returns-in-Chain : goal.returns-in-Chain
returns-in-Chain c = rw c.in-Chain.is (rw c.entry-in-Chain.ensures at c.take_chain.ensures)
