-- `take_leaf` takes the leaf from the graph and stores its closing word.
use mathlib.Core.Path.{refl}
use Rattle.taking.proofs.Applied.{leaf_asks, leaf_taken}
use Rattle.taking.proofs.take_leaf.Goals as goal

pub leaf-carried-requires : goal.leaf-carried-requires
leaf-carried-requires c = leaf_asks c.requires

pub returns : goal.returns
returns c = let l = c.leaf-carried.ensures in
    leaf_taken c.requires refl l.0 l.1 c.set_word.ensures c.closing_word.ensures
