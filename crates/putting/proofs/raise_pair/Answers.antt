-- `raise_pair` takes the pair from the graph and puts it again with the larger points.
use Rattle.putting.proofs.Putting.{free_unpaired, pair_raised}
use Rattle.putting.proofs.raise_pair.Goals as goal

pub put_pair-requires : goal.put_pair-requires
put_pair-requires c = let p = c.requires in
    free_unpaired _ _ c.free_pair-before.ensures.1 p.0 p.1 p.2 p.3

pub returns : goal.returns
returns c = let f = c.free_pair-before.ensures in
    pair_raised _ _ f.1 _ _ f.0 c.max.ensures c.put_pair.ensures.0 c.put_pair.ensures.1
