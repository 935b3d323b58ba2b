-- `put_ends` raises the pair of the ends, then puts the pairs of z with each of them.
use Rattle.putting.proofs.Putting.{ends_last, ends_first, ends_put}
use Rattle.putting.proofs.put_ends.Goals as goal

pub put_pair-requires : goal.put_pair-requires
put_pair-requires c = ends_last c.requires c.raise_pair-more.ensures

pub put_pair-requires-2 : goal.put_pair-requires-2
put_pair-requires-2 c = let q = c.put_pair.ensures in
    ends_first c.requires c.raise_pair-more.ensures q.0 q.1

pub returns : goal.returns
returns c = let q = c.put_pair.ensures in
    ends_put c.requires c.raise_pair-more.ensures q.0 q.1 c.put_pair-2.ensures.0
