-- `take_ring` takes the ring's row, reads its points from the trail, puts the pair u, z and stores the closing word.
use mathlib.Core.Path.{refl}
use Rattle.taking.proofs.Applied.{row_many, ring_row, ring_read, ring_less, ring_unpaired, ring_closing}
use Rattle.taking.proofs.Applied.{ring_taken}
use Rattle.taking.proofs.take_ring.Goals as goal

pub clear_row-pairs-requires : goal.clear_row-pairs-requires
clear_row-pairs-requires c = ring_row c.requires

pub row_on_trail-requires : goal.row_on_trail-requires
row_on_trail-requires c = row_many (ring_row c.requires) c.clear_row-pairs.ensures

pub overflow_sub-points : goal.overflow_sub-points
overflow_sub-points c =
    ring_less (ring_read c.requires c.clear_row-pairs.ensures c.row_on_trail.ensures c.ring_points-points.ensures)

pub put_pair-requires : goal.put_pair-requires
put_pair-requires c = ring_unpaired c.requires c.clear_row-pairs.ensures

pub closing_word-requires : goal.closing_word-requires
closing_word-requires c = ring_closing c.requires c.clear_row-pairs.ensures

pub returns : goal.returns
returns c = let g = c.clear_row-pairs.ensures in
    ring_taken c.requires g (ring_read c.requires g c.row_on_trail.ensures c.ring_points-points.ensures)
    c.put_pair.ensures.0 c.set_word.ensures c.closing_word.ensures refl refl
