-- `take_chain` takes the chain's row, reads its points from the trail, puts the three pairs and stores the closing
-- word.
use mathlib.Core.Path.{refl}
use native.Mathlib.Omega.{arith}
use Rattle.taking.proofs.Applied.{row_many, chain_row, chain_read, chain_less, chain_ends, chain_closing}
use Rattle.taking.proofs.Applied.{chain_taken}
use Rattle.taking.proofs.take_chain.Goals as goal

pub clear_row-pairs-requires : goal.clear_row-pairs-requires
clear_row-pairs-requires c = chain_row c.requires

pub row_on_trail-requires : goal.row_on_trail-requires
row_on_trail-requires c = row_many (chain_row c.requires) c.clear_row-pairs.ensures

pub overflow_sub-ends : goal.overflow_sub-ends
overflow_sub-ends c =
    let h = chain_read c.requires c.clear_row-pairs.ensures c.row_on_trail.ensures c.chain_points-points.ensures in
    omega (arith, chain_less h)

pub overflow_sub-ends-2 : goal.overflow_sub-ends-2
overflow_sub-ends-2 c =
    let h = chain_read c.requires c.clear_row-pairs.ensures c.row_on_trail.ensures c.chain_points-points.ensures in
    omega (arith, chain_less h)

pub overflow_sub-ends-3 : goal.overflow_sub-ends-3
overflow_sub-ends-3 c =
    let h = chain_read c.requires c.clear_row-pairs.ensures c.row_on_trail.ensures c.chain_points-points.ensures in
    omega (arith, chain_less h)

pub put_ends-more-requires : goal.put_ends-more-requires
put_ends-more-requires c = chain_ends c.requires c.clear_row-pairs.ensures _ _ _

pub closing_word-requires : goal.closing_word-requires
closing_word-requires c = chain_closing c.requires c.clear_row-pairs.ensures

pub returns : goal.returns
returns c = let g = c.clear_row-pairs.ensures in
    chain_taken c.requires g _ _ _ (chain_read c.requires g c.row_on_trail.ensures c.chain_points-points.ensures)
    refl refl refl c.put_ends-more.ensures c.set_word.ensures c.closing_word.ensures refl refl
