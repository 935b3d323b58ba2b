-- `row_by` walks out of z to an end, and from there back along the row; what it answers is what the walks show.
use mathlib.Core.Path.{ap}
use native.Mathlib.Numerals.{add-one}
use Rattle.cellfile.specs.Kinds.{as_rule}
use Rattle.matching.proofs.Put.{pair_below}
use Rattle.slots.proofs.Graphs.{holds_graph}
use Rattle.slots.proofs.Holding.{joins_pair}
use Rattle.slots.proofs.Scanning.{joins_turned}
use Rattle.finding.proofs.Rowed.{chain_left, none_by, back_none, ring_missed, chain_missed}
use Rattle.finding.proofs.Rowed.{ring_by, chain_by, tells_yes, tells_no}
use Rattle.finding.proofs.row_by.Goals as goal

pub returns-then-u-z : goal.returns-then-u-z
returns-then-u-z c = let s = c.requires in
    none_by (back_none c.args.graph.now.holds s.0 s.4 (rw add-one at c.walk-out.ensures) _ s.3 c.if-u-z.true)

pub walk-back-requires : goal.walk-back-requires
walk-back-requires c = let h = c.args.graph.now.holds in
    let j = c.walk-out.ensures.joins in
    rw c.turned.ensures (joins_turned j, (pair_below (holds_graph h) _ _ (joins_pair h j)).0)

pub returns-then-not-is_ring : goal.returns-then-not-is_ring
returns-then-not-is_ring c = let s = c.requires in
    rw (ap as_rule c.in-Ring.is) (none_by
    (ring_missed c.args.graph.now.holds s.0 s.4 (rw add-one at c.walk-out.ensures)
    (rw c.turned.ensures at c.walk-back.ensures) (tells_no _ c.is_ring.ensures c.if-not-is_ring.true)))

pub returns-then-not-is_chain : goal.returns-then-not-is_chain
returns-then-not-is_chain c = let s = c.requires in
    rw (chain_left _ s.3 c.in_default.not-Ring) (none_by
    (chain_missed c.args.graph.now.holds s.0 s.4 (rw add-one at c.walk-out.ensures)
    (rw c.turned.ensures at c.walk-back.ensures) (tells_no _ c.is_chain.ensures c.if-not-is_chain.true)))

pub returns-else-not-is_ring : goal.returns-else-not-is_ring
returns-else-not-is_ring c = let s = c.requires in
    rw (ap as_rule c.in-Ring.is)
    (ring_by c.args.graph.now.holds s.0 s.4 (rw add-one at c.walk-out.ensures)
    (rw c.turned.ensures at c.walk-back.ensures) (tells_yes _ c.is_ring.ensures c.if-not-is_ring.false))

pub returns-else-not-is_chain : goal.returns-else-not-is_chain
returns-else-not-is_chain c = let s = c.requires in
    rw (chain_left _ s.3 c.in_default.not-Ring)
    (chain_by c.args.graph.now.holds s.0 s.4 (rw add-one at c.walk-out.ensures)
    (rw c.turned.ensures at c.walk-back.ensures) (tells_yes _ c.is_chain.ensures c.if-not-is_chain.false))
