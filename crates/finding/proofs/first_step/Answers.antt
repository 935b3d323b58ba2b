-- `first_step` looks for a leaf, a ring, a chain; it leaves out the cells below `low` for leaves, those below `rings`
-- for rings.
use Rattle.std.specs.Prelude.{Some, None}
use Rattle.matching.specs.Steps.{by_ring}
use Rattle.finding.proofs.Scans.{from_low, from_bound, leaf_first, first_ring, first_chain}
use Rattle.finding.proofs.first_step.Goals as goal

pub returns-in-Some : goal.returns-in-Some
returns-in-Some c = let a = c.args in
    let r = c.requires in
    leaf_first _ _ a.n r.1 r.0 (from_low a.graph.now.holds a.low a.n r.2 (Some c.in-Some.leaf) c.in-Some.ensures)

pub returns-in-Some-row_step : goal.returns-in-Some-row_step
returns-in-Some-row_step c = let a = c.args in
    let r = c.requires in
    let h = a.graph.now.holds in
    first_ring _ _ a.n r.1 r.0 (from_low h a.low a.n r.2 None c.in_default.ensures)
    (from_bound h by_ring a.rings a.n r.3 (Some c.in-Some-row_step.ring) c.in-Some-row_step.ensures)

pub returns : goal.returns
returns c = let a = c.args in
    let r = c.requires in
    let h = a.graph.now.holds in
    first_chain _ _ a.n r.1 r.0 (from_low h a.low a.n r.2 None c.in_default.ensures)
    (from_bound h by_ring a.rings a.n r.3 None c.in_default-row_step.ensures) _ c.row_step-2.ensures
