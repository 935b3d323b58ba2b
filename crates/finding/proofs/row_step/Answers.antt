-- `row_step` goes over the cells, and at each over its slots.
use mathlib.Core.Path.{refl}
use native.Mathlib.Omega.{arith}
use Rattle.finding.proofs.Scans.{unmet_on, unmet_end, barren_on, scan_none, scan_some, none_at_slot}
use Rattle.finding.proofs.row_step.Goals as goal

pub row_by_slot-requires : goal.row_by_slot-requires
row_by_slot-requires c = let n = rw c.in-Some.is at c.loop-next.invariant.unmet in
    (omega arith, omega (arith, n.top), n.has _ refl, c.requires.1, n.fits _ refl)

pub returns-in-Some-row_by_slot : goal.returns-in-Some-row_by_slot
returns-in-Some-row_by_slot c =
    scan_some c.args.graph.now.holds c.search.invariant.barren c.search-test.true c.in-Some-row_by_slot.ensures

pub loop-next-preserved : goal.loop-next-preserved
loop-next-preserved c = let n = rw c.in-Some.is at c.loop-next.invariant.unmet in record {
  unmet = unmet_on c.args.graph.now.holds n (none_at_slot c.args.graph.now.holds c.in_default-row_by_slot.ensures)
      c.slot_before-next.ensures;
  none = c.loop-next.invariant.none;
}

pub search-preserved : goal.search-preserved
search-preserved c = let n = rw c.in_default.is at c.loop-next.invariant.unmet in record {
  barren = barren_on c.search.invariant.barren (unmet_end c.args.graph.now.holds n);
  none = c.loop-next.invariant.none;
}

pub returns-after-search : goal.returns-after-search
returns-after-search c = rw c.search.invariant.none
    (scan_none c.args.graph.now.holds c.search.invariant.barren (omega arith))
