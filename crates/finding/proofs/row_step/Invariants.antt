-- `row_step` goes over the cells, and at each over its slots. Invariant of the cells: none before z has a step; of the
-- slots of z: none behind `next` shows one; and so none is found yet.
use Rattle.std.specs.Prelude.{◌≡◌, None}
use Rattle.cellfile.specs.Kinds.{as_rule}
use Rattle.slots.specs.Slots.{name_of}
use Rattle.finding.specs.Finding.{Unmet}
use Rattle.finding.proofs.Scans.{Barren}
use Rattle.finding.proofs.row_step.Given as goal

abbrev pub invariant-loop-next : goal.invariant-loop-next
invariant-loop-next l = record {
  unmet : Unmet l.graph.slots l.graph.w1.now (as_rule l.rule) l.z (name_of l.next);
  none : l.found ≡ None;
}

abbrev pub decreases-loop-next : goal.decreases-loop-next
decreases-loop-next l = name_of l.next

abbrev pub invariant-search : goal.invariant-search
invariant-search l = record {
  barren : Barren l.graph.slots l.graph.w1.now (as_rule l.rule) l.from l.z;
  none : l.found ≡ None;
}
