-- `undo_ring` takes the pair that the step put out of the table, clears the marks, marks the part to put in,
-- and puts it.
use mathlib.Core.Path.{◌∙◌}
use Rattle.undoing.proofs.Undoing.{ring_below, ring_asks, ring_put, ring_back}
use Rattle.undoing.proofs.undo_ring.Goals as goal

pub free_ring-less_u-requires : goal.free_ring-less_u-requires
free_ring-less_u-requires c = ring_below c.requires c.args.table.now.room

pub invariant_of-row : goal.invariant_of-row
invariant_of-row c =
    let f = c.free_ring-less_u in
    let a =
    ring_asks c.requires c.args.table.now.room f.ensures.freed f.new.table.room c.trail.ensures
    (c.fill.ensures.after (λ y e. e)) in
    record { least = a.0; most = a.1 }

pub mark_ring-requires : goal.mark_ring-requires
mark_ring-requires c =
    let f = c.free_ring-less_u in
    let a =
    ring_asks c.requires c.args.table.now.room f.ensures.freed f.new.table.room c.trail.ensures
    (c.fill.ensures.after (λ y e. e)) in
    (a.2, a.3)

pub put_marked-requires : goal.put_marked-requires
put_marked-requires c =
    let f = c.free_ring-less_u in
    ring_put c.requires c.args.table.now.room f.ensures.freed f.new.table.room c.trail.ensures
    c.mark_ring.new.marks (c.mark_ring.auto.marks ∙ c.fill.auto.self) c.mark_ring.ensures

pub returns-clause-back : goal.returns-clause-back
returns-clause-back c b =
    let f = c.free_ring-less_u in
    ring_back b c.args.table.now.room f.ensures.freed f.new.table.room c.trail.ensures
    c.mark_ring.new.marks (c.mark_ring.auto.marks ∙ c.fill.auto.self) c.mark_ring.ensures
    c.put_marked.ensures.put
