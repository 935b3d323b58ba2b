-- `undo_chain` takes the pair that the step put out of the table, clears the marks, marks the part to put in,
-- and puts it.
use mathlib.Core.Path.{◌∙◌}
use Rattle.undoing.proofs.Undoing.{chain_below, chain_asks, chain_put, chain_back}
use Rattle.undoing.proofs.undo_chain.Goals as goal

pub free_chain-ends-requires : goal.free_chain-ends-requires
free_chain-ends-requires c = chain_below c.requires c.args.table.now.room

pub invariant_of-row : goal.invariant_of-row
invariant_of-row c =
    let f = c.free_chain-ends in
    let a =
    chain_asks c.requires c.args.table.now.room f.ensures.freed f.new.table.room c.trail.ensures
    (c.fill.ensures.after (λ y e. e)) in
    record { least = a.0; most = a.1 }

pub mark_chain-requires : goal.mark_chain-requires
mark_chain-requires c =
    let f = c.free_chain-ends in
    let a =
    chain_asks c.requires c.args.table.now.room f.ensures.freed f.new.table.room c.trail.ensures
    (c.fill.ensures.after (λ y e. e)) in
    (a.2, a.3)

pub put_marked-requires : goal.put_marked-requires
put_marked-requires c =
    let f = c.free_chain-ends in
    chain_put c.requires c.args.table.now.room f.ensures.freed f.new.table.room c.trail.ensures
    c.mark_chain.new.marks (c.mark_chain.auto.marks ∙ c.fill.auto.self) c.mark_chain.ensures

pub returns-clause-back : goal.returns-clause-back
returns-clause-back c b =
    let f = c.free_chain-ends in
    chain_back b c.args.table.now.room f.ensures.freed f.new.table.room c.trail.ensures
    c.mark_chain.new.marks (c.mark_chain.auto.marks ∙ c.fill.auto.self) c.mark_chain.ensures
    c.put_marked.ensures.put
