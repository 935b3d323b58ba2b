-- `free_ring` by whether u and z are partners.
use mathlib.Core.Path.{sym, ◌∙◌}
use Rattle.undoing.proofs.Freeing.{ring_held, ring_unheld}
use Rattle.undoing.proofs.free_ring.Goals as goal

pub returns-then-has-clause-freed : goal.returns-then-has-clause-freed
returns-then-has-clause-freed c o m h =
    ring_held c.args.table.now.words.now c.args.table.now.room c.args.u c.args.z c.requires.0 c.requires.1 o m h
    (sym (c.has.ensures o m h) ∙ c.if-has.true) c.part.ensures.parted

pub returns-clause-freed : goal.returns-clause-freed
returns-clause-freed c o m h =
    ring_unheld c.args.table.now.words.now c.args.table.now.room c.args.u c.args.z c.requires.0 c.requires.1 o m h
    (sym (c.has.ensures o m h) ∙ c.if-has.false)
