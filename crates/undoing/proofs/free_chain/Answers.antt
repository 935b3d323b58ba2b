-- `free_chain` by which of the three pairs is held.
use mathlib.Core.Path.{refl, sym, ◌∙◌}
use borrow.Author.Rules.{rules}
use Rattle.undoing.proofs.Freeing.{chain_uz, chain_vz, chain_more, chain_uv, chain_none}
use Rattle.undoing.proofs.free_chain.Goals.{else-not-more-via-then-not-more+else-has-3}
use Rattle.undoing.proofs.free_chain.Goals.{else-not-more-via-else-not-more}
use Rattle.undoing.proofs.free_chain.Goals as goal

pub returns-then-has-clause-freed : goal.returns-then-has-clause-freed
returns-then-has-clause-freed c o m h = let a = c.args in
    chain_uz a.table.now.words.now a.table.now.room a.u a.z c.requires.0 c.requires.2 o m h a.v c.requires.1 a.more
    refl refl
    (sym (c.has.ensures o m h) ∙ c.if-has.true) c.part.ensures.parted

pub returns-then-has-2-clause-freed : goal.returns-then-has-2-clause-freed
returns-then-has-2-clause-freed c o m h = let a = c.args in
    chain_vz a.table.now.words.now a.table.now.room a.u a.z c.requires.0 c.requires.2 o m h a.v c.requires.1 a.more
    (sym (c.has.ensures o m h) ∙ c.if-has.false) refl refl
    (sym (c.has-2.ensures o m h) ∙ c.if-has-2.true) c.part-then-has-2.ensures.parted

-- the direct pair goes out where it does not outweigh the row
pub returns-then-has-3-clause-freed : goal.returns-then-has-3-clause-freed
returns-then-has-3-clause-freed c o m h = let a = c.args in
    chain_uv a.table.now.words.now a.table.now.room a.u a.z c.requires.0 c.requires.2 o m h a.v c.requires.1 a.more
    (sym (c.has.ensures o m h) ∙ c.if-has.false)
    (sym (c.has-2.ensures o m h) ∙ c.if-has-2.false) refl refl (search rules)
    (sym (c.has-then-not-more.ensures o m h) ∙ c.if-has-3.true) c.part-then-has-3.ensures.parted

-- and stays where it does, and where it is not held
pub returns-clause-freed : goal.returns-clause-freed
returns-clause-freed c o m h = let a = c.args in
    let uz = sym (c.has.ensures o m h) ∙ c.if-has.false in
    let vz = sym (c.has-2.ensures o m h) ∙ c.if-has-2.false in
    elim c.else-not-more.branch [
      | else-not-more-via-then-not-more+else-has-3 w ↦
          chain_none a.table.now.words.now a.table.now.room a.u a.z c.requires.0 c.requires.2 o m h a.v c.requires.1
          a.more uz vz refl refl
          (sym (w.has-then-not-more.ensures o m h) ∙ w.if-has-3.false)
      | else-not-more-via-else-not-more w ↦
          chain_more a.table.now.words.now a.table.now.room a.u a.z c.requires.0 c.requires.2 o m h a.v c.requires.1
          a.more uz vz refl refl
          (search rules)
    ]
