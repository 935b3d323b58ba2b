-- `mark_part` writes the marks of a part among pairs without a mark: those of the pairs that pay, of which it leaves
-- those that stand.
use mathlib.Core.Path.{ap, ◌∙◌}
use Rattle.rows.specs.Row.{standing, unmarked}
use Rattle.rows.proofs.Parts.{part_marks_is}
use Rattle.rows.proofs.Row.mark_part.Goals as goal

pub returns : goal.returns
returns c = part_marks_is c.args.self.words.now _ _ c.args.a c.args.e c.requires.0 c.requires.1
    (c.requires.3 ∙ ap unmarked c.requires.2) (c.let_stand.ensures ∙ ap (standing 0) c.mark_paying.ensures)
