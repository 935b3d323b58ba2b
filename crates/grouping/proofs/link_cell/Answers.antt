-- `link_cell` has no loop: the cell has no pairs, is the first of its group, or is put behind the first.
use mathlib.Core.Path.{sym, ◌∙◌}
use Rattle.grouping.proofs.Links.{link_none, link_own, link_put}
use Rattle.grouping.proofs.link_cell.Goals as goal

pub returns-in_default : goal.returns-in_default
returns-in_default c n l h = link_none h (sym c.first.ensures ∙ c.in_default.is)

pub returns-then-d-c : goal.returns-then-d-c
returns-then-d-c c n l h = link_own h (sym c.first.ensures ∙ c.in-Some.is) c.if-d-c.true

pub returns : goal.returns
returns c n l h = link_put h (sym c.first.ensures ∙ c.in-Some.is) c.if-d-c.false
