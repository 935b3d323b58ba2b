-- `gather_cells` walks the links.
use mathlib.Core.Path.{sym, ◌∙◌}
use Rattle.gathering.proofs.Gathering.{walk_more, walk_last}
use Rattle.gathering.proofs.gather_cells.Goals as goal

pub returns-in_default : goal.returns-in_default
returns-in_default c =
    λ cs h. walk_last h (c.loop-k.invariant cs h) c.loop-k-test.true (sym c.next.ensures ∙ c.in_default.is)

pub loop-k-preserved : goal.loop-k-preserved
loop-k-preserved c =
    λ cs h. walk_more h (c.loop-k.invariant cs h) c.loop-k-test.true (sym c.next.ensures ∙ c.in-Some.is)
