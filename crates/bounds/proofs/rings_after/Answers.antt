-- `rings_after` by the cases of the enum and the degree of u.
use mathlib.Core.Path.{sym, ◌∙◌}
use Rattle.bounds.proofs.Rings.{rings_leaf, rings_ring}
use Rattle.bounds.proofs.rings_after.Goals as goal

pub returns-in-Leaf : goal.returns-in-Leaf
returns-in-Leaf c = rings_leaf c.in-Leaf.is (sym c.degree.ensures ∙ c.if-degree-eq1.true)

pub returns-in-Ring : goal.returns-in-Ring
returns-in-Ring c =
    rings_ring c.in-Ring.is (sym c.degree-then-u-lt-CELLS-2.ensures ∙ c.if-degree-eq2.true)
