-- `solve_groups` goes over the cells. Invariant: the groups whose first cells are below d are solved and joined, and
-- have so many points.
use Rattle.matching.specs.Pairs.{Points}
use Rattle.grouping.specs.Labels.{Labels}
use Rattle.solving.specs.Joined.{GroupsThere}
use Rattle.solving.proofs.Groups.{Solving}
use Rattle.solving.proofs.solve_groups.Given as goal

abbrev pub invariant-loop-d : goal.invariant-loop-d
invariant-loop-d l =
    (w : Points) (by : Labels) → GroupsThere l.n w by 0 l.initial.w1 l.initial.w2
    → Solving l.n w by l.d l.initial.w2 l.w1 l.w2 l.points
