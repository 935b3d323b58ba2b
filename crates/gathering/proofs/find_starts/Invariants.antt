-- `find_starts` goes over the cells. Invariant: the starts of the runs of those below a are stored, and i is that of a.
use Prim.Native.Nat.{◌≤◌}
use Rattle.matching.specs.Pairs.{Points}
use Rattle.gathering.specs.Gathered.{StartsThere}
use Rattle.gathering.proofs.Gathering.{StartsTo}
use Rattle.gathering.proofs.find_starts.Given as goal

abbrev pub invariant-loop-a : goal.invariant-loop-a
invariant-loop-a l =
    (l.i ≤ l.r) × ((w : Points) → StartsThere l.n w l.r l.w1 l.initial.w2 → StartsTo l.n w l.a l.i l.initial.w2 l.w2)
