-- `gather_points` goes over the places. Invariant: the points from the places below i are stored.
use mathlib.Core.List.{List}
use Prim.Native.Nat.{ℕ}
use Rattle.matching.specs.Pairs.{Points}
use Rattle.gathering.specs.Gathered.{PlacesThere}
use Rattle.gathering.proofs.Gathering.{RowsTo}
use Rattle.gathering.proofs.gather_points.Given as goal

abbrev pub invariant-loop-i : goal.invariant-loop-i
invariant-loop-i l =
    (w : Points) (cs : List ℕ) → PlacesThere w cs l.k l.w1 l.initial.w2 → RowsTo w cs l.k l.i l.initial.w2 l.w2
