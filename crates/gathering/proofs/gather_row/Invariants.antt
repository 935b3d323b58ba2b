-- `gather_row` goes over the places behind i, and over the run of the rows of the cell at place i. Invariant: the
-- points from place i to the places before j are stored, and of the run there stand before e the rows of cells below
-- that at place j.
use mathlib.Core.List.{List}
use Prim.Native.Nat.{ℕ}
use Rattle.matching.specs.Pairs.{Points}
use Rattle.gathering.specs.Gathered.{PlacesThere}
use Rattle.gathering.proofs.Gathering.{RowTo}
use Rattle.gathering.proofs.gather_row.Given as goal

abbrev pub invariant-loop-j : goal.invariant-loop-j
invariant-loop-j l =
    (w : Points) (cs : List ℕ) (p : PlacesThere w cs l.k l.w1 l.initial.w2)
    → RowTo p.n w cs l.k l.i l.e l.j l.initial.w2 l.w2
