-- `gather_cells` walks the links. Invariant: the first k cells stand at their places, and c is the next one.
use mathlib.Core.List.{List}
use Prim.Native.Nat.{ℕ}
use Rattle.gathering.specs.Gathered.{LinksThere}
use Rattle.gathering.proofs.Gathering.{Walked}
use Rattle.gathering.proofs.gather_cells.Given as goal

abbrev pub invariant-loop-k : goal.invariant-loop-k
invariant-loop-k l = (cs : List ℕ) → LinksThere cs l.d l.initial.w2 → Walked cs l.initial.w2 l.w2 l.k l.c
