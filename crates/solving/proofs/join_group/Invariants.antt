-- `join_group` takes the places out of the set, the lowest first. Invariant: the pairs that are done stand in the
-- table, and those of the set that is left are still to be put in.
use mathlib.Core.List.{List}
use Prim.Native.Nat.{ℕ}
use Rattle.matching.specs.Pairs.{Pair, Points}
use Rattle.sets.specs.Sets.{Kept}
use Rattle.solving.specs.Joined.{JoinThere}
use Rattle.solving.proofs.Joining.{set_words, Joining}
use Rattle.solving.proofs.join_group.Given as goal

abbrev pub invariant-loop-left : goal.invariant-loop-left
invariant-loop-left l =
    (w : Points) (cs : List ℕ) (m : List Pair) (v1 : List ℕ) (p : JoinThere w cs m l.k v1 l.initial.w2)
    → Kept (set_words l.initial.w2) l.k v1 l.initial.w1 → Joining p l.w1 l.w2 l.left

abbrev pub decreases-loop-left : goal.decreases-loop-left
decreases-loop-left l = l.left
