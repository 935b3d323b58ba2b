-- `show_complete` puts the entries of one set after the other.
use Prim.Native.Nat.{◌*◌, ◌≤◌}
use Rattle.worked.proofs.Worked.show_complete.Given as goal

abbrev pub invariant-loop-set : goal.invariant-loop-set
invariant-loop-set g l = (l.n ≤ 13 * l._set) × (l.m ≤ 169 * l._set)
