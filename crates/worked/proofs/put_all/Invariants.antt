-- `put_all` puts less than 13 entries for each first cell.
use Prim.Native.Nat.{◌+◌, ◌*◌, ◌≤◌}
use Rattle.worked.proofs.put_all.Given as goal

abbrev pub invariant-loop-a : goal.invariant-loop-a
invariant-loop-a l = l.end + 13 * l.low ≤ l.start + 13 * l.a

abbrev pub invariant-loop-b : goal.invariant-loop-b
invariant-loop-b l = l.end + 13 * l.low + l.a + 1 ≤ l.start + 13 * l.a + l.b
