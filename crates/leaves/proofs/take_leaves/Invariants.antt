-- `take_leaves` goes over the cells from c on. Invariant: the run so far is as reduce takes it, and is noted.
use Rattle.leaves.proofs.Passing.{Running}
use Rattle.leaves.proofs.take_leaves.Given as goal

abbrev pub invariant-loop-v : goal.invariant-loop-v
invariant-loop-v l = Running l.n l.u l.slack l.room l.fn.graph l.graph l.v l.carried l.steps
