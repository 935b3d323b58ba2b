-- `run` takes step after step. Invariant: allowed steps were taken, the rest of the course goes on from there, and the
-- bounds of the search hold (`Coursing`).
use Prim.Native.Nat.{◌+◌, ◌-◌}
use Rattle.slots.specs.Working.{graph_in, SameBuffers}
use Rattle.running.specs.Running.{steps_in, names_of, Coursing}
use Rattle.running.proofs.run.Given as goal

abbrev pub invariant-loop-at : goal.invariant-loop-at
invariant-loop-at l = record {
  course : Coursing l.n (graph_in l.fn.graph) (steps_in l.slip (λ r. names_of r.now.file.now)) l.more l.at l.graph;
  buffers : SameBuffers l.fn.graph l.graph;
}

abbrev pub decreases-loop-at : goal.decreases-loop-at
decreases-loop-at l = l.m + l.more - l.at.taken.steps
