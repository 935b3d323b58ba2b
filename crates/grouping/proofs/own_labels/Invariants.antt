-- `own_labels` goes over the cells: those below c have their first labels.
use Rattle.slots.specs.Working.{graph_in, WordsSet}
use Rattle.grouping.proofs.Labelling.{Labelling}
use Rattle.grouping.proofs.own_labels.Given as goal

abbrev pub invariant-loop-c : goal.invariant-loop-c
invariant-loop-c l = record {
  labels : Labelling l.n (graph_in l.initial.graph) l.c l.initial.graph.w2.now l.graph.w2.now;
  same : WordsSet l.initial.graph l.graph;
}
