-- `own_labels` goes over the cells: those below c have their first labels.
use Rattle.std.proofs.Common.{arith}
use Rattle.slots.proofs.Working.{words_on}
use Rattle.grouping.proofs.Labelling.{own_at, labels_more}
use Rattle.grouping.proofs.own_labels.Goals as goal

pub loop-c-preserved : goal.loop-c-preserved
loop-c-preserved c =
    let l = c.loop-c in
    let h = l.invariant in
    let n = c.requires.0 in
    let room = l.graph.holds.room2 in
    record {
      labels = rw c.set_word.ensures.second (labels_more h.labels (omega arith)
          (own_at l.c c.requires.1 n (rw (h.same.slots, h.same.first) at c.degree-pairs.ensures)
          c.own_label.ensures));
      same = words_on h.same c.set_word.ensures;
    }
