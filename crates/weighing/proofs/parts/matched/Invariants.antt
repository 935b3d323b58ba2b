-- `matched` looks each pair up behind the one before it. Invariant: the whole merge is the merge from places `from` and
-- j on, with the points found so far, each below 1,048,576.
use Rattle.std.proofs.Common.{◌≡◌, ◌≤◌, ◌*◌}
use Rattle.cellfile.specs.Reads.{points_top}
use Rattle.weighing.proofs.Matched.{merged_from}
use Rattle.weighing.proofs.parts.matched.Given as goal

abbrev pub invariant-loop-j : goal.invariant-loop-j
invariant-loop-j l = record {
  from_fits : l.from ≤ l.entries.m;
  fits : l.sum ≤ points_top * l.j;
  rest : merged_from l.entries.file.now l.pairs.file.now 0 0 0
      ≡ merged_from l.entries.file.now l.pairs.file.now l.from l.j l.sum;
}
