-- `pair_lines` looks each pair up behind the one before it, and puts its line. Invariant: `Reached`.
use Prim.Native.Nat.{◌≤◌}
use Rattle.report.proofs.Lines.{Reached}
use Rattle.report.proofs.pairs.pair_lines.Given as goal

abbrev pub invariant-loop-j : goal.invariant-loop-j
invariant-loop-j l = record {
  within : l.i ≤ l.entries.m;
  reached : Reached l.entries.file.now l.pairs.file.now l.initial.text.bytes l.i l.j l.text.bytes l.total;
}
