-- `has_bad_pair` is what refusal 9 says of a pairing's entries. Invariant: it holds of all entries just where it holds
-- of those from place i on, a ascending from low.
use Rattle.std.proofs.Common.{◌≡◌, ◌≤◌}
use Rattle.checks.proofs.Parts.{bad_from}
use Rattle.checks.proofs.has_bad_pair.Given as goal

abbrev pub invariant-loop-i : goal.invariant-loop-i
invariant-loop-i l =
    record {
      low_fits : l.low ≤ 1024;
      rest : bad_from l.n 0 l.pairs.file.now 0 ≡ bad_from l.n l.low l.pairs.file.now
          l.i;
    }
