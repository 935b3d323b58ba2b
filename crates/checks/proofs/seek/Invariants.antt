-- `seek` passes the entries before the pair. Invariant: the search goes on from place `at`.
use Rattle.std.proofs.Common.{◌≡◌}
use Rattle.checks.proofs.Merge.{sought_from}
use Rattle.checks.proofs.seek.Given as goal

abbrev pub invariant-loop-at : goal.invariant-loop-at
invariant-loop-at l = sought_from l.entries.file.now (l.a, l.b) l.i ≡ sought_from l.entries.file.now (l.a, l.b) l.at
