-- `line` puts one number after the other. Invariant: what is put, and the rest of the line, make the line.
use Prim.Native.Nat.{◌+◌, ◌*◌, ◌≤◌}
use mathlib.Core.Path.{◌≡◌}
use mathlib.Core.List.{◌++◌}
use lib.ListN.{length, drop}
use Rattle.report.specs.Printed.{numbers}
use Rattle.report.proofs.text.line.Given as goal

abbrev pub invariant-loop-v : goal.invariant-loop-v
invariant-loop-v l =
    (l.text.bytes ++ numbers (drop l.v-index l.values) ≡ l.initial.text.bytes ++ numbers l.values)
    × (length l.text.bytes ≤ length l.initial.text.bytes + 21 * l.v-index)
