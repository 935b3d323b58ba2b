-- `number_at` reads the number of the first bytes. Invariant: v is the number of the first i bytes, below 256 ^ i.
use Rattle.std.proofs.Common.{◌≡◌, ◌<◌, ◌^◌}
use Rattle.cellfile.specs.Bytes.{number}
use Rattle.cellfile.proofs.decode.number_at.Given as goal

abbrev pub invariant-loop-i : goal.invariant-loop-i
invariant-loop-i l = record { number_is : l.v ≡ number l.i l.s; fits : l.v < 256 ^ l.i }
