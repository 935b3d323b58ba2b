-- `put_numbers` writes one number after the other. Invariant: the bytes of the first i numbers are written.
use Rattle.std.proofs.Common.{◌≡◌, ◌<◌, ℕ, List, length, get_or, take}
use Rattle.cellfile.specs.Files.{onto}
use Rattle.cellfile.specs.Words.{word_bytes}
use Rattle.cellfile.proofs.write.put_numbers.Given as goal

abbrev pub invariant-loop-i : goal.invariant-loop-i
invariant-loop-i g l =
    (ws : List ℕ) → l.count ≡ length ws
    → ((i v : ℕ) → i < l.count → goal.F-post g l.number i v → v ≡ get_or ws i 0)
    → l.out ≡ onto (word_bytes l.size (take l.i ws)) l.initial.out
