-- `entry_word` packs an entry, its lower cell first.
use Rattle.std.proofs.Common.{arith}
use Rattle.cellfile.specs.Fields.{packed}
use Rattle.tidying.proofs.parts.entry_word.Goals as goal

pub returns : goal.returns
unfolding packed
returns c = omega arith
