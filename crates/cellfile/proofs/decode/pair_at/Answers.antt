-- `pair_at` reads the fields of a pairing's entry.
use Rattle.std.proofs.Common.{arith}
use Rattle.cellfile.proofs.Lists.{pair_fields_are}
use Rattle.cellfile.proofs.decode.pair_at.Goals as goal

pub returns : goal.returns
returns c = record {
  is = pair_fields_are c.args.s.now (rw c.record_bytes.ensures.is at c.number_at-v.ensures);
  fits = record { a = omega arith; b = omega arith };
}
