-- `step_at` reads the fields of a slip's entry.
use Rattle.std.proofs.Common.{arith}
use Rattle.cellfile.proofs.Lists.{step_fields_are}
use Rattle.cellfile.proofs.decode.step_at.Goals as goal

pub returns : goal.returns
returns c = record {
  is = step_fields_are c.args.s.now (rw c.record_bytes.ensures.is at c.number_at-v.ensures);
  fits = record { rule = omega arith; cell = omega arith };
}
