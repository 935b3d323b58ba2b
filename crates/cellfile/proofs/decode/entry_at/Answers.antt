-- `entry_at` reads an entry's fields from the number of its bytes, which are the first.
use Rattle.std.proofs.Common.{arith, ◌∙◌}
use Rattle.cellfile.proofs.Lists.{entry_fields_is}
use Rattle.cellfile.proofs.Numbers.{number_part}
use Rattle.cellfile.proofs.decode.entry_at.Goals as goal

pub returns : goal.returns
returns c = let a = c.args in record {
  is = entry_fields_is a.bytes a.s.now c.requires.0 c.requires.1
      (c.number_at-v.ensures ∙ number_part a.bytes a.bytes a.s.now (omega arith));
  a_fits = omega arith;
  b_fits = omega arith;
}
