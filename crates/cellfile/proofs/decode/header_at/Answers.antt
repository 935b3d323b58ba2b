-- `header_at` reads a header's fields.
use Rattle.cellfile.specs.Fields.{fields}
use native.Mathlib.Omega.{arith}
use Rattle.cellfile.proofs.decode.header_at.Goals as goal

pub returns : goal.returns
unfolding fields
returns c = record {
  kind = omega arith;
  n = omega arith;
  m = omega arith;
  zeros = omega arith;
  m_fits = omega arith;
}
