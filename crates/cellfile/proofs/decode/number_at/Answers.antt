-- `number_at` reads the number of the first bytes.
use Rattle.std.proofs.Common.{arith}
use Rattle.cellfile.proofs.Numbers.{number_none, number_next, below_next, below_seven}
use Rattle.cellfile.proofs.decode.number_at.Goals as goal

pub loop-i-init : goal.loop-i-init
loop-i-init c = record { number_is = number_none c.args.s.now; fits = omega arith }

pub overflow_mul-v : goal.overflow_mul-v
overflow_mul-v c = let l = c.loop-i in omega (arith, below_seven l.i l.v (omega arith) l.invariant.fits)

pub overflow_add-v : goal.overflow_add-v
overflow_add-v c = let l = c.loop-i in omega (arith, below_seven l.i l.v (omega arith) l.invariant.fits)

pub loop-i-preserved : goal.loop-i-preserved
loop-i-preserved c = let l = c.loop-i in record {
  number_is = number_next _ _ l.invariant.number_is c.byte_at.ensures.0;
  fits = below_next _ _ _ l.invariant.fits c.byte_at.ensures.1;
}
