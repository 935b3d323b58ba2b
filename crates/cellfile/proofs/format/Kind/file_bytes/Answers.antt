-- `file_bytes` is far below the largest number.
use Rattle.std.proofs.Common.{arith}
use native.Mathlib.Nat.{mul-le-mul_right}
use Rattle.cellfile.proofs.format.Kind.file_bytes.Goals as goal

pub overflow_mul-result : goal.overflow_mul-result
overflow_mul-result c = omega (arith, mul-le-mul_right {n = 8} c.args.m c.record_bytes.ensures.most)

pub overflow_add-result : goal.overflow_add-result
overflow_add-result c = omega (arith, mul-le-mul_right {n = 8} c.args.m c.record_bytes.ensures.most)
