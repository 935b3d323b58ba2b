-- `clear_sets` clears the part of the table that has the sets.
use native.Mathlib.Omega.{arith}
use mathlib.Core.Path.{ap}
use Prim.Native.Nat.{◌+◌, ◌^◌, ◌≤◌}
use lib.Pow.{pow_mono}
use Rattle.buffers.specs.Map.{at_sets}
use Rattle.sets.proofs.Places.{one_shifted}
use Rattle.sets.proofs.Known.{part_cleared}
use Rattle.sets.proofs.clear_sets.Goals as goal

pub overflow_add-end : goal.overflow_add-end
overflow_add-end c = let m : 2 ^ c.args.k ≤ 2 ^ 12 = pow_mono c.requires.1 in
    omega (arith, one_shifted c.args.k c.requires.1, m)

pub slice_bounds-fill-end : goal.slice_bounds-fill-end
slice_bounds-fill-end c = let m : 2 ^ c.args.k ≤ 2 ^ 12 = pow_mono c.requires.1 in
    omega (arith, one_shifted c.args.k c.requires.1, m, c.requires.0)

pub returns : goal.returns
returns c = part_cleared c.args.w1.now _ c.args.k _ c.requires.0 c.requires.1
    (ap (λ n. at_sets + n) (one_shifted c.args.k c.requires.1)) (c.fill.ensures.after (λ y e. e))
