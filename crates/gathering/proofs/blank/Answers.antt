-- `blank` clears its part of the buffer.
use native.Mathlib.Omega.{arith}
use Prim.Native.Nat.{◌+◌}
use Rattle.buffers.specs.Map.{at_points, at_places}
use Rattle.sets.proofs.Known.{part_zero}
use Rattle.gathering.proofs.Gathering.{part_blank}
use Rattle.gathering.proofs.blank.Goals as goal

pub returns : goal.returns
returns c =
    let z = c.fill.ensures.after (λ y e. e) in
    let room = c.requires in
    record {
      zeros = part_zero at_points (at_places + 12) c.args.w2.now _ (omega arith) (omega (arith, room)) z;
      only = part_blank at_points (at_places + 12) c.args.w2.now _ (omega arith) (omega (arith, room)) z;
    }
