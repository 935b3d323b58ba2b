-- `put_pair` appends a slot with the lower cell first, unless there are no points to put.
use native.Mathlib.Omega.{arith}
use Rattle.putting.proofs.Putting.{no_points, sorted, sorted_none, sorted_put}
use Rattle.putting.proofs.put_pair.Goals as goal

pub append-requires : goal.append-requires
append-requires c = let p = c.requires in
    let n = sorted_none p (sorted p c.min.ensures c.max.ensures) in
    (p.free, c.if-w-gt0.true, omega (arith, p.apart), omega (arith, p.first_below, p.last_below), n)

pub returns-then-w-gt0 : goal.returns-then-w-gt0
returns-then-w-gt0 c = let p = c.requires in
    sorted_put p _ (sorted p c.min.ensures c.max.ensures) c.append.ensures.0

pub returns-else-w-gt0 : goal.returns-else-w-gt0
returns-else-w-gt0 c = (no_points c.requires (omega (arith, c.if-w-gt0.false)), omega arith)
