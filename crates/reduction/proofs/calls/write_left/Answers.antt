-- `write_left` writes the short list where it has room: its length is known from the number of rows.
use native.Mathlib.Omega.{arith}
use Rattle.std.proofs.lemmas.Result.{err_from_is_err_and}
use Rattle.checks.proofs.Answering.{one_refused, one_written}
use Rattle.reduction.proofs.Ends.{left_rows, left_fits, left_length}
use Rattle.reduction.proofs.calls.write_left.Goals as goal

pub returns-in_err-check_room : goal.returns-in_err-check_room
returns-in_err-check_room c =
    let p = err_from_is_err_and c.from_residual.result c.from_residual.ensures.1 in
    let e = c.in_err-check_room.ensures in
    let at = c.args.at in
    let z = left_length c.requires c.finish-r.ensures.1 at.carried (c.file_bytes-size.ensures at.n) in
    rw (p.1, p.2, e.0) (one_refused _ c.args.short.now z e.1)

pub write_short-requires : goal.write_short-requires
write_short-requires c =
    let p = c.requires in (
      left_fits p c.finish-r.ensures.1 (omega (arith, p.pairs.room)) c.finish-r.ensures.0,
      omega (arith, p.cells),
      omega (arith, c.in_ok-check_room.ensures, c.file_bytes-size.ensures c.args.at.n),
    )

pub returns : goal.returns
returns c =
    let q = c.finish-r.ensures.1 in
    let at = c.args.at in
    one_written _ c.args.short.now (left_length c.requires q at.carried (c.file_bytes-size.ensures at.n))
    c.in_ok-check_room.ensures (c.write_short.ensures _ (left_rows c.requires q))
