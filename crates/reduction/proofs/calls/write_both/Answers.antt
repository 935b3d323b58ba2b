-- `write_both` writes both files where both have room: their lengths are known from the numbers of words and of rows.
use native.Mathlib.Omega.{arith}
use Rattle.std.proofs.lemmas.Result.{err_from_is_err_and}
use Rattle.cellfile.proofs.Outputs.{plain_slip}
use Rattle.reduction.proofs.Ends.{left_rows, left_fits, names_many, both_first, both_second, both_written}
use Rattle.reduction.proofs.calls.write_both.Goals as goal

-- with no room in one of them nothing is written
pub returns-in_err-check_room : goal.returns-in_err-check_room
returns-in_err-check_room c =
    let a = c.args in
    let p = err_from_is_err_and c.from_residual.result c.from_residual.ensures.1 in
    let e = c.in_err-check_room.ensures in
    rw (p.1, p.2, e.0)
    (both_first a.w2.now a.at.carried c.requires.0 c.requires.1 c.requires.2 c.finish-r.ensures.1 a.slip.now a.short.now
    (c.file_bytes-slip_size.ensures a.at.n) (c.file_bytes-short_size.ensures a.at.n) e.1)

pub returns-in_err-check_room-2 : goal.returns-in_err-check_room-2
returns-in_err-check_room-2 c =
    let a = c.args in
    let r = c.from_residual-in_err-check_room-2 in
    let p = err_from_is_err_and r.result r.ensures.1 in
    let e = c.in_err-check_room-2.ensures in
    rw (p.1, p.2, e.0)
    (both_second a.w2.now a.at.carried c.requires.0 c.requires.1 c.requires.2 c.finish-r.ensures.1 a.slip.now
    a.short.now
    (c.file_bytes-slip_size.ensures a.at.n) (c.file_bytes-short_size.ensures a.at.n) e.1)

pub write_words-requires : goal.write_words-requires
write_words-requires c =
    let a = c.args in
    let q = names_many a.at.n a.at.steps a.w2.now c.requires.1 c.requires.2 in (
      _,
      plain_slip,
      record {
        cells = omega (arith, c.requires.0.cells);
        count = omega (arith, q, c.requires.1);
        room = omega (arith, q, c.in_ok-check_room.ensures, c.file_bytes-slip_size.ensures a.at.n);
      },
    )

pub write_short-requires : goal.write_short-requires
write_short-requires c =
    let p = c.requires.0 in (
      left_fits p c.finish-r.ensures.1 (omega (arith, p.pairs.room)) c.finish-r.ensures.0,
      omega (arith, p.cells),
      omega (arith, c.in_ok-check_room-2.ensures, c.file_bytes-short_size.ensures c.args.at.n),
    )

pub returns : goal.returns
returns c =
    let a = c.args in
    let q = c.finish-r.ensures.1 in
    both_written a.w2.now a.at.carried c.requires.0 c.requires.1 c.requires.2 q a.slip.now a.short.now
    (c.file_bytes-slip_size.ensures a.at.n) (c.file_bytes-short_size.ensures a.at.n) c.in_ok-check_room.ensures
    c.in_ok-check_room-2.ensures (c.write_words.ensures _ plain_slip) (c.write_short.ensures _ (left_rows c.requires.0 q))
