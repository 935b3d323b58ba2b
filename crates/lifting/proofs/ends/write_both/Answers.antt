-- `write_both` writes both files where both have room: their lengths are known from the number of words.
use native.Mathlib.Omega.{arith}
use Rattle.std.proofs.lemmas.Result.{err_from_is_err_and}
use Rattle.cellfile.proofs.Outputs.{plain_pairing, plain_origins}
use Rattle.lifting.proofs.Pairs.{both_first, both_second, both_written}
use Rattle.lifting.proofs.ends.write_both.Goals as goal

-- with no room in one of them nothing is written
pub returns-in_err-check_room : goal.returns-in_err-check_room
returns-in_err-check_room c =
    let a = c.args in
    let p = err_from_is_err_and c.from_residual.result c.from_residual.ensures.1 in
    let e = c.in_err-check_room.ensures in
    rw (p.1, p.2, e.0)
    (both_first a.n a.pairs.now a.records.now a.out.now a.origins.now (c.file_bytes-size.ensures a.n)
    (c.file_bytes-origin_size.ensures a.n) e.1)

pub returns-in_err-check_room-2 : goal.returns-in_err-check_room-2
returns-in_err-check_room-2 c =
    let a = c.args in
    let r = c.from_residual-in_err-check_room-2 in
    let p = err_from_is_err_and r.result r.ensures.1 in
    let e = c.in_err-check_room-2.ensures in
    rw (p.1, p.2, e.0)
    (both_second a.n a.pairs.now a.records.now a.out.now a.origins.now (c.file_bytes-size.ensures a.n)
    (c.file_bytes-origin_size.ensures a.n) e.1)

pub write_words-requires : goal.write_words-requires
write_words-requires c = (
  _,
  plain_pairing,
  record {
    cells = omega (arith, c.requires.0);
    count = omega (arith, c.requires.1);
    room = omega (arith, c.in_ok-check_room.ensures, c.file_bytes-size.ensures c.args.n);
  },
)

pub write_words-requires-2 : goal.write_words-requires-2
write_words-requires-2 c = (
  _,
  plain_origins,
  record {
    cells = omega (arith, c.requires.0);
    count = omega (arith, c.requires.1, c.requires.2);
    room = omega (arith, c.in_ok-check_room-2.ensures, c.file_bytes-origin_size.ensures c.args.n);
  },
)

pub returns : goal.returns
returns c =
    let a = c.args in
    both_written a.n a.pairs.now a.records.now a.out.now a.origins.now (c.file_bytes-size.ensures a.n)
    (c.file_bytes-origin_size.ensures a.n) c.in_ok-check_room.ensures c.in_ok-check_room-2.ensures
    (c.write_words.ensures _ plain_pairing) (c.write_words-2.ensures _ plain_origins)
