-- `write_pairs` writes the pairing where it has room: its length is known from the number of words.
use native.Mathlib.Omega.{arith}
use Rattle.std.proofs.lemmas.Result.{err_from_is_err_and}
use Rattle.cellfile.proofs.Outputs.{plain_pairing}
use Rattle.checks.proofs.Answering.{one_refused, one_written}
use Rattle.lifting.proofs.Pairs.{words_long}
use Rattle.lifting.proofs.ends.write_pairs.Goals as goal

pub returns-in_err-check_room : goal.returns-in_err-check_room
returns-in_err-check_room c =
    let a = c.args in
    let p = err_from_is_err_and c.from_residual.result c.from_residual.ensures.1 in
    let e = c.in_err-check_room.ensures in
    rw (p.1, p.2, e.0)
    (one_refused _ a.out.now (words_long plain_pairing a.n a.pairs.now (c.file_bytes-size.ensures a.n)) e.1)

pub write_words-requires : goal.write_words-requires
write_words-requires c = (
  _,
  plain_pairing,
  record {
    cells = omega (arith, c.requires.0);
    count = omega (arith, c.requires.1);
    room = omega (arith, c.in_ok-check_room.ensures, c.file_bytes-size.ensures c.args.n);
  },
)

pub returns : goal.returns
returns c =
    let a = c.args in
    one_written _ a.out.now (words_long plain_pairing a.n a.pairs.now (c.file_bytes-size.ensures a.n))
    c.in_ok-check_room.ensures (c.write_words.ensures _ plain_pairing)
