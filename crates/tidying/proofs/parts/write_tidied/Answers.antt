-- `write_tidied` writes the store list where it has room: its length is known from the number of words.
use Rattle.std.proofs.Common.{◌≤◌, ◌≡◌, ◌∙◌, arith, length, length-take-le}
use Rattle.std.proofs.lemmas.Result.{err_from_is_err_and}
use Rattle.cellfile.specs.Files.{cells_of}
use Rattle.cellfile.proofs.Outputs.{plain_store}
use Rattle.checks.proofs.Answering.{one_refused}
use Rattle.checks.proofs.Rows.{bad_raw_none}
use Rattle.tidying.specs.Calls.{tidy_file}
use Rattle.tidying.proofs.Words.{order_length, tidy_written}
use Rattle.tidying.proofs.parts.write_tidied.Goals as goal
use Rattle.tidying.proofs.parts.write_tidied.Goals.{After-file_bytes-size}

-- the words, and the length of the file
words : (c : After-file_bytes-size) → c.order-k.result ≤ length c.order-k.new.w1
words c = omega (arith, c.order-k.ensures.0, c.order-k.auto.w1, c.requires.room1)

size : (c : After-file_bytes-size) → c.file_bytes-size.result ≡ length (tidy_file c.args.entries.now.file.now)
size c = let s = c.args.entries.now.file.now in
    c.file_bytes-size.ensures (cells_of s)
    ∙ order_length s c.requires.accepted c.order-k.new.w1 c.order-k.result (words c) c.order-k.ensures.1

pub returns-in_err-check_room : goal.returns-in_err-check_room
returns-in_err-check_room c =
    let p = err_from_is_err_and c.from_residual.result c.from_residual.ensures.1 in
    let e = c.in_err-check_room.ensures in
    let z = size (goal.at.returns-in_err-check_room c).After-file_bytes-size in
    rw (p.1, p.2, e.0) (one_refused _ c.args.store.now z e.1)

pub write_words-requires : goal.write_words-requires
write_words-requires c =
    let k = c.order-k in
    let w = words (goal.at.write_words-requires c).After-file_bytes-size in
    let few = length-take-le k.result k.new.w1 w in
    let s = c.args.entries.now.file.now in (
      _,
      plain_store,
      record {
        cells = omega (arith, c.args.entries.now.cells, (bad_raw_none _ c.requires.accepted).0.0);
        count = omega (arith, few, k.ensures.0);
        room = omega (arith, c.in_ok-check_room.ensures, c.file_bytes-size.ensures (cells_of s), few);
      },
    )

pub returns : goal.returns
returns c =
    let k = c.order-k in
    let at = (goal.at.returns c).After-file_bytes-size in
    rw (size at) (tidy_written c.args.entries.now.file.now c.requires.accepted k.new.w1 k.result (words at) k.ensures.1
    c.args.store.now c.args.entries.now.cells (omega (arith, size at, c.in_ok-check_room.ensures))
    (c.write_words.ensures _ plain_store))
