-- `headed` finds what refusals 7 and 9 say of a header.
use Rattle.std.proofs.Common.{arith}
use Rattle.std.proofs.lemmas.Bool.Decides.{nat_tests}
use Rattle.cellfile.specs.Files.{cells_of}
use Rattle.checks.specs.Refusals.{misheaded}
use Rattle.checks.proofs.headed.Goals as goal

pub returns-then-file-lt-HEADER_BYTES : goal.returns-then-file-lt-HEADER_BYTES
unfolding misheaded
returns-then-file-lt-HEADER_BYTES g c = grind (arith, nat_tests)

pub returns-then-h-from : goal.returns-then-h-from
unfolding misheaded
returns-then-h-from g c =
    grind (arith, nat_tests, c.then-h-from.either, c.header_at-h.ensures, c.from.ensures, c.KIND.ensures)

pub returns-then-file-file_bytes : goal.returns-then-file-file_bytes
unfolding misheaded
returns-then-file-file_bytes g c =
    let long = c.file_bytes.ensures (cells_of c.args.file.now) in
    grind (arith, nat_tests, long, c.KIND-2.ensures, c.header_at-h.ensures, c.from.ensures, c.KIND.ensures)

pub returns : goal.returns
unfolding misheaded
returns g c =
    let long = c.file_bytes.ensures (cells_of c.args.file.now) in
    grind (
      arith,
      nat_tests,
      long,
      c.KIND-2.ensures,
      c.header_at-h.ensures,
      c.from.ensures,
      c.KIND.ensures,
      c.new.ensures,
    )
