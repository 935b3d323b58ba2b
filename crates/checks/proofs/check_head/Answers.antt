-- `check_head` answers the first of refusals 2 to 4.
use Rattle.std.proofs.Common.{arith}
use Rattle.std.proofs.lemmas.Bool.Decides.{nat_tests}
use Rattle.checks.specs.Refusals.{is_no_list, is_too_large, wrong_length}
use Rattle.checks.proofs.check_head.Goals as goal

pub returns-then-list-lt-HEADER_BYTES-clause-refusal : goal.returns-then-list-lt-HEADER_BYTES-clause-refusal
unfolding is_no_list
returns-then-list-lt-HEADER_BYTES-clause-refusal c = grind (arith, nat_tests)

pub returns-then-h-from-clause-refusal : goal.returns-then-h-from-clause-refusal
unfolding is_no_list
returns-then-h-from-clause-refusal c =
    grind (arith, nat_tests, c.then-h-from.either, c.header_at-h.ensures, c.from.ensures)

pub returns-then-h-gt-MOST_CELLS-clause-refusal : goal.returns-then-h-gt-MOST_CELLS-clause-refusal
unfolding is_no_list is_too_large
returns-then-h-gt-MOST_CELLS-clause-refusal c =
    grind (arith, nat_tests, c.then-h-gt-MOST_CELLS.either, c.header_at-h.ensures, c.from.ensures)

pub returns-then-list-list_bytes-clause-refusal : goal.returns-then-list-list_bytes-clause-refusal
unfolding is_no_list is_too_large wrong_length
returns-then-list-list_bytes-clause-refusal c =
    grind (arith, nat_tests, c.header_at-h.ensures, c.from.ensures, c.list_bytes.ensures)

pub returns-clause-refusal : goal.returns-clause-refusal
unfolding is_no_list is_too_large wrong_length
returns-clause-refusal c =
    grind (arith, nat_tests, c.header_at-h.ensures, c.from.ensures, c.list_bytes.ensures, c.if-list-list_bytes.false)
