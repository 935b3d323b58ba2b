-- `begin_reduce` answers the first of refusals 1 to 6, or what `take_steps` answers.
use mathlib.Core.Path.{ap, ◌∙◌}
use native.Mathlib.Omega.{arith}
use Rattle.cellfile.specs.Files.{cells_of}
use Rattle.checks.proofs.Accepted.{accepted_list}
use Rattle.starting.proofs.Starts.{reduce_starts}
use Rattle.buffers.specs.Buffers.{lent}
use Rattle.checks.specs.Refusals.{too_few_words}
use Rattle.checks.specs.Calls.{call_rows}
use Rattle.starting.proofs.begin_reduce.Goals as goal

pub take_steps-requires : goal.take_steps-requires
take_steps-requires c =
    let store = c.in_ok-store.store in
    let e = c.in_ok-store.ensures.enough in
    let few = (accepted_list _ store.accepted).0 in
    (e.0, e.1, omega (arith, store.entries.cells, few))

pub returns : goal.returns
returns c =
    let a = c.args in
    let store = c.in_ok-store.store in
    let rows = call_rows (too_few_words (lent a.w1.now a.w2.now)) a.list.now in
    let same = c.in_ok-store.ensures.list in
    reduce_starts a.list.now (store.entries.cells ∙ ap cells_of same) _ _ rows c.take_steps.result
    c.in_ok-store.ensures.refusal
    (rw same at c.take_steps.ensures)
