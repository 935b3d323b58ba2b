-- `begin_slip` answers the first of refusals 1 to 7, or what `take_steps` answers.
use native.Mathlib.Omega.{arith}
use Rattle.starting.proofs.Starts.{slip_checked, slip_starts}
use Rattle.buffers.specs.Buffers.{lent}
use Rattle.checks.specs.Refusals.{too_few_words}
use Rattle.starting.proofs.begin_slip.Goals as goal

pub take_steps-requires : goal.take_steps-requires
take_steps-requires c =
    let e = c.in_ok-store.ensures.enough in
    (e.0, e.1, omega arith)

pub returns : goal.returns
returns c =
    let a = c.args in
    let store = c.in_ok-store.store in
    let same = c.in_ok-store.ensures.list in
    let few = too_few_words (lent a.w1.now a.w2.now) in
    let seven = slip_checked a.slip.now same store.entries.cells c.from.ensures c.from-2.ensures
    c.in_ok-steps.ensures.refusal in
    let slip = c.in_ok-steps.ensures.slip in
    slip_starts few a.list.now a.slip.now _ _ c.take_steps.result c.in_ok-store.ensures.refusal seven
    (rw (same, slip) at c.take_steps.ensures)
