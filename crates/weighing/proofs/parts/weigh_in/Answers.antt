-- `weigh_in` answers refusal 10, or the points.
use Rattle.std.proofs.Common.{◌≡◌, [], ◌∷◌, rules}
use mathlib.Core.Bool.{false}
use Rattle.buffers.specs.Buffers.{lent}
use Rattle.cellfile.specs.Files.{cells_of}
use Rattle.checks.specs.Refusals.{first}
use Rattle.checks.specs.Calls.{form_row}
use Rattle.weighing.proofs.Weights.{formed_of, pairs_twice, pairs_found, pairing_passed}
use Rattle.weighing.proofs.parts.weigh_in.Goals as goal
use Rattle.weighing.proofs.parts.weigh_in.Goals.{After-enter_pairs}

-- refusal 9 is passed
formed : (c : After-enter_pairs) → ◌≡◌ 0 (first (form_row (cells_of c.args.list.now) c.args.pairing.now ∷ []))
formed c = rw (c.in_ok-list.list.entries.cells, c.in_ok-list.ensures.list) at c.in_ok-pairs.ensures.refusal

pub returns : goal.returns
returns c = let a = c.args in
    let f = formed (goal.at.returns c).After-enter_pairs in
    let l = c.in_ok-list in
    let once : c.enter_pairs.result ≡ false = search rules in
    pairing_passed a.list.now a.pairing.now (lent a.w1.now a.w2.now) l.ensures.refusal f
    (pairs_found a.list.now a.pairing.now (rw l.ensures.list at l.list.accepted) (formed_of _ _ f)
    (rw c.in_ok-pairs.ensures.pairing at c.enter_pairs.ensures.answer) once
    (rw (l.ensures.list, c.in_ok-pairs.ensures.pairing) at c.matched.ensures))

pub returns-then-enter_pairs : goal.returns-then-enter_pairs
returns-then-enter_pairs c = let a = c.args in
    pairing_passed a.list.now a.pairing.now (lent a.w1.now a.w2.now) c.in_ok-list.ensures.refusal
    (formed (goal.at.returns-then-enter_pairs c).After-enter_pairs)
    (pairs_twice a.list.now a.pairing.now
    (rw c.in_ok-pairs.ensures.pairing at c.enter_pairs.ensures.answer) c.if-enter_pairs.true)
