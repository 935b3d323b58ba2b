-- `join_marked` by its mark.
use Rattle.origins.specs.Stamps.{as_origin}
use Rattle.undoing.proofs.Mating.{join_one, join_not}
use Rattle.undoing.proofs.join_marked.Goals as goal

pub returns-then-mark-eq1-clause-joined : goal.returns-then-mark-eq1-clause-joined
returns-then-mark-eq1-clause-joined c =
    let a = c.args in
    join_one a.mark a.x a.y (as_origin a.origin) a.table.now.words.now c.if-mark-eq1.true c.join.ensures.joined

pub returns-else-mark-eq1-clause-joined : goal.returns-else-mark-eq1-clause-joined
returns-else-mark-eq1-clause-joined c =
    let a = c.args in
    join_not a.mark a.x a.y (as_origin a.origin) a.table.now.words.now c.if-mark-eq1.false
