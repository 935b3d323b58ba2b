-- `serve` answers none past the count, and below it the entry of the list.
use Rattle.std.proofs.Common.{arith}
use Rattle.view.proofs.Serves.{served_past, served_room, served_here}
use Rattle.view.proofs.serve.Goals as goal

pub returns-then-v-place : goal.returns-then-v-place
returns-then-v-place c = let v = c.args.v in served_past v.list.now v.count c.args.place v.shows (omega arith)

pub new-entries-requires-clause-whole : goal.new-entries-requires-clause-whole
new-entries-requires-clause-whole c = let v = c.args.v in
    served_room v.list.now v.count c.args.place v.shows (omega arith)

pub returns : goal.returns
returns c = let v = c.args.v in
    served_here v.list.now v.count c.args.place v.shows (omega arith) (rw c.new-entries.ensures.file at c.get.ensures)
