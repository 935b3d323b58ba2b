-- `put_marked` goes from the last place on. Invariant: the marked pairs of the places from j on are in the table, and
-- `to` is the cell that place j starts from.
use Rattle.origins.specs.Stamps.{as_origin}
use Rattle.partners.specs.Table.{SameBuffer}
use Rattle.undoing.specs.Unwinding.{PutThere}
use Rattle.undoing.proofs.Marking.{Putting}
use Rattle.undoing.proofs.put_marked.Given as goal

abbrev pub invariant-loop-j : goal.invariant-loop-j
invariant-loop-j l =
    SameBuffer l.fn.table l.table
    × ((p : PutThere l.a l.v (as_origin l.origin) l.marks l.fn.table.words.now) → Putting p l.j l.to l.table.words.now)
