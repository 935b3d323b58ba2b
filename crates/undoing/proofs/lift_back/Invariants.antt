-- `lift_back` undoes the last step until none is left. Invariant: going back on what is left of the trail, from
-- the pairing that is in the table, has the outcome of the whole way back.
use Rattle.partners.specs.Table.{SameBuffer}
use Rattle.undoing.specs.Back.{BackThere}
use Rattle.undoing.proofs.Backing.{Onward}
use Rattle.undoing.proofs.lift_back.Given as goal

abbrev pub invariant-loop-number : goal.invariant-loop-number
invariant-loop-number l =
    SameBuffer l.fn.table l.table
    × ((b : BackThere l.t l.steps l.initial.w1 l.fn.table.words.now)
    → Onward b l.left l.number l.w1 l.table.words.now)
