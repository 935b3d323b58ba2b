-- `lowest_near` at its end: no slot is left.
use Rattle.std.proofs.Common.{rules}
use Rattle.bounds.proofs.Quiet.{lows_end, lows_or}
use Rattle.bounds.proofs.lowest_near.Goals as goal

pub returns-in_default : goal.returns-in_default
returns-in_default c = lows_end (rw c.in_default.is at c.loop.invariant)

pub returns : goal.returns
returns c = lows_or c.loop.next _ c.loop.invariant c.map_or.ensures (λ i q. search rules)
