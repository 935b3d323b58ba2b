-- Cells without slots hold the empty graph.
use mathlib.Core.Path.{refl}
use native.Mathlib.Omega.{arith}
use Rattle.slots.proofs.Graphs.{holds_none}
use Rattle.slots.proofs.Packing.{cleared_none, cleared_aside, cleared_long}
use Rattle.slots.proofs.graph.WorkingGraph.clear.Goals as goal

pub invariant_of-self : goal.invariant_of-self
invariant_of-self c = let g = c.args.self.now in
    let q = c.fill.ensures.after (λ y e. e) in
    let room = g.holds.room2 in
    record {
      holds = holds_none g.w1.now _ g.holds.room1 (omega (arith, cleared_long g.w2.now _ room q))
          (cleared_none g.w2.now _ room q);
    }

pub returns : goal.returns
returns c = let g = c.args.self.now in
    let q = c.fill.ensures.after (λ y e. e) in
    (refl, refl, cleared_aside g.w2.now _ g.holds.room2 q, record { first = refl; second = refl })
