-- `walk` goes on while it may.
use mathlib.Core.Path.{sym, ◌∙◌}
use mathlib.Core.Logic.{inl, inr}
use native.Mathlib.Omega.{arith}
use Rattle.slots.proofs.Graphs.{holds_graph}
use Rattle.finding.proofs.Walks.{walk_on, walk_out, walk_stops, stretch_ends}
use Rattle.finding.proofs.walk.Goals as goal
use Rattle.finding.proofs.walk.Goals.{then-at-low-via-then-at-low, then-at-low-via-else-at-low+then-degree-ne2}

pub loop-preserved : goal.loop-preserved
loop-preserved c = walk_on c.loop.invariant (omega arith) (omega arith) (sym c.degree.ensures ∙ c.if-degree-ne2.false)
    c.onward-at.ensures

pub returns-after-loop : goal.returns-after-loop
returns-after-loop c = walk_out c.loop.invariant (omega arith)

pub returns-then-at-low : goal.returns-then-at-low
returns-then-at-low c = let s = c.loop.at in
    walk_stops c.loop.invariant
    (stretch_ends (holds_graph c.args.graph.now.holds) c.args.low _ s.last s.end
    (elim c.then-at-low.branch [
      | then-at-low-via-then-at-low w ↦ inl w.if-at-low.true
      | then-at-low-via-else-at-low+then-degree-ne2 w ↦ inr (λ q. w.if-degree-ne2.true (w.degree.ensures ∙ q))
    ]))
