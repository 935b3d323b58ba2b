-- `ruled_out` walks both ways in turns.
use mathlib.Core.Path.{sym, ◌∙◌}
use mathlib.Core.Logic.{inl, inr, ⊎_elim}
use Rattle.std.proofs.Common.{rules}
use Rattle.slots.proofs.Graphs.{holds_graph}
use Rattle.finding.proofs.Rowed.{chain_left}
use Rattle.finding.proofs.Lower.{seen_some, turns_start, turns_on, lower_chain, lower_two, lower_other}
use Rattle.finding.proofs.Lower.{met_chain, met_lowest}
use Rattle.finding.proofs.ruled_out.Goals as goal
use Rattle.finding.proofs.ruled_out.Goals.{then-way-z+else-ne+in_default, then-way-z+else-ne+in_default-2, else-way-z}

pub loop-init : goal.loop-init
loop-init c = let s = c.requires in
    turns_start c.args.graph.now.holds s.3 s.4 s.0 s.1 (rw c.turned.ensures at c.onward-other.ensures)

pub returns-then-way-other : goal.returns-then-way-other
returns-then-way-other c = let s = c.requires in
    let g = holds_graph c.args.graph.now.holds in
    let p = c.loop.invariant.passed in
    let a = c.if-way-other.true in
    λ q. let m = c.ring_rules_out.ensures q in
    ⊎_elim (λ n. met_chain g p (chain_left _ s.3 n) a m.0) (λ k. met_lowest g p _ s.3 a m.0 k) m.1

pub returns-then-degree-ne2 : goal.returns-then-degree-ne2
returns-then-degree-ne2 c = let l = c.loop in
    λ q. lower_other _ l.way.end c.requires.3 (seen_some l.seen l.invariant.lower (sym c.is_some.ensures ∙ q)).1
    l.invariant.here.on (λ k. c.if-degree-ne2.true (c.degree.ensures ∙ k))

pub loop-preserved : goal.loop-preserved
loop-preserved c = let s = c.requires in
    turns_on c.args.graph.now.holds s.3 c.loop.invariant
    (sym c.degree.ensures ∙ c.if-degree-ne2.false)
    (elim c.if-way-z.branch [
      | then-way-z+else-ne+in_default w ↦ inl (w.if-way-z.true, w.seen-is)
      | then-way-z+else-ne+in_default-2 w ↦ inl (w.if-way-z.true, w.seen-is)
      | else-way-z w ↦ inr (w.if-way-z.false, w.seen-is)
    ]) c.onward-on.ensures

pub returns-then-ne : goal.returns-then-ne
returns-then-ne c = λ q. lower_chain (chain_left _ c.requires.3 (search rules)) (record {
  on = c.loop.invariant.here.on;
  below = c.if-way-z.true;
  two = sym c.degree.ensures ∙ c.if-degree-ne2.false;
})

pub returns-in-Some : goal.returns-in-Some
returns-in-Some c =
    λ q. lower_two _ c.requires.3 (rw c.in-Some.is at c.loop.invariant.lower) (record {
      on = c.loop.invariant.here.on;
      below = c.if-way-z.true;
      two = sym c.degree.ensures ∙ c.if-degree-ne2.false;
    }) c.if-lower-way.true
