-- `mark_ring` marks the ring less u, or the ring, by its first pair left out or taken.
use mathlib.Core.Path.{refl, sym, ap₂, ◌∙◌}
use Rattle.matching.specs.Best.{pays, tie}
use Rattle.rows.proofs.Parts.{ring_less, ring_out, ring_in}
use Rattle.rows.proofs.Row.mark_ring.Goals as goal

pub returns-then-less_u : goal.returns-then-less_u
returns-then-less_u c = λ w u inner r.
    rw (c.if-less_u.true, c.mark_part.ensures) (ring_less c.args.self.words.now w u inner r _ refl)

pub returns-then-pays : goal.returns-then-pays
returns-then-pays c = λ w u inner r.
    let tested = sym (c.pays.ensures ∙ ap₂ (pays tie) c.ring_ways.ensures.0 c.ring_ways.ensures.1) in
    rw (c.if-less_u.false, c.mark_part-then-pays.ensures)
    (ring_in c.args.self.words.now w u inner r _ refl (tested ∙ c.if-pays.true))

pub returns-else-pays : goal.returns-else-pays
returns-else-pays c = λ w u inner r.
    let tested = sym (c.pays.ensures ∙ ap₂ (pays tie) c.ring_ways.ensures.0 c.ring_ways.ensures.1) in
    rw (c.if-less_u.false, c.mark_part-else-pays.ensures)
    (ring_out c.args.self.words.now w u inner r _ refl (tested ∙ c.if-pays.false))
