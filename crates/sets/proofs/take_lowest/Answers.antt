-- `take_lowest`: the word of the set tells the partner of its lowest place.
use mathlib.Core.Path.{sym, ◌∙◌}
use Rattle.sets.proofs.Places.{without_first, next_within}
use Rattle.sets.proofs.Known.{ready_small}
use Rattle.sets.proofs.Taking.{partner_in, takes_alone, takes_pair}
use Rattle.sets.proofs.take_lowest.Goals as goal

pub lowest-low-requires : goal.lowest-low-requires
lowest-low-requires c = (let p = c.requires in (p.1, ready_small p.0))

pub overflow_sub-others : goal.overflow_sub-others
overflow_sub-others c = (without_first _ _ c.single.ensures c.lowest-low.ensures).0

pub single-requires-in-Some : goal.single-requires-in-Some
single-requires-in-Some c =
    (partner_in c.word_of.ensures.0 c.single.ensures c.lowest-low.ensures
    (sym c.partner-partner.ensures ∙ c.in-Some.is)).0

pub overflow_sub-rest : goal.overflow_sub-rest
overflow_sub-rest c =
    next_within _ _ c.single-in-Some.ensures
    (partner_in c.word_of.ensures.0 c.single.ensures c.lowest-low.ensures
    (sym c.partner-partner.ensures ∙ c.in-Some.is)).1

pub returns-in-None : goal.returns-in-None
returns-in-None c =
    let h = c.word_of.ensures in
    rw c.in-None.is
    (takes_alone h.0 c.single.ensures c.lowest-low.ensures (sym c.partner-partner.ensures ∙ c.in-None.is), h.1)

pub returns-in-Some : goal.returns-in-Some
returns-in-Some c = let h = c.word_of.ensures in (
  takes_pair h.0 c.single.ensures c.lowest-low.ensures (sym c.partner-partner.ensures ∙ c.in-Some.is)
      c.single-in-Some.ensures,
  h.1,
)
