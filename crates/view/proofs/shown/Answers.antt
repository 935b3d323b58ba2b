-- `shown` answers the count of a list that the check accepts, and 0 of one that it refuses.
use Rattle.std.proofs.Common.{rules}
use Rattle.std.proofs.lemmas.Result.{MatchResult-weaker}
use Rattle.view.proofs.Serves.{shown_checked}
use Rattle.view.proofs.shown.Goals as goal

pub returns : goal.returns
returns c = let l = c.check_list in
    shown_checked c.args.list.now l.result _ l.ensures.refusal l.ensures.list
    (MatchResult-weaker l.result c.map_or.ensures (λ x p. search rules) (λ x p. p))
