-- `count_of` where there is a slip.
use Rattle.std.proofs.Common.{◌≡◌, ◌∙◌, sym, rules}
use Rattle.running.proofs.Course.{names_count, steps_in_count}
use Rattle.running.proofs.count_of.Goals as goal

pub returns : goal.returns
returns c =
    steps_in_count c.args.slip _ c.map_or.ensures
    (λ r p. let e : c.map_or.result ≡ r.now.count = search rules in
    e ∙ r.now.whole.count ∙ sym (names_count r.now.file.now))
