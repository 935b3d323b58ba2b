-- `is_missing` looks each pair up in the graph.
use Rattle.std.proofs.Common.{◌∙◌, arith, rules}
use Rattle.cellfile.specs.Files.{pairs_of}
use Rattle.cellfile.proofs.Walk.{pairs_count}
use Rattle.checks.proofs.Places.{any_from_places, same_two}
use Rattle.partners.proofs.Lacking.{is_lacked, lacks_at, lacks_any}
use Rattle.partners.proofs.is_missing.Goals as goal

pub returns : goal.returns
returns c =
    let s = c.args.pairs.now.file.now in
    let e = c.args.graph.now.slots in
    let w1 = c.args.graph.now.w1.now in
    any_from_places (is_lacked e w1) (pairs_of s) (0, 0) _ _ _ _ c.any.ensures.ran
    (omega (arith, c.args.pairs.now.whole.count, pairs_count s))
    (λ i b q h. search (rules, lacks_at c.args.graph.now.holds, same_two))
    ∙ lacks_any e w1 (pairs_of s)
