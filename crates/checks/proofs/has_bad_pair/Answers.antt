-- `has_bad_pair` is what refusal 9 says of a pairing's entries.
use Rattle.std.proofs.Common.{sym, arith, ◌∙◌}
use Rattle.checks.proofs.Parts.{pairs_end}
use Rattle.checks.proofs.has_bad_pair.Goals as goal

pub returns : goal.returns
returns c =
    let pairs = c.args.pairs.now in
    sym (c.loop-i.invariant.rest
    ∙ pairs_end c.args.n c.loop-i.low pairs.file.now c.loop-i.i (omega (arith, pairs.whole.count, c.loop-i-test.false)))
