-- `named` where there is a slip, by its count.
use Rattle.std.proofs.Common.{rules}
use Rattle.std.proofs.lemmas.Option.{IfSome_then}
use Rattle.running.proofs.Course.{named_is}
use Rattle.running.proofs.named.Goals as goal

pub returns : goal.returns
returns c = let s = c.in_ok-steps.steps.now in
    rw c.in_ok-steps.was
    (named_is s.file.now c.args.k s.whole c.then.result c.then.ensures.variant
    (IfSome_then c.then.result c.then.ensures.some (λ t p. search rules)))
