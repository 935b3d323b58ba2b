-- `enter` by whether a pair is missing, and whether a cell stands twice.
use mathlib.Core.Bool.{true≢false}
use Rattle.std.proofs.Common.{refl, arith}
use Rattle.slots.proofs.Holding.{holds_kept}
use Rattle.partners.proofs.Entering.{missing_is, filled_is}
use Rattle.partners.proofs.enter.Goals as goal

pub returns-then-is_missing : goal.returns-then-is_missing
returns-then-is_missing c = record {
  answer = rw (missing_is _ _ c.is_missing.ensures c.if-is_missing.true);
  mates = λ e. absurd (true≢false e);
  aside = λ j l. refl;
  slots = refl;
  first_kept = refl;
  buffers = record { first = refl; second = refl };
}

pub invariant_of-graph : goal.invariant_of-graph
invariant_of-graph c = let g = c.args.graph.now in
    record {
      holds = holds_kept g.holds _ (omega (arith, g.holds.room2, c.enter_pairs.auto.w2))
          (λ j a b. c.enter_pairs.ensures.aside j (omega arith));
    }

pub returns : goal.returns
returns c = record {
  answer = filled_is _ _ c.is_missing.ensures c.if-is_missing.false c.enter_pairs.ensures.answer;
  mates = c.enter_pairs.ensures.mates;
  aside = c.enter_pairs.ensures.aside;
  slots = refl;
  first_kept = refl;
  buffers = record { first = refl; second = refl };
}
