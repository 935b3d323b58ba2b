-- `seek` passes the entries before the pair.
use Rattle.std.proofs.Common.{◌<◌, arith, ◌∙◌}
use Rattle.cellfile.specs.Files.{count_of}
use Rattle.checks.proofs.Merge.{sought_end, sought_here}
use Rattle.checks.proofs.seek.Goals as goal

pub returns-then-have-want : goal.returns-then-have-want
returns-then-have-want c =
    let below : c.loop-at.at < count_of c.args.entries.now.file.now = omega (arith, c.args.entries.now.whole.count) in
    record {
      is = c.loop-at.invariant ∙ sought_here _ _ c.loop-at.at below _ c.get-e.ensures c.if-have-want.true;
      fits = (c.get-e.ensures.points_fit, omega (arith, below));
    }

pub returns : goal.returns
returns c = record {
  is = c.loop-at.invariant
      ∙ sought_end _ _ c.loop-at.at (omega (arith, c.args.entries.now.whole.count, c.loop-at-test.false));
  fits = tt;
}
