-- `matched` looks each pair up behind the one before it.
use Rattle.std.proofs.Common.{◌<◌, ◌∙◌, sym, arith}
use Rattle.cellfile.specs.Files.{count_of}
use Rattle.checks.proofs.Accepted.{count_fits}
use Rattle.weighing.proofs.Matched.{merged_end, merged_out, merged_next}
use Rattle.weighing.proofs.parts.matched.Goals as goal
use Rattle.weighing.proofs.parts.matched.Goals.{In-loop-j}

below : (c : In-loop-j) → c.loop-j.j < count_of c.args.pairs.now.file.now
below c = omega (arith, c.args.pairs.now.whole.count)

pub returns-in_default : goal.returns-in_default
returns-in_default c =
    let l = c.loop-j in
    let b = below (goal.at.returns-in_default c).In-loop-j in
    sym (l.invariant.rest ∙ merged_out _ _ l.from l.j l.sum b _ c.get-p.ensures c.in_default.ensures)

pub overflow_add-sum : goal.overflow_add-sum
overflow_add-sum c =
    let b = below (goal.at.overflow_add-sum c).In-loop-j in
    omega (arith, c.loop-j.invariant.fits, c.in-Some.ensures.fits.0, b, count_fits c.args.pairs.now.file.now)

pub loop-j-preserved : goal.loop-j-preserved
loop-j-preserved c =
    let l = c.loop-j in
    let b = below (goal.at.loop-j-preserved c).In-loop-j in
    let f = c.in-Some.ensures in record {
      from_fits = omega (arith, f.fits.1, c.args.entries.now.whole.count);
      fits = omega (arith, l.invariant.fits, f.fits.0);
      rest = l.invariant.rest ∙ merged_next _ _ l.from l.j l.sum b _ c.get-p.ensures _ f;
    }

pub returns : goal.returns
returns c =
    let l = c.loop-j in
    let all = c.args.pairs.now.whole.count in
    sym (l.invariant.rest ∙ merged_end _ _ l.from l.j l.sum (omega (arith, all, c.loop-j-test.false)))
