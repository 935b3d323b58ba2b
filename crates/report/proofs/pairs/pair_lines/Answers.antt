-- `pair_lines` looks each pair up behind the one before it, and puts its line.
use Prim.Native.Nat.{◌<◌}
use native.Mathlib.Omega.{arith}
use Rattle.cellfile.specs.Files.{count_of}
use Rattle.report.proofs.Lines.{reach_none, reach_found, reach_next, reach_all}
use Rattle.report.proofs.pairs.pair_lines.Goals as goal
use Rattle.report.proofs.pairs.pair_lines.Goals.{In-loop-j}

below : (c : In-loop-j) → c.loop-j.j < count_of c.args.pairs.now.file.now
below c = omega (arith, c.args.pairs.now.whole.count)

pub loop-j-init : goal.loop-j-init
loop-j-init c = record { within = omega arith; reached = reach_none _ _ c.args.text.now.bytes c.requires.0 }

pub unreachable-requires : goal.unreachable-requires
unreachable-requires c =
    reach_found _ _ _ c.loop-j.invariant.reached (below (goal.at.unreachable-requires c).In-loop-j) _ c.get-p.ensures
    c.in_default.ensures

pub loop-j-preserved : goal.loop-j-preserved
loop-j-preserved c = record {
  within = omega (arith, c.in-Some.ensures.fits.1, c.args.entries.now.whole.count);
  reached =
      reach_next _ _ _ c.loop-j.invariant.reached (below (goal.at.loop-j-preserved c).In-loop-j) _ c.get-p.ensures _
      c.in-Some.ensures c.line.ensures.bytes;
}

pub returns : goal.returns
returns c =
    let all = c.args.pairs.now.whole.count in
    let l = c.loop-j.invariant.reached in
    let r = reach_all _ _ _ l (omega (arith, all, c.loop-j-test.false)) in
    record { lines = r.0; few = omega (arith, l.few, c.loop-j-test.false); total = r.1 }
