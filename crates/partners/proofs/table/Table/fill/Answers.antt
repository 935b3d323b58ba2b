-- `fill` enters pair after pair.
use Rattle.std.proofs.Common.{◌+◌, ◌<◌, ◌∷◌, refl, arith, drop}
use Rattle.cellfile.specs.Files.{pairs_of, count_of}
use Rattle.partners.proofs.Filling.{Filling, fill_start, fill_here, fill_last, fill_twice_a, fill_twice_b}
use Rattle.partners.proofs.Filling.{fill_next}
use Rattle.partners.proofs.table.Table.fill.Goals as goal
use Rattle.partners.proofs.table.Table.fill.Goals.{After-get-p}

-- the table and the pair read, before it is entered
before : (c : After-get-p)
    → Filling (pairs_of c.args.pairs.now.file.now)
    ((c.get-p.result.a, c.get-p.result.b) ∷ drop (c.loop-i.i + 1) (pairs_of c.args.pairs.now.file.now))
    c.args.self.now.words.now c.loop-i.self.words.now
before c =
    let below : c.loop-i.i < count_of c.args.pairs.now.file.now = omega (arith, c.args.pairs.now.whole.count) in
    fill_here _ _ c.loop-i.i c.loop-i.invariant.filling below c.get-p.ensures

pub loop-i-init : goal.loop-i-init
loop-i-init c = record {
  same = refl;
  filling = fill_start (pairs_of c.args.pairs.now.file.now) c.args.self.now.words.now c.requires;
}

pub returns-then-self-p-ne0 : goal.returns-then-self-p-ne0
returns-then-self-p-ne0 c =
    let p = c.get-p.ensures.fits in
    let b = before (goal.at.returns-then-self-p-ne0 c).After-get-p in
    (fill_twice_a b c.loop-i.self.room p.a p.b c.if-self-p-ne0.true, c.loop-i.invariant.same)

pub returns-then-self-p-ne0-2 : goal.returns-then-self-p-ne0-2
returns-then-self-p-ne0-2 c =
    let p = c.get-p.ensures.fits in
    let b = before (goal.at.returns-then-self-p-ne0-2 c).After-get-p in
    (fill_twice_b b c.loop-i.self.room p.a p.b c.if-self-p-ne0-2.true, c.loop-i.invariant.same)

pub loop-i-preserved : goal.loop-i-preserved
loop-i-preserved c =
    let l = c.loop-i in
    let p = c.get-p.ensures.fits in
    let b = before (goal.at.loop-i-preserved c).After-get-p in record {
      same = l.invariant.same;
      filling = fill_next b l.self.room p.a p.b c.if-self-p-ne0.false c.if-self-p-ne0-2.false;
    }

pub returns : goal.returns
returns c = (
  fill_last _ _ c.loop-i.i c.loop-i.invariant.filling
      (omega (arith, c.args.pairs.now.whole.count, c.loop-i-test.false)),
  c.loop-i.invariant.same,
)
