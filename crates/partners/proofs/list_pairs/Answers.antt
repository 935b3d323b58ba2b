-- `list_pairs` goes over the cells.
use Rattle.std.proofs.Common.{arith, refl, length-set}
use Rattle.partners.proofs.Tabled.{read_start, read_pair, read_none, read_end, table_word}
use Rattle.partners.proofs.list_pairs.Goals as goal
use Rattle.partners.proofs.list_pairs.Goals.{then-low-p, else-low-p}

pub loop-c-init : goal.loop-c-init
loop-c-init c = let a = c.args in record { long = refl; read = read_start a.n a.table.now.words.now a.w1.now }

pub record_of-requires : goal.record_of-requires
record_of-requires c =
    let t = c.requires.2 in
    let k = c.loop-c-test.true in
    let w = table_word t c.loop-c.c k in
    (omega (arith, t.cells, k), omega (arith, c.if-low-p.true), w.0, w.1)

pub loop-c-preserved : goal.loop-c-preserved
loop-c-preserved c =
    let l = c.loop-c in
    let t = c.requires.2 in
    let k = c.loop-c-test.true in
    elim c.if-low-p.branch [
      | then-low-p w ↦ rw (w.w1-is, w.r-is) (record {
        long = rw length-set (rw length-set l.invariant.long);
        read = read_pair l.invariant.read k t.cells (omega (arith, l.invariant.long, t.room1))
            (omega (arith, w.if-low-p.true)) refl w.record_of.ensures;
      })
      | else-low-p w ↦ rw (w.w1-is, w.r-is) (record {
        long = l.invariant.long;
        read = read_none l.invariant.read k (omega (arith, w.if-low-p.false));
      })
    ]

pub returns : goal.returns
returns c = λ o m t. read_end c.loop-c.invariant.read c.loop-c-test.false t
