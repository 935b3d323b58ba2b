-- `pack` appends each live slot anew.
use native.Mathlib.Omega.{arith}
use Rattle.slots.proofs.Packing.{pack_start, pack_cells, pack_absent, pack_live, pack_dead, pack_end}
use Rattle.slots.proofs.graph.WorkingGraph.pack.Goals as goal
use Rattle.slots.proofs.graph.WorkingGraph.pack.Goals.{then-w-gt0, else-w-gt0}

pub loop-i-init : goal.loop-i-init
loop-i-init c = let n = c.clear.ensures in pack_start n.0 n.1 n.2 n.3

pub append-requires : goal.append-requires
append-requires c = let l = c.loop-i in
    let q = c.cells-cells.ensures in
    let t = c.loop-i-test.true in
    let k = pack_cells l.invariant t in
    rw (q.0, q.1) (
      omega (arith, l.invariant.fewer, c.args.self.now.holds.slots.most),
      c.if-w-gt0.true,
      k.0,
      k.1,
      pack_absent l.invariant t,
    )

pub loop-i-preserved : goal.loop-i-preserved
loop-i-preserved c = let l = c.loop-i in
    let t = c.loop-i-test.true in
    elim c.if-w-gt0.branch [
      | then-w-gt0 w ↦ let q = w.cells-cells.ensures in
          let e = w.append.ensures in
          rw w.self-is (pack_live l.invariant t q.0 q.1 w.if-w-gt0.true e.0 e.1)
      | else-w-gt0 w ↦ rw w.self-is (pack_dead l.invariant t (omega (arith, w.if-w-gt0.false)))
    ]

pub returns : goal.returns
returns c = pack_end c.loop-i.invariant (omega arith)
