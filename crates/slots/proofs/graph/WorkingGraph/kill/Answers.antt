-- `kill` clears the weight of a live slot and takes its keys from the sums of its cells.
use mathlib.Core.Path.{refl}
use native.Mathlib.Omega.{arith}
use Rattle.slots.specs.Slots.{store}
use Rattle.slots.proofs.Weights.{low_sum, high_sum, kill_holds}
use Rattle.slots.proofs.graph.WorkingGraph.kill.Goals as goal

pub take_keys-requires : goal.take_keys-requires
take_keys-requires c = let a = c.args in
    let g = a.self.now in
    let h = g.holds in
    let w = store g.w1.now g.w2.now in
    let q = c.cells-cells.ensures in
    let k = h.slots.cells a.i c.requires.0 in
    rw (q.0, q.1) (
      h.room2,
      omega (arith, h.slots.most),
      k.0,
      k.1,
      low_sum w g.slots h.slots a.i c.requires.0 c.requires.1,
      high_sum w g.slots h.slots a.i c.requires.0 c.requires.1,
    )

pub invariant_of-self : goal.invariant_of-self
invariant_of-self c = let a = c.args in
    let g = a.self.now in
    let k = c.take_keys in
    let q = c.cells-cells.ensures in
    let added = rw (q.0, q.1) at k.ensures in
    let s = kill_holds g.w1.now g.w2.now _ _ g.slots a.i 0 g.holds c.requires.0 c.requires.1 refl (omega arith)
    k.auto.w2 refl added in
    record { holds = s.holds }

pub returns : goal.returns
returns c = let a = c.args in
    let g = a.self.now in
    let k = c.take_keys in
    let q = c.cells-cells.ensures in
    let added = rw (q.0, q.1) at k.ensures in
    let s = kill_holds g.w1.now g.w2.now _ _ g.slots a.i 0 g.holds c.requires.0 c.requires.1 refl (omega arith)
    k.auto.w2 refl added in
    (record { slots = refl; graph = s.graph; aside = s.aside; buffers = record { first = refl; second = refl } }, refl)
