-- `append` stores the words of the next slot, which link it to the last slots of its cells, makes it the last of both,
-- and adds its keys.
use mathlib.Core.Path.{refl, ◌∙◌}
use Prim.Native.Nat.{◌+◌}
use native.Mathlib.Omega.{arith}
use Rattle.buffers.specs.Map.{at_sums}
use Rattle.slots.proofs.Stores.{elsewhere_both, as_long_both}
use Rattle.slots.proofs.Appending.{last_most, sum_most, append_holds}
use Rattle.slots.proofs.graph.WorkingGraph.append.Goals as goal

pub cell_word-x-requires : goal.cell_word-x-requires
cell_word-x-requires c = let a = c.args in (
  omega arith,
  omega arith,
  last_most a.self.now.holds a.a (omega arith),
  last_most a.self.now.holds a.b (omega arith),
)

pub add_keys-requires : goal.add_keys-requires
add_keys-requires c = let a = c.args in
    let h = a.self.now.holds in
    let q = c.set_lasts.ensures in (
      omega (arith, h.room2, as_long_both a.self.now.w2.now _ _ _ _ q),
      omega arith,
      omega arith,
      omega arith,
      omega (
        arith,
        elsewhere_both a.self.now.w2.now _ _ _ _ q (at_sums + a.a) (omega arith) (omega arith),
        sum_most h a.a (omega arith),
      ),
      omega (
        arith,
        elsewhere_both a.self.now.w2.now _ _ _ _ q (at_sums + a.b) (omega arith) (omega arith),
        sum_most h a.b (omega arith),
      ),
    )

pub invariant_of-self : goal.invariant_of-self
invariant_of-self c = let p = c.requires in
    let k = append_holds c.args.self.now.holds p.0 p.1 p.2 p.3 p.4 refl refl c.cell_word-x.ensures
    c.set_slot.ensures c.set_lasts.ensures c.add_keys.ensures
    (c.add_keys.auto.w2 ∙ as_long_both c.args.self.now.w2.now _ _ _ _ c.set_lasts.ensures) in
    record { holds = k.holds }

pub returns : goal.returns
returns c = let p = c.requires in
    let k = append_holds c.args.self.now.holds p.0 p.1 p.2 p.3 p.4 refl refl c.cell_word-x.ensures
    c.set_slot.ensures c.set_lasts.ensures c.add_keys.ensures
    (c.add_keys.auto.w2 ∙ as_long_both c.args.self.now.w2.now _ _ _ _ c.set_lasts.ensures) in (
      record { slots = refl; graph = k.graph; aside = k.aside; buffers = record { first = refl; second = refl } },
      elsewhere_both c.args.self.now.w1.now _ _ _ _ c.set_slot.ensures,
    )
