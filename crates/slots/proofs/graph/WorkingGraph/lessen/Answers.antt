-- `lessen` takes p from the weight of a slot; where nothing is left the pair goes, and a gone slot stays as it is.
use mathlib.Core.Path.{refl}
use Prim.Native.Nat.{◌-◌}
use native.Mathlib.Omega.{arith}
use lib.ListN.{get_or}
use Rattle.slots.proofs.Weights.{lessen_holds}
use Rattle.slots.proofs.graph.WorkingGraph.lessen.Goals as goal

pub invariant_of-self : goal.invariant_of-self
invariant_of-self c = let a = c.args in
    let w = a.self.now in
    record {
      holds = lessen_holds w.w1.now w.w2.now _ _ w.slots a.i (get_or w.w1.now a.i 0 - a.p) w.holds
          c.requires (omega arith) refl (omega arith) refl refl (omega arith);
    }
