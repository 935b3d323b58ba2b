-- `step_on` takes the key of slot i from the sum of c: what is left is the key of its other live slot.
use native.Mathlib.Omega.{arith}
use Rattle.slots.proofs.Stepping.{prev_low, sum_enough, step_next}
use Rattle.slots.proofs.graph.WorkingGraph.step_on.Goals as goal

pub key_of-requires : goal.key_of-requires
key_of-requires c = let h = c.args.self.now.holds in
    (prev_low h c.requires.0 c.requires.1, omega (arith, h.slots.most, c.requires.1.below))

pub overflow_sub-self : goal.overflow_sub-self
overflow_sub-self c = omega (arith, c.key_of.ensures, sum_enough c.args.self.now.holds c.requires.0 c.requires.1)

pub returns : goal.returns
returns c = let o = c.other_in.ensures in
    step_next c.args.self.now.holds c.requires.0 c.requires.1 c.requires.2 c.key_of.ensures _ o.1 o.0
