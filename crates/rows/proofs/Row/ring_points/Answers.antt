-- `ring_points` answers H of the ring, by its first pair left out or taken, and of the ring less u.
use Prim.Native.Nat.{max}
use mathlib.Core.Path.{ap₂, ◌∙◌}
use Rattle.rows.proofs.Parts.{ring_h}
use Rattle.rows.proofs.Row.ring_points.Goals as goal

pub returns : goal.returns
returns c = λ w u inner r.
    let h = ring_h c.args.self.words.now w u inner r in
    record {
      whole = c.best.ensures ∙ ap₂ max c.ring_ways.ensures.0 c.ring_ways.ensures.1 ∙ h.0;
      less_u = c.path_points.ensures.0 ∙ h.1;
    }
