-- `chain_points` answers H of the chain and of its three parts.
use mathlib.Core.Path.{◌∙◌}
use Rattle.rows.proofs.Parts.{chain_h}
use Rattle.rows.proofs.Row.chain_points.Goals as goal

pub returns : goal.returns
returns c = λ w u inner v r n.
    let h = chain_h c.args.self.words.now w u inner v r n in
    record {
      whole = c.path_points.ensures.0 ∙ h.0;
      less_u = c.path_points-2.ensures.0 ∙ h.1;
      less_v = c.path_points-3.ensures.0 ∙ h.2;
      inner_only = c.path_points-4.ensures.0 ∙ h.3;
    }
