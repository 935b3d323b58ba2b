-- `mark_chain` marks the part of the words that the ends which must stay free leave.
use Prim.Native.Nat.{◌-◌}
use mathlib.Core.Path.{ap, ◌∙◌}
use lib.ListN.{length}
use Rattle.matching.specs.Best.{walk}
use Rattle.rows.specs.Row.{marked}
use Rattle.rows.proofs.Best.{one_if}
use Rattle.rows.proofs.Parts.{chain_marks}
use Rattle.rows.proofs.Row.mark_chain.Goals as goal

pub returns : goal.returns
returns c = λ w u inner v r n.
    let p = c.from-a.ensures ∙ one_if c.args.less_u in
    let q = ap (λ k. length c.args.self.words.now - k) (c.from.ensures ∙ one_if c.args.less_v) in
    ap (λ ms. marked ms (walk u inner v)) c.mark_part.ensures
    ∙ chain_marks c.args.self.words.now w u inner v r n c.args.less_u c.args.less_v _ _ p q
