-- `clear` fills the table with 0.
use Rattle.std.proofs.Common.{refl}
use Rattle.partners.proofs.Filling.{emptied, emptied_only}
use Rattle.partners.proofs.table.Table.clear.Goals as goal

pub returns : goal.returns
returns c = let t = c.args.self.now in
    let q = c.fill.ensures.after (λ y e. e) in
    (emptied t.words.now _ t.room q, emptied_only t.words.now _ t.room q, refl)
