-- `has` reads the partner of x.
use Rattle.partners.proofs.Held.{table_held}
use Rattle.partners.proofs.table.Table.has.Goals as goal

pub returns : goal.returns
returns c = λ o m h. table_held c.args.self.now.words.now c.args.x c.requires.0 o m h c.args.y
