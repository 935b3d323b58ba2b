-- `is_free` reads whether x has one.
use Rattle.partners.proofs.Held.{table_free}
use Rattle.partners.proofs.table.Table.is_free.Goals as goal

pub returns : goal.returns
returns c = λ o m h. table_free c.args.self.now.words.now c.args.x c.requires o m h
