-- `get` hands on the part that starts at the entry.
use Rattle.cellfile.proofs.Lists.{entry_is}
use Rattle.cellfile.proofs.records.Entries.get.Goals as goal

pub returns : goal.returns
returns c = entry_is _ _ _ c.shape_of-start.ensures c.args.self.now.whole c.requires _ c.entry_at.ensures
