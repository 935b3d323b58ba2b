-- `enter` empties the table and fills it.
use Rattle.std.proofs.Common.{◌∙◌}
use Rattle.partners.proofs.Entering.{filled_on}
use Rattle.partners.proofs.table.Table.enter.Goals as goal

pub fill-requires : goal.fill-requires
fill-requires c = c.clear.ensures.0

pub returns : goal.returns
returns c = (filled_on c.clear.ensures.1 c.fill.ensures.0, c.fill.ensures.1 ∙ c.clear.ensures.2)
