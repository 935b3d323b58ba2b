-- `record_of` makes the record of the partner and the stamp in the word.
use Rattle.std.proofs.Common.{◌∙◌, arith}
use Rattle.partners.proofs.Tags.{record_is, record_small}
use Rattle.partners.proofs.record_of.Goals as goal

pub word-requires : goal.word-requires
word-requires c = let r = c.requires in (r.0, omega (arith, r), record_small c.args.word r.3 c.of_stamp-origin.ensures)

pub returns : goal.returns
returns c = let a = c.args in c.word.ensures ∙ record_is a.a a.word c.of_stamp-origin.ensures
