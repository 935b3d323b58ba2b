-- `load` stores the word of one entry after the other.
use Rattle.std.proofs.Common.{◌<◌, ◌∙◌, arith, length-set}
use Rattle.cellfile.specs.Files.{count_of}
use Rattle.tidying.proofs.Words.{load_next, load_end}
use Rattle.tidying.proofs.parts.load.Goals as goal

pub loop-i-preserved : goal.loop-i-preserved
loop-i-preserved c =
    let below : c.loop-i.i < count_of c.args.entries.now.file.now = omega (arith, c.args.entries.now.whole.count) in
    let l = c.loop-i in record {
      long = length-set l.w1 l.i _ ∙ l.invariant.long;
      words = l.invariant.words
          ∙ load_next _ l.i _ l.w1 below c.get.ensures c.entry_word.ensures
          (omega (arith, l.invariant.long, c.requires));
    }

pub returns : goal.returns
returns c = let l = c.loop-i in
    load_end _ l.w1 l.i c.args.entries.now.whole.count (omega arith) c.loop-i-test.false l.invariant.words
