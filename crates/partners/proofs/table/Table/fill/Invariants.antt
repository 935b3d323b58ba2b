-- `fill` enters pair after pair. Invariant: the pairs before place i stand in the table, no cell of them twice.
use Rattle.std.proofs.Common.{drop}
use Rattle.cellfile.specs.Files.{pairs_of}
use Rattle.partners.specs.Table.{SameBuffer}
use Rattle.partners.proofs.Filling.{Filling}
use Rattle.partners.proofs.table.Table.fill.Given as goal

abbrev pub invariant-loop-i : goal.invariant-loop-i
invariant-loop-i l = let all = pairs_of l.pairs.file.now in record {
  same : SameBuffer l.fn.self l.self;
  filling : Filling all (drop l.i all) l.fn.self.words.now l.self.words.now;
}
