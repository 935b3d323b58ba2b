-- The words so far, and then those of the entries from place i on, are all.
use Rattle.std.proofs.Common.{◌≡◌, ◌++◌, map, length, take, drop}
use Rattle.cellfile.specs.Files.{entries_all}
use Rattle.tidying.specs.Words.{raw_word}
use Rattle.tidying.proofs.parts.load.Given as goal

abbrev pub invariant-loop-i : goal.invariant-loop-i
invariant-loop-i l = let es = entries_all l.entries.file.now in record {
  long : length l.w1 ≡ length l.initial.w1;
  words : map raw_word es ≡ take l.i l.w1 ++ map raw_word (drop l.i es);
}
