-- `list_pairs` goes over the cells. Invariant: the pairs of the cells below c stand as r words, and their records.
use Rattle.std.proofs.Common.{◌≡◌, length}
use Rattle.partners.proofs.Tabled.{Reading}
use Rattle.partners.proofs.list_pairs.Given as goal

abbrev pub invariant-loop-c : goal.invariant-loop-c
invariant-loop-c l = record {
  long : length l.w1 ≡ length l.initial.w1;
  read : Reading l.n l.table.words.now l.w1 l.c
      l.r;
}
