-- `link` goes down over the cells: those from c on are linked.
use Rattle.grouping.proofs.Links.{Linking}
use Rattle.grouping.proofs.link.Given as goal

abbrev pub invariant-loop-c : goal.invariant-loop-c
invariant-loop-c l = Linking l.n l.c l.initial.w2 l.w2
