-- In `heavy`: of the partners tried so far the one had is the best, and comes before those still to be tried; what is
-- found is known.
-- `heavy` asks `word_of` of smaller sets, which asks `heavy` of the same set where its word is not known: twice the
-- number of places falls, and is one more in `word_of`.
use Rattle.std.proofs.Common.{◌+◌, ◌*◌, length}
use Rattle.sets.specs.Sets.{in_set, Kept, Ready}
use Rattle.sets.proofs.Tried.{Tried, Earlier}
use Rattle.sets.proofs.+heavy_word_of.Given as goal

abbrev pub decreases-heavy : goal.decreases-heavy
decreases-heavy l = 2 * length (in_set l.s)

abbrev pub decreases-word_of : goal.decreases-word_of
decreases-word_of l = 2 * length (in_set l.s) + 1

abbrev pub invariant-heavy-loop-q : goal.invariant-heavy-loop-q
invariant-heavy-loop-q l = record {
  ready : Ready l.ws l.w1 l.k l.s;
  kept : Kept l.ws l.k l.fn.w1 l.w1;
  tried : Tried l.ws l.s l.c l.rest l.q l.best.0;
  earlier : Earlier l.q l.best.0;
}
