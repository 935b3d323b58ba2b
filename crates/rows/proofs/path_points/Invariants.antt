-- `path_points` goes from the last word on. Invariant: `ways` are the points of the path of the words so far.
use Rattle.rows.proofs.Points.{Walked}
use Rattle.rows.proofs.path_points.Given as goal

abbrev pub invariant-loop-word : goal.invariant-loop-word
invariant-loop-word l = Walked l.words l.word-iterator.iter.rest.now l.ways
