-- `path_points` goes from the last word on.
use Rattle.std.proofs.Common.{rules}
use Rattle.rows.proofs.Points.{walked_none, walked_more}
use Rattle.rows.proofs.path_points.Goals as goal

pub loop-word-init : goal.loop-word-init
loop-word-init c = search (rules, walked_none)

pub loop-word-preserved : goal.loop-word-preserved
loop-word-preserved c = let l = c.loop-word in
    walked_more _ _ _ c.in-Some.word.now l.ways _ l.invariant c.in-Some.ensures.steps c.before-ways.ensures
