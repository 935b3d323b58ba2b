-- `level` sweeps at most 12 times: so many sweeps are done, the labels are as they leave them, and each sweep met a
-- split pair, so that some group has more cells than that where there was a sweep.
use mathlib.Core.Path.{ap}
use mathlib.Core.Bool.{not}
use Rattle.grouping.proofs.Sweeping.{level_first, level_more, level_done}
use Rattle.grouping.proofs.level.Goals as goal

pub loop-init : goal.loop-init
loop-init c = level_first

pub returns-then-not-sweep : goal.returns-then-not-sweep
returns-then-not-sweep c = level_done c.loop.invariant c.sweep.ensures (ap not c.if-not-sweep.true)

pub loop-preserved : goal.loop-preserved
loop-preserved c = level_more c.loop.invariant c.sweep.ensures c.loop-test.true (ap not c.if-not-sweep.false)
