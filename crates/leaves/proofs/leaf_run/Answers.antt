-- `leaf_run` where there is no room, and where there is no leaf.
use Rattle.leaves.proofs.Passing.{run_none}
use Rattle.leaves.proofs.Slacks.{quiet_to}
use Rattle.leaves.proofs.leaf_run.Goals as goal

pub returns-then-room-eq0 : goal.returns-then-room-eq0
returns-then-room-eq0 c = run_none c.requires.2

pub returns-in_default : goal.returns-in_default
returns-in_default c = run_none (quiet_to _ c.requires.2 c.in_default.ensures)
