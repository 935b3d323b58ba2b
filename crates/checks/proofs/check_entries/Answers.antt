-- `check_entries` answers the first of refusals 5 and 6.
use Rattle.std.proofs.Common.{◌≡◌, ◌<◌, ◌≤◌, ◌∙◌, sym, arith}
use mathlib.Core.Bool.{cond}
use Rattle.cellfile.specs.Files.{count_of}
use Rattle.checks.specs.Refusals.{first}
use Rattle.checks.specs.Loops.{entry_rows}
use Rattle.checks.proofs.Forms.{stray_start, some_end, some_here, order_start, order_end, entries_5, entries_6}
use Rattle.checks.proofs.check_entries.Goals as goal
use Rattle.checks.proofs.check_entries.Goals.{After-loop-i}

pub loop-i-init : goal.loop-i-init
loop-i-init c = let s = c.args.entries.now.file.now in
    record { low_fits = omega arith; strays = stray_start s; order = order_start s }

pub returns-then-is_stray : goal.returns-then-is_stray
returns-then-is_stray c =
    let l = c.args.entries.now in
    let below : c.loop-i.i < count_of l.file.now = omega (arith, l.whole.count) in
    let stray = rw l.cells at (sym c.is_stray.ensures ∙ c.if-is_stray.true) in
    entries_5 _ (c.loop-i.invariant.strays ∙ some_here _ _ below _ c.get-e.ensures _ stray)

-- behind the last entry
told : (c : After-loop-i) → count_of c.args.entries.now.file.now ≤ c.loop-i.i
    → cond c.loop-i.ordered 0 6 ≡ first (entry_rows c.args.entries.now.file.now)
told c end =
    let s = c.args.entries.now.file.now in
    let i = c.loop-i.i in
    entries_6 _ (c.loop-i.invariant.strays ∙ some_end s i end _) (c.loop-i.invariant.order ∙ order_end s i end _ _)

pub returns-then-not-ordered : goal.returns-then-not-ordered
returns-then-not-ordered c =
    let l = c.args.entries.now in
    let end : count_of l.file.now ≤ c.loop-i.i = omega (arith, l.whole.count, c.loop-i-test.false) in
    rw c.if-not-ordered.true at (told (goal.at.returns-then-not-ordered c).After-loop-i end)

pub returns : goal.returns
returns c =
    let l = c.args.entries.now in
    let end : count_of l.file.now ≤ c.loop-i.i = omega (arith, l.whole.count, c.loop-i-test.false) in
    rw c.if-not-ordered.false at (told (goal.at.returns c).After-loop-i end)
