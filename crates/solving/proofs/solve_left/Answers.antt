-- `solve_left` is a chain of calls: first labels, rows and cells, labels of which no pair has two, all set out, the
-- groups solved.
use mathlib.Core.Path.{ap, ◌∙◌}
use lib.ListN.{length}
use mathlib.Core.Bool.{not}
use Rattle.slots.specs.Slots.{graph_of}
use Rattle.running.proofs.Listing.{holds_pairs}
use Rattle.grouping.specs.Finding.{words_in}
use Rattle.solving.specs.Joined.{LabelsThere}
use Rattle.solving.proofs.Left.{rows_kept, left_level, left_crowded, left_labels, left_solved}
use Rattle.solving.proofs.solve_left.Goals as goal
use Rattle.solving.proofs.solve_left.Goals.{Else-not-level}

pub finish-r-requires : goal.finish-r-requires
finish-r-requires c =
    let p = c.requires in
    rw c.label.ensures.1 (holds_pairs p.holds p.small)

pub level-requires : goal.level-requires
level-requires c = (
  c.args.n,
  graph_of c.args.e c.args.w1.now,
  left_level c.requires c.label.ensures.0 (c.finish-r.auto.w1 ∙ ap length c.label.ensures.1)
      (rows_kept c.args.e c.label.ensures.1 c.finish-r.ensures),
)

pub returns-then-not-level : goal.returns-then-not-level
returns-then-not-level c =
    let l = c.finish-r.auto.w1 ∙ ap length c.label.ensures.1 in
    let f = rows_kept c.args.e c.label.ensures.1 c.finish-r.ensures in
    let ready = left_level c.requires c.label.ensures.0 l f in
    left_crowded c.requires c.label.ensures.0 l f (c.level.ensures _ _ ready)
    (ap not c.if-not-level.true)

-- the labels, of which no pair has two
labelled : (c : Else-not-level)
    → LabelsThere c.args.n (graph_of c.args.e c.args.w1.now) (words_in c.level.new.w2) c.finish-r.result
    c.finish-r.new.w1 c.level.new.w2
labelled c =
    let l = c.finish-r.auto.w1 ∙ ap length c.label.ensures.1 in
    let f = rows_kept c.args.e c.label.ensures.1 c.finish-r.ensures in
    let ready = left_level c.requires c.label.ensures.0 l f in
    left_labels c.requires c.label.ensures.0 l f (c.level.ensures _ _ ready)
    (ap not c.if-not-level.false)

pub set_out-requires : goal.set_out-requires
set_out-requires c = (_, _, labelled (goal.at.set_out-requires c).Else-not-level)

pub solve_groups-requires : goal.solve_groups-requires
solve_groups-requires c =
    let out = c.set_out.ensures _ _ (labelled (goal.at.solve_groups-requires c).Else-not-level) in
    (_, _, out.there)

pub returns : goal.returns
returns c =
    let l = c.finish-r.auto.w1 ∙ ap length c.label.ensures.1 in
    let f = rows_kept c.args.e c.label.ensures.1 c.finish-r.ensures in
    let ready = left_level c.requires c.label.ensures.0 l f in
    let out = c.set_out.ensures _ _ (labelled (goal.at.returns c).Else-not-level) in
    left_solved c.requires c.label.ensures.0 l f (c.level.ensures _ _ ready) c.solve_groups.new.w2
    c.solve_groups.result out (c.solve_groups.ensures _ _ out.there)
