-- `bring_back` goes back over the trail, lists the pairs of the table and writes them.
use mathlib.Core.Path.{◌≡◌, sym, ◌∙◌}
use native.Mathlib.Omega.{arith}
use lib.ListN.{length}
use Rattle.partners.specs.Table.{Listed}
use Rattle.lifting.proofs.Returning.{from, up, lifted_there, lifted_fit, pairs_many, lifted_asks, lifted_files}
use Rattle.lifting.proofs.ends.bring_back.Goals as goal
use Rattle.lifting.proofs.ends.bring_back.Goals.{After-list_pairs-r}

-- the pairs that are listed
long : (c : After-list_pairs-r) → length c.list_pairs-r.new.w1 ≡ length c.args.w1.now
long c = c.list_pairs-r.auto.w1 ∙ c.lift_back.auto.w1

listed : (c : After-list_pairs-r)
    → Listed (from c.requires) (up c.requires) c.list_pairs-r.new.w1 c.list_pairs-r.result
listed c =
    let h = c.requires in
    let k = c.lift_back.auto in
    c.list_pairs-r.ensures (from h) (up h) (lifted_there h k.w1 (c.lift_back.ensures.back h.back))

pub list_pairs-r-requires : goal.list_pairs-r-requires
list_pairs-r-requires c =
    let h = c.requires in
    let k = c.lift_back.auto in
    (from h, up h, lifted_there h k.w1 (c.lift_back.ensures.back h.back))

pub slice_bounds-write_both-end : goal.slice_bounds-write_both-end
slice_bounds-write_both-end c =
    let at = (goal.at.slice_bounds-write_both-end c).After-list_pairs-r in
    sym (pairs_many c.requires (long at) (listed at))

pub write_both-requires : goal.write_both-requires
write_both-requires c =
    let at = (goal.at.write_both-requires c).After-list_pairs-r in
    lifted_asks c.requires (long at) (listed at)

pub returns : goal.returns
returns c h =
    let k = c.lift_back.auto in
    lifted_files h
    (c.list_pairs-r.ensures (from h) (up h) (lifted_there h k.w1 (c.lift_back.ensures.back h.back)))
    c.write_both.ensures

pub overflow_add-r : goal.overflow_add-r
overflow_add-r c = omega (arith, (listed (goal.at.overflow_add-r c).After-list_pairs-r).most)

pub slice_bounds-write_both-end-2 : goal.slice_bounds-write_both-end-2
slice_bounds-write_both-end-2 c =
    let at = (goal.at.slice_bounds-write_both-end-2 c).After-list_pairs-r in
    omega (arith, lifted_fit c.requires (long at) (listed at))
