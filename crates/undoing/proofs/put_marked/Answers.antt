-- `put_marked` goes from the last place on.
use native.Mathlib.Omega.{arith}
use mathlib.Core.Path.{◌≡◌, refl, ◌∙◌}
use Rattle.undoing.proofs.Marking.{put_none, put_asks, put_more, put_all}
use Rattle.undoing.proofs.put_marked.Goals as goal

pub loop-j-init : goal.loop-j-init
loop-j-init c = (refl, λ p. put_none p c.args.table.now.room)

pub join_marked-requires : goal.join_marked-requires
join_marked-requires c =
    let p = c.requires in
    put_asks p c.args.table.now.room (c.loop-j.invariant.1 p) c.loop-j.table.room c.loop-j-test.true
    c.cell_of-from.ensures

pub loop-j-preserved : goal.loop-j-preserved
loop-j-preserved c = (
  c.join_marked.ensures.same ∙ c.loop-j.invariant.0,
  λ p. put_more p c.args.table.now.room (c.loop-j.invariant.1 p) c.loop-j.table.room c.loop-j-test.true
      c.cell_of-from.ensures c.join_marked.ensures.joined,
)

pub returns-clause-put : goal.returns-clause-put
returns-clause-put c p =
    let e : c.loop-j.j ≡ 0 = omega arith in
    put_all p c.args.table.now.room (c.loop-j.invariant.1 p) e
