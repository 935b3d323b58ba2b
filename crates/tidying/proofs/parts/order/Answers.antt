-- `order` loads the words and puts them in order.
use Rattle.std.proofs.Common.{sym, ◌≤◌, arith, length-take-le}
use Rattle.tidying.proofs.Words.{raw_few, order_words}
use Rattle.tidying.proofs.parts.order.Goals as goal
use Rattle.tidying.proofs.parts.order.Goals.{Start, After-load}

few : (c : Start) → c.args.entries.now.m ≤ 4096
few c = raw_few c.requires c.args.entries.now.whole.count

pub load-requires : goal.load-requires
load-requires c = omega (arith, few (goal.at.load-requires c).Start, c.requires.room1)

pub slice_bounds-sort-end : goal.slice_bounds-sort-end
slice_bounds-sort-end c =
    omega (arith, few (goal.at.slice_bounds-sort-end c).Start, c.requires.room1, c.load.auto.w1)

pub slice_bounds-sort-end-2 : goal.slice_bounds-sort-end-2
slice_bounds-sort-end-2 c = let m = few (goal.at.slice_bounds-sort-end-2 c).Start in
    sym (length-take-le c.args.entries.now.m c.load.new.w1 (omega (arith, m, c.requires.room1, c.load.auto.w1)))

pub sort-requires : goal.sort-requires
sort-requires c = let m = few (goal.at.sort-requires c).Start in
    omega (
      arith,
      length-take-le c.args.entries.now.m c.load.new.w1 (omega
          (arith, m, c.requires.room1, c.load.auto.w1)),
      m,
      c.requires.room2,
    )

pub returns : goal.returns
returns c = let s = c.sort in
    order_words c.args.entries.now.file.now c.requires.accepted c.load.new.w1 s.new.w c.load.ensures
    c.args.entries.now.whole.count s.auto.w s.ensures.0 s.ensures.1
