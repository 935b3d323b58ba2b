-- `print_made` puts the lines one behind the other.
use mathlib.Core.Path.{ap, ◌∙◌}
use Prim.Native.Nat.{◌≤◌}
use native.Mathlib.Omega.{arith}
use lib.ListN.{length}
use Rattle.cellfile.specs.Bytes.{number}
use Rattle.cellfile.proofs.Walk.{from_place}
use Rattle.report.proofs.Making.{lengths_least, count_few, list_whole, pairing_whole, lines_there, text_made}
use Rattle.report.proofs.print_made.Goals as goal
use Rattle.report.proofs.print_made.Goals.{After-header_at-h}

-- the files have their headers
least : (c : After-header_at-h)
    → (4 ≤ length c.args.pairing.now) × (4 ≤ c.args.slip_length) × (12 ≤ length c.args.short.now)
least c = lengths_least c.args.list.now c.requires.0 c.requires.1

pub new-entries-requires-clause-whole : goal.new-entries-requires-clause-whole
new-entries-requires-clause-whole c = rw c.header_at-h.ensures.m (list_whole c.args.list.now c.requires.0 c.requires.1)

pub header_at-requires : goal.header_at-requires
header_at-requires c = omega (arith, least (goal.at.header_at-requires c).After-header_at-h)

pub new-pairs-requires : goal.new-pairs-requires
new-pairs-requires c = rw c.header_at.ensures.m (pairing_whole c.args.list.now c.requires.0 c.requires.1)

pub overflow_sub-steps : goal.overflow_sub-steps
overflow_sub-steps c = omega (arith, least (goal.at.overflow_sub-steps c).After-header_at-h)

pub overflow_sub-left : goal.overflow_sub-left
overflow_sub-left c = omega (arith, least (goal.at.overflow_sub-left c).After-header_at-h)

pub slice_bounds-number_at-count : goal.slice_bounds-number_at-count
slice_bounds-number_at-count c = omega (arith, least (goal.at.slice_bounds-number_at-count c).After-header_at-h)

pub slice_bounds-number_at-start : goal.slice_bounds-number_at-start
slice_bounds-number_at-start c = omega (arith, least (goal.at.slice_bounds-number_at-start c).After-header_at-h)

pub pair_lines-total-requires : goal.pair_lines-total-requires
pair_lines-total-requires c = let s = c.requires in (
  rw (c.new-entries.ensures.file, c.new-pairs.ensures.file) (lines_there c.args.list.now s.0 s.1),
  omega (
    arith,
    count_few c.args.list.now s.0 s.1,
    c.header_at.ensures.m,
    c.new-pairs.ensures.count,
    ap length s.2,
    c.line.ensures.few,
    c.line-2.ensures.few,
    c.line-3.ensures.few,
  ),
)

pub line-requires-4 : goal.line-requires-4
line-requires-4 c = let s = c.requires in
    omega (
      arith,
      count_few c.args.list.now s.0 s.1,
      c.header_at.ensures.m,
      c.new-pairs.ensures.count,
      ap length s.2,
      c.line.ensures.few,
      c.line-2.ensures.few,
      c.line-3.ensures.few,
      c.pair_lines-total.ensures.few,
    )

pub returns : goal.returns
returns c =
    let s = c.requires in
    let l = c.pair_lines-total.ensures in
    text_made c.args.list.now s.0 s.1 c.record_bytes.ensures.is c.record_bytes-2.ensures.is
    (c.number_at-carried.ensures ∙ ap (number 8) (from_place 4 c.args.short.now)) s.2 c.line.ensures.bytes
    c.line-2.ensures.bytes c.line-3.ensures.bytes
    (rw (c.new-entries.ensures.file, c.new-pairs.ensures.file) at l.lines)
    (rw (c.new-entries.ensures.file, c.new-pairs.ensures.file) at l.total) c.line-4.ensures.bytes
