-- `print_paired` puts the text of what reduce and pair answer, or tells what either refuses.
use mathlib.Core.Path.{◌≡◌, sym, ◌∙◌}
use Prim.Native.Nat.{◌≤◌}
use native.Mathlib.Omega.{arith}
use lib.ListN.{length}
use lib.Seq.{length-take-le}
use Rattle.std.proofs.lemmas.Result.{err_from_is_err_and}
use Rattle.checks.specs.Refusals.{first, lists, list_rows}
use Rattle.reduction.specs.Calls.{slip_file, short_file}
use Rattle.starting.specs.Steps.{reduce_steps}
use Rattle.lifting.specs.Calls.{pairing_file}
use Rattle.report.specs.Printed.{made, printed}
use Rattle.report.proofs.Fields.{short_most, pairing_most}
use Rattle.report.proofs.Printing.{written_start, reduce_refuses, reduce_passes, pair_refuses, pair_passes}
use Rattle.report.proofs.print_paired.Goals as goal
use Rattle.report.proofs.print_paired.Goals.{In_ok-slip_length, In_ok-length}

-- reduce has taken the list and answers the lengths of the slip and of the short list, which the output has room for
reduced : (c : In_ok-slip_length)
    → (first (list_rows lists c.args.list.now) ≡ 0)
    × (c.in_ok-slip_length.slip_length ≡ length (slip_file c.args.list.now (reduce_steps c.args.list.now)))
    × (c.in_ok-slip_length.short_length ≡ length (short_file c.args.list.now (reduce_steps c.args.list.now)))
reduced c = reduce_passes c.args.list.now 8192 8192 (omega arith) (omega arith) 2052 32780
    c.in_ok-slip_length.ensures.answer

short_fits : (c : In_ok-slip_length) → c.in_ok-slip_length.short_length ≤ length c.reduce.new.short
short_fits c =
    let p = reduced c in
    omega (arith, p.2, short_most c.args.list.now p.0, c.reduce.auto.short)

-- pair answers the pairing's length, which the output has room for
passed : (c : In_ok-length)
    → (c.in_ok-length.length ≡ length (pairing_file c.args.list.now)) × (made c.args.list.now ≡ printed c.args.list.now)
passed c =
    pair_passes c.args.list.now (length c.reduce.new.work_a) (length c.reduce.new.work_b)
    (omega (arith, c.reduce.auto.work_a)) (omega (arith, c.reduce.auto.work_b))
    (reduced (goal.at.In_ok-length c).In_ok-slip_length).0 1540 2564 (omega arith) (omega arith)
    c.in_ok-length.ensures.answer

pairing_fits : (c : In_ok-length) → c.in_ok-length.length ≤ length c.pair.new.pairing
pairing_fits c =
    omega (
      arith,
      (passed c).0,
      pairing_most c.args.list.now (reduced (goal.at.In_ok-length c).In_ok-slip_length).0,
      c.pair.auto.pairing,
    )

pub slice_bounds-short-end : goal.slice_bounds-short-end
slice_bounds-short-end c = short_fits (goal.at.slice_bounds-short-end c).In_ok-slip_length

pub slice_bounds-print_made-end : goal.slice_bounds-print_made-end
slice_bounds-print_made-end c =
    sym (length-take-le _ _ (short_fits (goal.at.slice_bounds-print_made-end c).In_ok-slip_length))

pub slice_bounds-pairing-end : goal.slice_bounds-pairing-end
slice_bounds-pairing-end c = pairing_fits (goal.at.slice_bounds-pairing-end c).In_ok-length

pub slice_bounds-print_made-end-2 : goal.slice_bounds-print_made-end-2
slice_bounds-print_made-end-2 c =
    sym (length-take-le _ _ (pairing_fits (goal.at.slice_bounds-print_made-end-2 c).In_ok-length))

pub print_made-requires : goal.print_made-requires
print_made-requires c =
    let list = c.args.list.now in
    let at = goal.at.print_made-requires c in
    let r = reduced at.In_ok-slip_length in (
      record {
        accepted = r.0;
        slip_is = r.1;
        short_is = written_start (short_file list (reduce_steps list)) _ r.2 c.in_ok-slip_length.ensures.outputs.1;
      },
      written_start (pairing_file list) _ (passed at.In_ok-length).0 c.in_ok-length.ensures.outputs.0,
      c.requires,
    )

pub returns : goal.returns
returns c = c.print_made.ensures ∙ (passed (goal.at.returns c).In_ok-length).1

pub returns-in_err-slip_length : goal.returns-in_err-slip_length
returns-in_err-slip_length c =
    let p = err_from_is_err_and c.from_residual.result c.from_residual.ensures.1 in
    rw (p.1, p.2) (
      c.requires,
      reduce_refuses c.args.list.now 8192 8192 (omega arith) (omega arith) 2052 32780 (omega arith) (omega arith)
          c.in_err-slip_length.ensures.answer,
    )

pub returns-in_err-length : goal.returns-in_err-length
returns-in_err-length c =
    let r = c.from_residual-in_err-length in
    let p = err_from_is_err_and r.result r.ensures.1 in
    rw (p.1, p.2) (
      c.requires,
      pair_refuses c.args.list.now (length c.reduce.new.work_a) (length c.reduce.new.work_b)
          (omega (arith, c.reduce.auto.work_a)) (omega (arith, c.reduce.auto.work_b))
          (reduced (goal.at.returns-in_err-length c).In_ok-slip_length).0 1540 2564 (omega arith) (omega arith)
          c.in_err-length.ensures.answer,
    )
