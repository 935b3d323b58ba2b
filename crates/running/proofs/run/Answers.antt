-- `run` takes step after step.
use mathlib.Core.Path.{refl}
use native.Mathlib.Omega.{arith}
use Rattle.slots.proofs.Working.{buffers_on}
use Rattle.running.proofs.Runs.{run_refused, run_ends, run_out, found_there}
use Rattle.running.proofs.run.Goals as goal
use Rattle.running.proofs.run.Goals.{else-loop-at-test, then-loop-at-test+in_default+else-at-m}

-- ---- no step: refusal 8

pub returns-then-at-m : goal.returns-then-at-m
returns-then-at-m c =
    let h = c.loop-at.invariant in
    let e = c.empty.ensures in (
      refl,
      run_refused h.course c.in_default.ensures (omega (arith, c.if-at-m.true, c.count_of-m.ensures)),
      record { first = e.first; second = e.second; buffers = buffers_on h.buffers e.buffers },
    )

-- ---- the step that was found, and the run of leaves behind it

pub take_found-stepped-requires : goal.take_found-stepped-requires
take_found-stepped-requires c =
    found_there c.count_of-m.ensures c.loop-at.invariant.course c.in-Some.ensures c.loop-at-test.true

pub leaf_steps-at-requires : goal.leaf_steps-at-requires
leaf_steps-at-requires c =
    let f = found_there c.count_of-m.ensures c.loop-at.invariant.course c.in-Some.ensures c.loop-at-test.true in
    (f.w, f.rs, f.many, c.take_found-stepped.ensures.on f)

pub loop-at-preserved : goal.loop-at-preserved
loop-at-preserved c =
    let h = c.loop-at.invariant in
    let f = found_there c.count_of-m.ensures h.course c.in-Some.ensures c.loop-at-test.true in
    let s = c.take_found-stepped.ensures in
    let l = c.leaf_steps-at.ensures in record {
      course = l.on f.w f.rs f.many (s.on f);
      buffers = buffers_on h.buffers (buffers_on s.buffers l.buffers);
    }

-- ---- the end

pub returns : goal.returns
returns c =
    let h = c.loop-at.invariant in
    let m = c.count_of-m.ensures in
    elim c.loop-at-test.branch [
      | else-loop-at-test w ↦ (run_out h.course (omega (arith, w.loop-at-test.false, m)), h.buffers)
      | then-loop-at-test+in_default+else-at-m w ↦ (
        run_ends h.course w.in_default.ensures (omega (arith, w.if-at-m.false, m))
            (omega (arith, w.loop-at-test.true, m)),
        h.buffers,
      )
    ]
