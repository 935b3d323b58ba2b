-- `put_numbers` writes one number after the other.
use Rattle.std.proofs.Common.{refl, arith}
use Rattle.cellfile.specs.Files.{onto}
use Rattle.cellfile.specs.Words.{word_bytes}
use Rattle.cellfile.proofs.Outputs.{run_next}
use Rattle.cellfile.proofs.write.put_numbers.Goals as goal

pub loop-i-init : goal.loop-i-init
unfolding word_bytes onto
loop-i-init g c = λ ws e h. refl

pub loop-i-preserved : goal.loop-i-preserved
loop-i-preserved g c = let l = c.loop-i in
    λ ws e h.
    run_next c.args.size ws c.args.out.now refl (omega (arith, e)) (h l.i c.number.result (omega arith)
    c.number.ensures)
    (l.invariant ws e h) c.put_number.ensures
