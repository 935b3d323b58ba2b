-- `put_number` writes the last bytes of the number.
use Rattle.cellfile.proofs.Outputs.{last_written}
use Rattle.cellfile.proofs.write.put_number.Goals as goal

pub returns : goal.returns
returns c = let a = c.args in
    rw c.copy_from_slice.ensures.after (last_written a.size a.v a.out.now c.requires.0 c.to_be_bytes.ensures)
