-- `put_header` writes the header's number.
use Rattle.std.proofs.Common.{ap, ◌∙◌}
use Rattle.cellfile.specs.Bytes.{bytes}
use Rattle.cellfile.specs.Files.{onto}
use Rattle.cellfile.proofs.Outputs.{header_number}
use Rattle.cellfile.proofs.write.put_header.Goals as goal

pub returns : goal.returns
returns c = let a = c.args in
    rw c.from.ensures at c.put_number.ensures
    ∙ ap (λ v. onto (bytes 4 v) a.out.now) (header_number _ a.n a.m)
