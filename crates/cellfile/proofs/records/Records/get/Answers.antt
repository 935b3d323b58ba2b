-- `get` hands on the part that starts at the record.
use Rattle.cellfile.specs.Files.{cells_of}
use Rattle.cellfile.proofs.Walk.{record_found}
use Rattle.cellfile.proofs.records.Records.get.Goals as goal

pub returns : goal.returns
returns g c = let l = c.args.self.now in
    record_found l.file.now c.args.i _ l.whole c.requires
    (rw (c.start.ensures.is (cells_of l.file.now), c.record_bytes.ensures.is, c.KIND.ensures, c.KIND-2.ensures))
    c.at.ensures
