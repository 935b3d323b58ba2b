-- `word` adds the fields of the record up.
use Rattle.origins.specs.Stamps.{as_origin}
use Rattle.origins.proofs.Stamps.{record_stamp}
use Rattle.origins.proofs.PairOrigin.word.Goals as goal

pub returns : goal.returns
returns c = let pair = c.args.self in record_stamp (as_origin pair.origin) pair.a pair.b c.stamp.ensures.0
