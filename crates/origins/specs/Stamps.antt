-- Origins as the program has them, and as stamps: numbers of 14 bits, the step above the rule. Inner contracts cite
-- this; laws: proofs/Stamps.
use Rattle.std.specs.Prelude.{cond, ℕ, ◌+◌, ◌*◌, ◌/◌, ◌%◌, eqb}
use Rattle.matching.specs.Origin.{Origin, from_short, from_step, number_in}
use Rattle.cellfile.specs.Files.{rule_named, rule_in}
use Rattle.cellfile.specs.Kinds.{as_rule}
use Rattle.origins.specs.declared.Origin as cases
use Rattle.origins.specs.declared.Origin.TheVariants as from

-- The origin that a value of the program's enum stands for.
abbrev pub as_origin : cases.Origin → Origin
as_origin from.Short = from_short
as_origin (from.Step number rule) = from_step number (as_rule rule)

-- The stamp of an origin, and the origin with that stamp.
abbrev pub stamp_for : Origin → ℕ
stamp_for o = number_in o * 8 + rule_in o

abbrev pub origin_in : ℕ → Origin
origin_in stamp = cond (eqb stamp 0) from_short (from_step (stamp / 8) (rule_named (stamp % 8)))
