-- What the contract of `matched` cites: the merge of entries and pairs as weighing answers it. Nobody has to believe
-- this: the law of the merge (`merge_is` of crate checks) ties it to the definition of weighing.
use Rattle.std.specs.Prelude.{List, ℕ, Result, Ok, Err}
use Rattle.std.proofs.Math.Option as Maybe
use Rattle.std.proofs.Math.Option.{some, none}
use Rattle.matching.specs.Pairs.{Pair}
use Rattle.matching.specs.Listed.{Entry}
use Rattle.checks.specs.Merging.{merge}
use Rattle.checks.specs.declared.Refusal.{Refusal}
use Rattle.checks.specs.declared.Refusal.TheVariants.{NoPairing}

abbrev pub as_weighed : Maybe.Option ℕ → Result ℕ Refusal
as_weighed none = Err NoPairing
as_weighed (some n) = Ok n

abbrev pub merged : List Entry → List Pair → ℕ → Result ℕ Refusal
merged es ps had = as_weighed (merge es ps had)
