-- How a call with outputs answers: refusal 12 is its last row. Inner contracts cite this; laws: proofs/Answering.
use Rattle.std.specs.Prelude.{◌≡◌, List, map, ℕ, length}
use Rattle.matching.specs.Lists.{All}
use Rattle.checks.specs.Refusals.{Row}
use Rattle.checks.specs.Calls.{filing}
use Rattle.cellfile.specs.Answers.{Answer, written}

-- An output of a call: the file that is for it, what it held before, and what it holds afterwards.
abbrev pub Output : Type 0
Output = List ℕ × List ℕ × List ℕ

abbrev pub rooms : List Output → List (ℕ × List ℕ)
rooms outs = map (λ (o : Output). (length o.1, o.0)) outs

abbrev pub lengths : List Output → List ℕ
lengths outs = map (λ (o : ℕ × List ℕ). length o.1) (rooms outs)

-- The answer by the rows and refusal 12. The files are written where nothing is refused.
pub record Does (rows : List Row) (outs : List Output) (a : Answer) : Type 0 where
  pub says : a ≡ filing rows (rooms outs)
  pub writes : All (λ (o : Output). o.2 ≡ written a.0 o.0 o.1) outs
