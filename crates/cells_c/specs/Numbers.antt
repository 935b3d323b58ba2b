-- The numbers that a call of the interface for C answers.
use Rattle.std.specs.Prelude.{ℕ, get_or}
use Rattle.cellfile.specs.Answers.{Answer}

-- What a number parameter holds afterwards: the answer's i-th value, or what it held where the answer has no values.
abbrev pub value_or : ℕ → ℕ → Answer → ℕ
value_or i old a = get_or a.1 i old
