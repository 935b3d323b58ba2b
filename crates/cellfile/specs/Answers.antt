-- What calls answer, a number and values, and what an output then holds.
use Rattle.std.specs.Prelude.{ℕ, zero, suc, List, []}
use Rattle.cellfile.specs.Files.{onto}

-- The refusal's number, or 0 and the values.
abbrev pub Answer : Type 0
Answer = ℕ × List ℕ

-- 'A refusal returns its number and no other value.'
abbrev pub answer : ℕ → List ℕ → Answer
answer zero values = (0, values)
answer (suc k) values = (suc k, [])

-- An output afterwards: the file where nothing is refused, else unchanged.
abbrev pub written : ℕ → List ℕ → List ℕ → List ℕ
written zero file out = onto file out
written (suc k) file out = out
