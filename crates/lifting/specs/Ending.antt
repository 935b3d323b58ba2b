-- The last part of a call: a pairing and its origin list are written. Inner contracts cite this.
use Rattle.std.specs.Prelude.{◌≡◌, List, [], ◌∷◌, ℕ, ◌≤◌, length}
use Rattle.matching.specs.Pairs.{Pair, Points}
use Rattle.matching.specs.Steps.{Step}
use Rattle.matching.specs.Slip.{lift}
use Rattle.matching.specs.Origin.{all_short, origins}
use Rattle.cellfile.specs.Answers.{Answer}
use Rattle.checks.specs.Answering.{Output, Does}
use Rattle.lifting.specs.Calls.{pair_file, origin_file}
use Rattle.undoing.specs.Back.{BackThere}

-- An output before and afterwards.
abbrev pub Change : Type 0
Change = List ℕ × List ℕ

-- The outputs of a pairing m that is brought back to the graph w of n cells through the steps: it and its origin list.
abbrev pub back_to : ℕ → Points → List Step → List Pair → Change → Change → List Output
back_to n w ss m out from =
    (pair_file n (lift w ss m), out.0, out.1)
    ∷ (origin_file n (origins w ss m) (lift w ss m), from.0, from.1)
    ∷ []

-- A pairing of what is left, and the trail of so many steps back to a graph of n cells.
pub record ReturnThere (n t count : ℕ) (w1 w2 : List ℕ) : Type 0 where
  pub room2 : 8192 ≤ length w2
  pub back : BackThere t count w1 w2
  pub cells_are : back.n ≡ n
  pub from_short : back.from ≡ all_short

-- It is brought back and written, or refusal 12 says no.
abbrev pub Returns : (n t count : ℕ) (w1 w2 : List ℕ) → Change → Change → Answer → Type 0
Returns n t count w1 w2 out from a =
    (r : ReturnThere n t count w1 w2)
    → Does [] (back_to n r.back.w r.back.steps r.back.pairs out from) a
