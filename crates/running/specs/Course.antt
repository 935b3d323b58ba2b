-- The steps of a slip and then steps as reduce takes them, in one course. Laws: proofs/Course; `course_replay` of crate
-- starting.
use Rattle.std.specs.Prelude.{List, [], ◌∷◌, ℕ}
use Rattle.std.proofs.Math.Option.{Option, some, none}
use Rattle.matching.specs.Pairs.{Points}
use Rattle.matching.specs.Steps.{Rule, Step, apply}
use Rattle.matching.specs.Find.{step_at}
use Rattle.matching.specs.Slip.{reduce}

-- The steps that the names name, each where it stands, then at most k that reduce takes; none where a name's step is
-- not allowed.
abbrev pub course : ℕ → Points → List (Rule × ℕ) → ℕ → Option (List Step)
course n w [] k = some (reduce k n w)
course n w (r ∷ rs) k =
    elim (step_at n w r.0 r.1) [
      | none ↦ none
      | some s ↦ elim (course n (apply w s) rs k) [ none ↦ none | some ss ↦ some (s ∷ ss) ]
    ]
