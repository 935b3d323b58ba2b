-- Slips (reduction traces): replaying one, what it leaves and carries, and the ways back and down through it.
use Rattle.std.specs.Prelude.{◌⊎◌, List, [], ◌∷◌, ℕ, zero, suc, ◌+◌}
use Rattle.std.proofs.Math.Option.{Option, some, none}
use Rattle.matching.specs.Pairs.{Pair, Points}
use Rattle.matching.specs.Steps.{Rule, Step, name, apply, carry, undo, down}
use Rattle.matching.specs.Shapes.{IsStep, NoLater}
use Rattle.matching.specs.Find.{step_at, first_step_of}

-- 'The first step of a slip stands on the list's working graph, each later one on the graph that the step before it
-- left.' The steps that a slip names, none where one is not allowed.
abbrev pub replay : ℕ → Points → List (Rule × ℕ) → Option (List Step)
replay n w [] = some []
replay n w (r ∷ rs) =
    elim (step_at n w r.0 r.1) [
      | none ↦ none
      | some s ↦ elim (replay n (apply w s) rs) [ none ↦ none | some ss ↦ some (s ∷ ss) ]
    ]

-- The same in the description's words: the steps that a slip names, each allowed where it stands. Law: proofs/Reduce,
-- `replay_is`.
abbrev pub AreSteps : ℕ → Points → List (Rule × ℕ) → List Step → Type 0
AreSteps n w [] [] = Unit {0}
AreSteps n w [] (s ∷ ss) = ⊥
AreSteps n w (r ∷ rs) [] = ⊥
AreSteps n w (r ∷ rs) (s ∷ ss) = IsStep n w r.0 r.1 s × AreSteps n (apply w s) rs ss

-- 'Some step of the slip is not allowed where it stands': the first is not, or a later one is not on the graph that the
-- first leaves. Law: proofs/Reduce, `replay_not`.
abbrev pub SomeStepNot : ℕ → Points → List (Rule × ℕ) → Type 0
SomeStepNot n w [] = ⊥
SomeStepNot n w (r ∷ rs) =
    ((s : Step) → IsStep n w r.0 r.1 s → ⊥)
    ⊎ ((s : Step) × IsStep n w r.0 r.1 s × SomeStepNot n (apply w s) rs)

-- What each step carries, in slip order. Law: proofs/Reduce, `carried_sum`.
abbrev pub carries : Points → List Step → List ℕ
carries w [] = []
carries w (s ∷ ss) = carry w s ∷ carries (apply w s) ss

-- The graph after the last step, and 'the sum of what the slip's steps carry, zero for the empty slip'.
abbrev pub left : Points → List Step → Points
left w [] = w
left w (s ∷ ss) = left (apply w s) ss

abbrev pub carried : Points → List Step → ℕ
carried w [] = 0
carried w (s ∷ ss) = carry w s + carried (apply w s) ss

-- 'The lifted pairing is what the way back through all the steps makes of the short pairing'; 'the way back undoes the
-- last step first'.
abbrev pub lift : Points → List Step → List Pair → List Pair
lift w [] m = m
lift w (s ∷ ss) m = undo w s (lift (apply w s) ss m)

-- A pairing of the graph before the first step, brought down through all the steps.
abbrev pub bring : Points → List Step → List Pair → List Pair
bring w [] m = m
bring w (s ∷ ss) m = bring (apply w s) ss (down w s m)

-- The steps that reduce takes, at most k: 'it ends when no step is allowed'. n of them are enough.
abbrev pub reduce : ℕ → ℕ → Points → List Step
reduce zero n w = []
reduce (suc k) n w = elim (first_step_of n w) [ none ↦ [] | some s ↦ s ∷ reduce k n (apply w s) ]

-- The same in the description's words: each step is allowed where it stands, and tried no later than any other that is;
-- after the last none is allowed. Law: proofs/Reduce, `reduce_in_turn`.
abbrev pub InTurn : ℕ → Points → List Step → Type 0
InTurn n w [] = (r : Rule) (c : ℕ) (t : Step) → IsStep n w r c t → ⊥
InTurn n w (s ∷ ss) =
    IsStep n w (name s).0 (name s).1 s
    × ((r : Rule) (c : ℕ) (t : Step) → IsStep n w r c t → NoLater (name s) (r, c))
    × InTurn n (apply w s) ss
