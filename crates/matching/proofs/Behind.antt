-- Slips one behind the other. In order: what two runs of steps leave (`left_append`) and carry (`carried_append`), the
-- second on what the first left; the steps that two slips name, those of the first and then those of the second on what
-- the first left (`replay_append`, `replay_split`). Assumes nothing.
use mathlib.Core.Path.{◌≡◌, refl, ap, ◌∙◌}
use mathlib.Core.List.{List, [], ◌∷◌, ◌++◌}
use mathlib.Core.Option.{Option, some, none}
use Prim.Native.Nat.{ℕ, ◌+◌}
use native.Mathlib.Omega.{arith}
use Rattle.matching.specs.Pairs.{Points}
use Rattle.matching.specs.Steps.{Rule, Step, apply}
use Rattle.matching.specs.Find.{step_at}
use Rattle.matching.specs.Slip.{replay, left, carried}

pub left_append : (w : Points) (ss ts : List Step) → left w (ss ++ ts) ≡ left (left w ss) ts
left_append w [] ts = refl
left_append w (s ∷ ss) ts = left_append (apply w s) ss ts

pub carried_append : (w : Points) (ss ts : List Step)
    → carried w (ss ++ ts) ≡ carried w ss + carried (left w ss) ts
carried_append w [] ts = omega arith
carried_append w (s ∷ ss) ts = omega (arith, carried_append (apply w s) ss ts)

-- Steps with some steps before them.
abbrev pub behind : List Step → Option (List Step) → Option (List Step)
behind ss o = elim o [ none ↦ none | some ts ↦ some (ss ++ ts) ]

-- The steps of a first slip, then those of a second on what the first left.
abbrev pub then_replay : ℕ → Points → List (Rule × ℕ) → Option (List Step) → Option (List Step)
then_replay n w ys o = elim o [ none ↦ none | some ss ↦ behind ss (replay n (left w ss) ys) ]

pub replay_append : (n : ℕ) (w : Points) (xs ys : List (Rule × ℕ))
    → replay n w (xs ++ ys) ≡ then_replay n w ys (replay n w xs)
replay_append n w [] ys = go (replay n w ys)
  where
    go : (o : Option (List Step)) → o ≡ behind [] o
    go none = refl
    go (some ts) = refl
replay_append n w (r ∷ rs) ys = go (step_at n w r.0 r.1) (λ s. replay_append n (apply w s) rs ys)
  where
    go : (o : Option Step)
        → ((s : Step) → replay n (apply w s) (rs ++ ys) ≡ then_replay n (apply w s) ys (replay n (apply w s) rs))
        → elim o [ none ↦ none | some s ↦ behind (s ∷ []) (replay n (apply w s) (rs ++ ys)) ]
        ≡ then_replay n w ys (elim o [ none ↦ none | some s ↦ behind (s ∷ []) (replay n (apply w s) rs) ])
    go none i = refl
    go (some s) i = ap (behind (s ∷ [])) (i s) ∙ on (replay n (apply w s) rs)
      where
        on : (o : Option (List Step)) → behind (s ∷ []) (then_replay n (apply w s) ys o) ≡ then_replay n w ys
            (behind (s ∷ []) o)
        on none = refl
        on (some ss) = at (replay n (left (apply w s) ss) ys)
          where
            at : (o : Option (List Step)) → behind (s ∷ []) (behind ss o) ≡ behind (s ∷ ss) o
            at none = refl
            at (some ts) = refl

pub replay_split : (n : ℕ) (w : Points) (xs ys : List (Rule × ℕ)) (ss : List Step) → replay n w xs ≡ some ss
    → replay n w (xs ++ ys) ≡ elim (replay n (left w ss) ys) [ none ↦ none | some ts ↦ some (ss ++ ts) ]
replay_split n w xs ys ss h = replay_append n w xs ys ∙ ap (then_replay n w ys) h
