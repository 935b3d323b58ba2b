-- Slips and reduce. In order: the steps that a slip names stand, each on what the one before it left (`replay_fits`),
-- and are what the description calls so (`replay_is`, `replay_not`); what they carry together (`carried_sum`); there
-- are no more of them than cells (`slip_count`); the steps of reduce are allowed (`reduce_replay`), come in parts
-- (`reduce_append`), each is the first that is allowed, and after them none is (`reduce_in_turn`).
use mathlib.Core.Path.{◌≡◌, refl, ap, ap₂, subst, ◌∙◌}
use mathlib.Core.Logic.{◌↔◌, inl, inr}
use mathlib.Core.List.{List, [], ◌∷◌, ◌++◌, map}
use mathlib.Core.Option.{Option, some, none}
use Prim.Native.Nat.{ℕ, zero, suc, ◌+◌, ◌≤◌}
use native.Mathlib.Omega.{arith}
use lib.ListN.{length}
use Rattle.matching.specs.Lists.{together}
use Rattle.matching.specs.Pairs.{Points}
use Rattle.matching.specs.Graph.{Graph, cells_left}
use Rattle.matching.specs.Steps.{Rule, Step, apply, carry, name}
use Rattle.matching.specs.Find.{step_at, first_step_of}
use Rattle.matching.specs.Slip.{replay, AreSteps, SomeStepNot, left, carries, carried, reduce, InTurn}
use Rattle.matching.proofs.Fits.{Fits, Stands}
use Rattle.matching.proofs.Find.{step_is, step_found, step_none, step_name, is_fits, step_fits, first_step_is}
use Rattle.matching.proofs.Find.{first_step_first, first_step_none}
use Rattle.matching.proofs.Tally.{cells_most}
use Rattle.matching.proofs.Count.{step_fewer}
use Rattle.matching.proofs.Exact.{step_graph}

-- What replaying a slip tells, where all its steps are allowed.
abbrev Replayed : ℕ → Points → List (Rule × ℕ) → Option (List Step) → Type 0
Replayed n w slip none = Unit {0}
Replayed n w slip (some ss) =
    Stands w ss × (length ss ≡ length slip) × (map name ss ≡ slip) × AreSteps n w slip ss

-- The steps of reduce, by the first step.
abbrev steps : ℕ → ℕ → Points → Option Step → List Step
steps k n w o = elim o [ none ↦ [] | some s ↦ s ∷ reduce k n (apply w s) ]

-- a step more
pub replay_more : (n : ℕ) (w : Points) (r : Rule × ℕ) (s : Step) (rs : List (Rule × ℕ)) (ss : List Step)
    → step_at n w r.0 r.1 ≡ some s → replay n (apply w s) rs ≡ some ss → replay n w (r ∷ rs) ≡ some (s ∷ ss)
replay_more n w r s rs ss h k = rw (h, replay) (rw k)

first_fits : {n : ℕ} {w : Points} → Graph n w → (s : Step) → first_step_of n w ≡ some s → Fits w s
first_fits g s h = step_fits g (name s).0 (name s).1 s (first_step_is g s h)

replayed : {n : ℕ} {w : Points} → Graph n w → (slip : List (Rule × ℕ)) → Replayed n w slip (replay n w slip)
replayed g [] = (tt, refl, refl, tt)
replayed {n} {w} g (r ∷ rs) = go (step_at n w r.0 r.1) refl (λ s f. replayed {w = apply w s} (step_graph g s f) rs)
  where
    go : (o : Option Step) → step_at n w r.0 r.1 ≡ o
        → ((s : Step) → Fits w s → Replayed n (apply w s) rs (replay n (apply w s) rs))
        → Replayed n w (r ∷ rs) (elim o [
          | none ↦ none
          | some s ↦ elim (replay n (apply w s) rs) [ none ↦ none | some ss ↦ some (s ∷ ss) ]
        ])
    go none e i = tt
    go (some s) e i = on (replay n (apply w s) rs) (i s fits)
      where
        fits : Fits w s
        fits = step_fits g r.0 r.1 s e

        on : (o : Option (List Step)) → Replayed n (apply w s) rs o
            → Replayed n w (r ∷ rs) (elim o [ none ↦ none | some ss ↦ some (s ∷ ss) ])
        on none p = tt
        on (some ss) p =
            let is = step_is g r.0 r.1 s e in
            ((fits, p.0), ap suc p.1, ap₂ ◌∷◌ (step_name g r.0 r.1 s is) p.2, (is, p.3))

pub replay_fits : {n : ℕ} {w : Points} → Graph n w → (slip : List (Rule × ℕ)) (ss : List Step)
    → replay n w slip ≡ some ss
    → Stands w ss × (length ss ≡ length slip) × (map name ss ≡ slip) × AreSteps n w slip ss
replay_fits {n} {w} g slip ss h = subst (Replayed n w slip) h (replayed g slip)

-- A slip is replayed just where each of its steps is allowed where it stands.
are_replay : {n : ℕ} {w : Points} → Graph n w → (slip : List (Rule × ℕ)) (ss : List Step) → AreSteps n w slip ss
    → replay n w slip ≡ some ss
are_replay g [] [] p = refl
are_replay g [] (s ∷ ss) p = absurd p
are_replay g (r ∷ rs) [] p = absurd p
are_replay {n} {w} g (r ∷ rs) (s ∷ ss) p =
    replay_more n w r s rs ss (step_found g r.0 r.1 s p.0)
    (are_replay {w = apply w s} (step_graph g s (is_fits g r.0 r.1 s p.0)) rs ss p.1)

pub replay_is : {n : ℕ} {w : Points} → Graph n w → (slip : List (Rule × ℕ)) (ss : List Step)
    → (replay n w slip ≡ some ss) ↔ AreSteps n w slip ss
replay_is g slip ss = (λ h. (replay_fits g slip ss h).3, λ p. are_replay g slip ss p)

-- It is not just where some step is not allowed where it stands.
replay_stops : {n : ℕ} {w : Points} → Graph n w → (slip : List (Rule × ℕ)) → replay n w slip ≡ none
    → SomeStepNot n w slip
replay_stops g [] h = (let z : ◌≡◌ {A = ℕ} 0 1 = cc in absurd (omega arith))
replay_stops {n} {w} g (r ∷ rs) h =
    go (step_at n w r.0 r.1) refl h (λ s f. replay_stops {w = apply w s} (step_graph g s f) rs)
  where
    go : (o : Option Step) → step_at n w r.0 r.1 ≡ o
        → ◌≡◌ {A = Option (List Step)} (elim o [
          | none ↦ none
          | some s ↦ elim (replay n (apply w s) rs) [ none ↦ none | some ss ↦ some (s ∷ ss) ]
        ]) none
        → ((s : Step) → Fits w s → replay n (apply w s) rs ≡ none → SomeStepNot n (apply w s) rs)
        → SomeStepNot n w (r ∷ rs)
    go none e h i = inl ((step_none g r.0 r.1).0 e)
    go (some s) e h i =
        inr (s, step_is g r.0 r.1 s e, i s (step_fits g r.0 r.1 s e) (on (replay n (apply w s) rs) h))
      where
        on : (o : Option (List Step))
            → ◌≡◌ {A = Option (List Step)} (elim o [ none ↦ none | some ss ↦ some (s ∷ ss) ]) none → o ≡ none
        on none q = refl
        on (some ss) q = (let z : ◌≡◌ {A = ℕ} 0 1 = cc in absurd (omega arith))

stops_replay : {n : ℕ} {w : Points} → Graph n w → (slip : List (Rule × ℕ)) → SomeStepNot n w slip
    → replay n w slip ≡ none
stops_replay g [] p = absurd p
stops_replay g (r ∷ rs) (inl nil) = rw ((step_none g r.0 r.1).1 nil, replay) refl
stops_replay {w = w} g (r ∷ rs) (inr p) =
    rw (step_found g r.0 r.1 p.0 p.1, replay)
    (rw (stops_replay {w = apply w p.0} (step_graph g p.0 (is_fits g r.0 r.1 p.0 p.1)) rs p.2))

pub replay_not : {n : ℕ} {w : Points} → Graph n w → (slip : List (Rule × ℕ))
    → (replay n w slip ≡ none) ↔ SomeStepNot n w slip
replay_not g slip = (replay_stops g slip, stops_replay g slip)

-- The carried points are what the steps carry, together.
pub carried_sum : (w : Points) (ss : List Step) → carried w ss ≡ together (carries w ss)
carried_sum w [] = refl
carried_sum w (s ∷ ss) = ap (λ k. carry w s + k) (carried_sum (apply w s) ss)

pub slip_count : {n : ℕ} {w : Points} → Graph n w → (ss : List Step) → Stands w ss
    → length ss + cells_left n (left w ss) ≤ cells_left n w
slip_count g [] st = omega arith
slip_count {n} {w} g (s ∷ ss) st =
    omega (arith, slip_count {w = apply w s} (step_graph g s st.0) ss st.1, step_fewer g s st.0)

pub reduce_replay : (k : ℕ) {n : ℕ} {w : Points} → Graph n w
    → replay n w (map name (reduce k n w)) ≡ some (reduce k n w)
reduce_replay zero g = refl
reduce_replay (suc k) {n} {w} g = go (first_step_of n w) refl (λ s f. reduce_replay k (step_graph g s f))
  where
    go : (o : Option Step) → first_step_of n w ≡ o
        → ((s : Step) → Fits w s
        → replay n (apply w s) (map name (reduce k n (apply w s))) ≡ some (reduce k n (apply w s)))
        → replay n w (map name (steps k n w o)) ≡ some (steps k n w o)
    go none e i = refl
    go (some s) e i =
        replay_more n w (name s) s (map name (reduce k n (apply w s))) (reduce k n (apply w s))
        (first_step_is g s e) (i s (first_fits g s e))

-- the first steps of reduce, and then those from what they left
pub reduce_append : (ss : List Step) (j n : ℕ) (w : Points) → reduce (length ss) n w ≡ ss
    → reduce (length ss + j) n w ≡ ss ++ reduce j n (left w ss)
reduce_append [] j n w h = ap (λ i. reduce i n w) {x = 0 + j} {y = j} (omega arith)
reduce_append (s ∷ ss) j n w h =
    ap (λ i. reduce i n w) {x = suc (length ss) + j} {y = suc (length ss + j)} (omega arith)
    ∙ go (first_step_of n w) h (λ t. reduce_append ss j n (apply w t))
  where
    go : (o : Option Step) → steps (length ss) n w o ≡ s ∷ ss
        → ((t : Step) → reduce (length ss) n (apply w t) ≡ ss
        → reduce (length ss + j) n (apply w t) ≡ ss ++ reduce j n (left (apply w t) ss))
        → steps (length ss + j) n w o ≡ s ∷ ss ++ reduce j n (left (apply w s) ss)
    go none e i = absurd (let q : ◌≡◌ {A = ℕ} 0 (suc (length ss)) = ap length e in omega arith)
    go (some t) e i =
        let here : t ≡ s = cc in
        let rest : reduce (length ss) n (apply w t) ≡ ss = cc in
        ap₂ ◌∷◌ here (i t rest ∙ ap (λ (x : Step). ss ++ reduce j n (left (apply w x) ss)) here)

in_turn : (k : ℕ) {n : ℕ} {w : Points} → Graph n w → cells_left n w ≤ k → InTurn n w (reduce k n w)
in_turn zero {n} {w} g h = go (first_step_of n w) refl
  where
    go : (o : Option Step) → first_step_of n w ≡ o → InTurn n w []
    go none e = (first_step_none g).0 e
    go (some s) e = absurd (omega (arith, step_fewer g s (first_fits g s e)))
in_turn (suc k) {n} {w} g h = go (first_step_of n w) refl (λ s f. in_turn k (step_graph g s f))
  where
    go : (o : Option Step) → first_step_of n w ≡ o
        → ((s : Step) → Fits w s → cells_left n (apply w s) ≤ k → InTurn n (apply w s) (reduce k n (apply w s)))
        → InTurn n w (steps k n w o)
    go none e i = (first_step_none g).0 e
    go (some s) e i =
        let f = first_fits g s e in (
          step_is g (name s).0 (name s).1 s (first_step_is g s e),
          first_step_first g s e,
          i s f (omega (arith, step_fewer g s f)),
        )

pub reduce_in_turn : {n : ℕ} {w : Points} → Graph n w → InTurn n w (reduce n n w)
reduce_in_turn {n} {w} g = in_turn n g (cells_most n w)
