-- The way back through all the steps on the trail. In order: a slip that is allowed, without its last step
-- (`replay_last`); of some steps there is a last one (`back_last`), which is to be undone (`back_there`); what undoing
-- it leaves is a trail to go back on with the same outcome (`Onward`, `onward_there`, `onward_next`); no step is the
-- end of it (`onward_end`). Assumes nothing.
use mathlib.Core.Path.{◌≡◌, refl, sym, ap, subst, ◌∙◌}
use mathlib.Core.Logic.{◌⊎◌, inl, inr}
use mathlib.Core.List.{List, [], ◌∷◌, ◌++◌, append-nil, map}
use mathlib.Core.Option.{Option, some, none}
use Prim.Native.Nat.{ℕ, suc, ◌+◌, ◌-◌, ◌<◌}
use native.Mathlib.Omega.{arith}
use lib.ListN.{length, length-append}
use Rattle.matching.specs.Pairs.{Pair, Points}
use Rattle.matching.specs.Pairing.{Pairing}
use Rattle.matching.specs.Graph.{Graph}
use Rattle.matching.specs.Steps.{Rule, Step, name, apply, added, undo}
use Rattle.matching.specs.Origin.{Origins, stamped, origins_by}
use Rattle.matching.specs.Find.{step_at}
use Rattle.matching.specs.Slip.{replay, left, lift}
use Rattle.matching.proofs.Find.{step_is, step_fits}
use Rattle.matching.proofs.Exact.{step_lifted}
use Rattle.matching.proofs.Behind.{left_append}
use Rattle.matching.proofs.Origin.{lift_last, origins_last}
use Rattle.matching.proofs.Reduce.{replay_fits, replay_more}
use Rattle.matching.proofs.Demand.{slip_graph}
use Rattle.trail.specs.Trail.{step_words, trail}
use Rattle.trail.proofs.Trail.{trail_append}
use Rattle.partners.specs.Table.{Mates}
use Rattle.undoing.specs.Back.{UndoThere, Undone, BackThere, Lifted}

-- ---- a slip without its last step

steps_none : {P : Type 0} (ss : List Step) → ◌≡◌ {A = Option (List Step)} none (some ss) → P
steps_none ss q = (let y : ◌≡◌ {A = ℕ} 0 1 = cc in absurd (omega arith))

-- the first step and the others
replay_first : (n : ℕ) (w : Points) (r : Rule × ℕ) (rs : List (Rule × ℕ)) (s : Step) (ss : List Step)
    → replay n w (r ∷ rs) ≡ some (s ∷ ss)
    → (step_at n w r.0 r.1 ≡ some s) × (replay n (apply w s) rs ≡ some ss)
replay_first n w r rs s ss = go (step_at n w r.0 r.1)
  where
    on : Step → Option (List Step) → Option (List Step)
    on x o = elim o [ none ↦ none | some xs ↦ some (x ∷ xs) ]

    go : (o : Option Step) → elim o [ none ↦ none | some x ↦ on x (replay n (apply w x) rs) ] ≡ some (s ∷ ss)
        → (o ≡ some s) × (replay n (apply w s) rs ≡ some ss)
    go none q = steps_none (s ∷ ss) q
    go (some x) q = at (replay n (apply w x) rs) refl q
      where
        at : (o : Option (List Step)) → replay n (apply w x) rs ≡ o → on x o ≡ some (s ∷ ss)
            → (some x ≡ some s) × (replay n (apply w s) rs ≡ some ss)
        at none e q = steps_none (s ∷ ss) q
        at (some xs) e q =
            let a : x ≡ s = cc in
            let b : xs ≡ ss = cc in
            (ap some a, subst (λ (y : Step). replay n (apply w y) rs ≡ some ss) a (e ∙ ap some b))

replay_last : (n : ℕ) (w : Points) (ss : List Step) (s : Step)
    → replay n w (map name (ss ++ s ∷ [])) ≡ some (ss ++ s ∷ [])
    → (replay n w (map name ss) ≡ some ss) × (step_at n (left w ss) (name s).0 (name s).1 ≡ some s)
replay_last n w [] s h = (refl, (replay_first n w (name s) [] s [] h).0)
replay_last n w (t ∷ ss) s h =
    let f = replay_first n w (name t) (map name (ss ++ s ∷ [])) t (ss ++ s ∷ []) h in
    let i = replay_last n (apply w t) ss s f.1 in
    (replay_more n w (name t) t (map name ss) ss f.0 i.0, i.1)

-- ---- the last step of a trail

-- The steps before the last one, and the last one.
record Last {t count : ℕ} {w1 w2 : List ℕ} (b : BackThere t count w1 w2) : Type 0 where
  init : List Step
  step : Step
  is : b.steps ≡ init ++ step ∷ []

-- What the way back makes of a pairing, and where its pairs come from.
abbrev pairs_of : {t count : ℕ} {w1 w2 : List ℕ} → BackThere t count w1 w2 → List Pair
pairs_of b = lift b.w b.steps b.pairs

abbrev from_of : {t count : ℕ} {w1 w2 : List ℕ} → BackThere t count w1 w2 → Origins
from_of b = origins_by b.from b.w 1 b.steps b.pairs

-- A trail to go back on with the same outcome.
abbrev pub Onward : {t count : ℕ} {w1 w2 : List ℕ} → BackThere t count w1 w2 → ℕ → ℕ → List ℕ → List ℕ → Type 0
Onward b r number w1' w2' = (d : BackThere r number w1' w2') × (pairs_of d ≡ pairs_of b) × (from_of d ≡ from_of b)

last_view : (ss : List Step) → (ss ≡ []) ⊎ ((init : List Step) × (s : Step) × (ss ≡ init ++ s ∷ []))
last_view [] = inl refl
last_view (t ∷ ss) = go (last_view ss)
  where
    go : (ss ≡ []) ⊎ ((init : List Step) × (s : Step) × (ss ≡ init ++ s ∷ []))
        → (t ∷ ss ≡ []) ⊎ ((init : List Step) × (s : Step) × (t ∷ ss ≡ init ++ s ∷ []))
    go (inl e) = inr ([], t, ap (λ (xs : List Step). t ∷ xs) e)
    go (inr (init, s, e)) = inr (t ∷ init, s, ap (λ (xs : List Step). t ∷ xs) e)

module _ {t count : ℕ} {w1 w2 : List ℕ} (b : BackThere t count w1 w2) where
  back_last : 0 < count → Last b
  back_last l = go (last_view b.steps)
    where
      go : (b.steps ≡ []) ⊎ ((init : List Step) × (s : Step) × (b.steps ≡ init ++ s ∷ [])) → Last b
      go (inl e) =
          (let z : ⊥ = omega (arith, b.count_is, ap (λ (ss : List Step). length ss) e) in absurd z)
      go (inr (init, s, e)) = record { init = init; step = s; is = e }

  back_none : count ≡ 0 → Lifted t count w1 w2 w2 b
  back_none z = go b.steps refl
    where
      go : (ss : List Step) → b.steps ≡ ss → Mates w2 (from_of b) (pairs_of b)
      go [] e =
          subst (λ (xs : List Step). Mates w2 (origins_by b.from b.w 1 xs b.pairs) (lift b.w xs b.pairs))
          (sym e) b.mates
      go (s ∷ ss) e =
          (let y : ⊥ = omega (arith, b.count_is, ap (λ (xs : List Step). length xs) e) in absurd y)

  module _ (l : Last b) where
    abbrev before : Points
    before = left b.w l.init

    split : (replay b.n b.w (map name l.init) ≡ some l.init)
        × (step_at b.n before (name l.step).0 (name l.step).1 ≡ some l.step)
    split =
        replay_last b.n b.w l.init l.step
        (subst (λ (xs : List Step). replay b.n b.w (map name xs) ≡ some xs) l.is b.allowed)

    before_graph : Graph b.n before
    before_graph =
        slip_graph b.graph l.init (replay_fits b.graph (map name l.init) l.init split.0).0

    last_pairing : Pairing (apply before l.step) b.pairs
    last_pairing =
        subst (λ (w : Points). Pairing w b.pairs)
        (ap (left b.w) l.is ∙ left_append b.w l.init (l.step ∷ [])) b.pairing

    count_last : count ≡ suc (length l.init)
    count_last = omega (arith, b.count_is, ap length l.is, length-append l.init (l.step ∷ []))

    back_there : UndoThere t count w1 w2
    back_there = record {
      room1 = b.room1;
      most = b.most;
      n = b.n;
      w = before;
      step = l.step;
      rest = trail b.w l.init;
      from = b.from;
      pairs = b.pairs;
      few = b.few;
      cells = b.cells;
      graph = before_graph;
      is = step_is before_graph (name l.step).0 (name l.step).1 l.step split.1;
      small = λ x y. omega (arith, b.small (map name l.init) l.init split.0 x y);
      trail =
          b.trail
          ∙ ap (trail b.w) l.is
          ∙ trail_append b.w l.init (l.step ∷ [])
          ∙ ap (λ (xs : List ℕ). trail b.w l.init ++ xs) (append-nil (step_words before l.step));
      pairing = last_pairing;
      mates = b.mates;
    }

    abbrev after : Origins
    after = stamped count l.step (added before l.step b.pairs) b.from

    back_on : {r : ℕ} {w1' w2' : List ℕ} → length w1' ≡ length w1
        → Undone t count w1 w2 w2' r back_there → Onward b r (count - 1) w1' w2'
    unfolding back_there
    back_on {r} {w1'} {w2'} p u = (d, same_pairs, same_from)
      where
        d : BackThere r (count - 1) w1' w2'
        d = record {
          room1 = omega (arith, p, b.room1);
          most = omega (arith, u.fewer, b.most);
          n = b.n;
          w = b.w;
          steps = l.init;
          from = after;
          pairs = undo before l.step b.pairs;
          count_is = omega (arith, count_last);
          few = omega (arith, b.few);
          cells = b.cells;
          graph = b.graph;
          allowed = split.0;
          small = b.small;
          trail = u.trail;
          pairing =
              (step_lifted before_graph l.step
              (step_fits before_graph (name l.step).0 (name l.step).1 l.step split.1)
              b.pairs last_pairing).0;
          mates = u.mates;
        }

        same_pairs : lift b.w l.init (undo before l.step b.pairs) ≡ pairs_of b
        same_pairs =
            sym (ap (λ (xs : List Step). lift b.w xs b.pairs) l.is
            ∙ lift_last b.w l.init l.step b.pairs)

        same_from : origins_by after b.w 1 l.init (undo before l.step b.pairs) ≡ from_of b
        same_from =
            let e : 1 + length l.init ≡ count = omega (arith, count_last) in
            sym (ap (λ (xs : List Step). origins_by b.from b.w 1 xs b.pairs) l.is
            ∙ origins_last b.from b.w 1 l.init l.step b.pairs
            ∙ ap (λ (k : ℕ). origins_by (stamped k l.step (added before l.step b.pairs) b.from) b.w 1
            l.init (undo before l.step b.pairs)) e)

-- ---- the loop

module _ {t count left number : ℕ} {w1₀ w2₀ w1 w2 : List ℕ} (b : BackThere t count w1₀ w2₀)
    (o : Onward b left number w1 w2) where
  pub onward_there : 0 < number → UndoThere left number w1 w2
  onward_there l = back_there o.0 (back_last o.0 l)

  pub onward_next : {r : ℕ} {w1' w2' : List ℕ} → 0 < number → length w1' ≡ length w1
      → ((u : UndoThere left number w1 w2) → Undone left number w1 w2 w2' r u) → Onward b r (number - 1) w1' w2'
  onward_next l p d =
      let k = back_last o.0 l in
      let n = back_on o.0 k p (d (back_there o.0 k)) in
      (n.0, n.1 ∙ o.1, n.2 ∙ o.2)

  pub onward_end : number ≡ 0 → Lifted t count w1₀ w2₀ w2 b
  onward_end z =
      subst (λ (f : Origins). Mates w2 f (pairs_of b)) o.2
      (subst (Mates w2 (from_of o.0)) o.1 (back_none o.0 z))
