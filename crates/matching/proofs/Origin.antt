-- Where each pair came from. In order: the last step of a slip is undone first (`lift_last`, `origins_last`); the pairs
-- of a list are held (`each_held`); a step's number is among those of the slip (`origins_few`); the origin of a lifted
-- pair is the step whose undoing last put it in, or the short list where none did (`came_from`). Assumes nothing.
use mathlib.Core.Path.{◌≡◌, refl, ap, ap₂, subst, ◌∙◌}
use mathlib.Core.Bool.{Bool, true, false, cond}
use mathlib.Core.List.{List, [], ◌∷◌, ◌++◌}
use Prim.Native.Nat.{ℕ, suc, ◌+◌, ◌≤◌, ◌<◌}
use native.Mathlib.Omega.{arith}
use lib.ListN.{length}
use Rattle.matching.specs.Pairs.{Pair, Points, sum, Each, keep, like, held}
use Rattle.matching.specs.Steps.{Rule, Step, name, apply, added, stays, undo}
use Rattle.matching.specs.Slip.{left, lift}
use Rattle.matching.specs.Origin.{Origin, from_short, from_step, Origins, all_short, stamped, origins_by, origins}
use Rattle.matching.specs.Origin.{number_in, puts, LastPut, Stood, CameFrom}
use Rattle.matching.proofs.Tests.{Test, pass, fail, lt_test, holds, passes}
use Rattle.matching.proofs.Sums.{sum_append, sum_keep, like_self, like_flip}

-- ---- the last step is undone first

pub lift_last : (w : Points) (ss : List Step) (s : Step) (m : List Pair)
    → lift w (ss ++ s ∷ []) m ≡ lift w ss (undo (left w ss) s m)
lift_last w [] s m = refl
lift_last w (t ∷ ss) s m = ap (undo w t) (lift_last (apply w t) ss s m)

pub origins_last : (o : Origins) (w : Points) (k : ℕ) (ss : List Step) (s : Step) (m : List Pair)
    → origins_by o w k (ss ++ s ∷ []) m
    ≡ origins_by (stamped (k + length ss) s (added (left w ss) s m) o) w k ss (undo (left w ss) s m)
origins_last o w k [] s m =
    let e : k ≡ k + 0 = omega arith in
    ap (λ (j : ℕ). stamped j s (added w s m) o) e
origins_last o w k (t ∷ ss) s m =
    let e : suc k + length ss ≡ k + suc (length ss) = omega arith in
    ap₂ (λ (l : List Pair) (q : Origins). stamped k t (added w t l) q) (lift_last (apply w t) ss s m)
    (origins_last o (apply w t) (suc k) ss s m
    ∙ ap (λ (j : ℕ). origins_by (stamped j s (added (left (apply w t) ss) s m) o) (apply w t) (suc k) ss
    (undo (left (apply w t) ss) s m)) e)

-- ---- the pairs of a list are held, from either cell

pub each_held : (l all : List Pair) → ((a b : ℕ) → sum (like a b) l ≤ sum (like a b) all)
    → Each (λ a b. (held a b all ≡ true) × (held b a all ≡ true)) l
each_held [] all h = tt
each_held ((a, b) ∷ l) all h = (
  (
    passes (lt_test 0 (sum (like a b) all)) (λ n. omega (arith, h a b, like_self a b)),
    passes (lt_test 0 (sum (like b a) all)) (λ n. omega (arith, h b a, like_self a b, like_flip b a a b)),
  ),
  each_held l all (λ x y. omega (arith, h x y)),
)

-- ---- the numbers of the steps

pub origins_few : (top : ℕ) (o : Origins) → ((a b : ℕ) → number_in (o a b) < top)
    → (w : Points) (k : ℕ) (ss : List Step)
    (m : List Pair) → k + length ss ≤ top → (a b : ℕ) → number_in (origins_by o w k ss m a b) < top
origins_few top o h w k [] m l a b = h a b
origins_few top o h w k (s ∷ ss) m l a b =
    go (held a b (added w s (lift (apply w s) ss m)))
    (origins_few top o h (apply w s) (suc k) ss m (omega arith) a b)
  where
    go : (t : Bool) → number_in (origins_by o (apply w s) (suc k) ss m a b) < top
        → number_in (cond t (from_step k (name s).0) (origins_by o (apply w s) (suc k) ss m a b)) < top
    go true i = omega arith
    go false i = i

-- ---- the step whose undoing last put the pair in

no_cons : {P : Type 0} (s : Step) (ss : List Step) → ◌≡◌ {A = List Step} [] (s ∷ ss) → P
no_cons s ss e = (let z : ◌≡◌ {A = ℕ} 0 1 = cc in absurd (omega arith))

no_append : {P : Type 0} (first : List Step) (s : Step) (rest : List Step) → [] ≡ first ++ s ∷ rest → P
no_append [] s rest e = no_cons s rest e
no_append (t ∷ first) s rest e = no_cons t (first ++ s ∷ rest) e

module _ (m : List Pair) (a b : ℕ) where
  -- Of the steps after the first k.
  abbrev Came : ℕ → Points → List Step → Origin → Type 0
  Came k w ss from_short = Stood w m a b ss
  Came k w ss (from_step number rule) = (j : ℕ) × (number ≡ k + j) × LastPut w m a b ss j rule

  -- a pair that is held after the undoing and was not put in by it was held before
  was_held : (w : Points) (s : Step) (l : List Pair) → held a b (undo w s l) ≡ true → held a b (added w s l) ≡ false
      → held a b l ≡ true
  was_held w s l h n =
      fits (lt_test 0 (sum (like a b) l)) (holds (lt_test 0 (sum (like a b) (undo w s l))) h)
    where
      none : sum (like a b) (added w s l) ≡ 0
      none = go (lt_test 0 (sum (like a b) (added w s l))) n
        where
          go : {t : Bool} → Test (0 < sum (like a b) (added w s l)) (sum (like a b) (added w s l) ≤ 0) t → t ≡ false
              → sum (like a b) (added w s l) ≡ 0
          go (pass p) e = (let z : ◌≡◌ {A = ℕ} 0 1 = cc in omega arith)
          go (fail p) e = omega arith

      fits : {t : Bool} → Test (0 < sum (like a b) l) (sum (like a b) l ≤ 0) t → 0 < sum (like a b) (undo w s l)
          → t ≡ true
      fits (pass p) q = refl
      fits (fail p) q =
          absurd (omega (
            arith,
            none,
            sum_append (like a b) (added w s l) (keep (stays w s) l),
            sum_keep (stays w s) (like a b) l,
          ))

  module _ (w : Points) (s : Step) (ss : List Step) where
    put_first : (k : ℕ) → puts w m a b [] s ss ≡ true → Came k w (s ∷ ss) (from_step (suc k) (name s).0)
    put_first k e = (
      1,
      omega arith,
      record {
        before = [];
        step = s;
        after = ss;
        slip = refl;
        counts = refl;
        by = refl;
        put = e;
        last = λ first t rest q. no_append first t rest q;
      },
    )

    module _ (n : puts w m a b [] s ss ≡ false) where
      stood_first : held a b (lift w (s ∷ ss) m) ≡ true → Stood (apply w s) m a b ss → Stood w m a b (s ∷ ss)
      stood_first h i = record { stood = all; never = none }
        where
          all : (before after : List Step) → s ∷ ss ≡ before ++ after → held a b (lift (left w before) after m) ≡ true
          all [] after e = subst (λ (l : List Step). held a b (lift w l m) ≡ true) e h
          all (t ∷ before) after e =
              let p : s ≡ t = cc in
              let q : ss ≡ before ++ after = cc in
              subst (λ (x : Step). held a b (lift (left (apply w x) before) after m) ≡ true) p (i.stood before after q)

          none : (before : List Step) (t : Step) (after : List Step) → s ∷ ss ≡ before ++ t ∷ after
              → puts w m a b before t after ≡ false
          none [] t after e =
              let p : s ≡ t = cc in
              let q : ss ≡ after = cc in
              subst (λ (l : List Step). puts w m a b [] t l ≡ false) q
              (subst (λ (x : Step). puts w m a b [] x ss ≡ false) p n)
          none (x ∷ before) t after e =
              let p : s ≡ x = cc in
              let q : ss ≡ before ++ t ∷ after = cc in
              subst (λ (y : Step). puts (apply w y) m a b before t after ≡ false) p (i.never before t after q)

      last_first : (j : ℕ) (rule : Rule) → LastPut (apply w s) m a b ss j rule → LastPut w m a b (s ∷ ss) (suc j) rule
      last_first j rule i = record {
        before = s ∷ i.before;
        step = i.step;
        after = i.after;
        slip = ap (λ (l : List Step). s ∷ l) i.slip;
        counts = ap suc i.counts;
        by = i.by;
        put = i.put;
        last = later;
      }
        where
          later : (first : List Step) (t : Step) (rest : List Step) → s ∷ i.before ≡ first ++ t ∷ rest
              → puts w m a b first t (rest ++ i.step ∷ i.after) ≡ false
          later [] t rest e =
              let p : s ≡ t = cc in
              let q : i.before ≡ rest = cc in
              subst (λ (l : List Step). puts w m a b [] t (l ++ i.step ∷ i.after) ≡ false) q
              (subst (λ (x : Step). puts w m a b [] x (i.before ++ i.step ∷ i.after) ≡ false) p
              (subst (λ (l : List Step). puts w m a b [] s l ≡ false) i.slip n))
          later (x ∷ first) t rest e =
              let p : s ≡ x = cc in
              let q : i.before ≡ first ++ t ∷ rest = cc in
              subst (λ (y : Step). puts (apply w y) m a b first t (rest ++ i.step ∷ i.after) ≡ false) p
              (i.last first t rest q)

      came_first : (k : ℕ) (o : Origin) → held a b (lift w (s ∷ ss) m) ≡ true → Came (suc k) (apply w s) ss o
          → Came k w (s ∷ ss) o
      came_first k from_short h i = stood_first h i
      came_first k (from_step number rule) h (j, e, i) = (suc j, omega arith, last_first j rule i)

  came : (k : ℕ) (w : Points) (ss : List Step) → held a b (lift w ss m) ≡ true
      → Came k w ss (origins_by all_short w (suc k) ss m a b)
  came k w [] h = record {
    stood = all;
    never = λ before t after e. no_append before t after e;
  }
    where
      all : (before after : List Step) → [] ≡ before ++ after → held a b (lift (left w before) after m) ≡ true
      all [] after e = subst (λ (l : List Step). held a b (lift w l m) ≡ true) e h
      all (t ∷ before) after e = no_cons t (before ++ after) e
  came k w (s ∷ ss) h =
      go (puts w m a b [] s ss) refl (λ e. came (suc k) (apply w s) ss (was_held w s (lift (apply w s) ss m) h e))
    where
      on : Origin
      on = origins_by all_short (apply w s) (suc (suc k)) ss m a b

      go : (t : Bool) → puts w m a b [] s ss ≡ t → (puts w m a b [] s ss ≡ false → Came (suc k) (apply w s) ss on)
          → Came k w (s ∷ ss)
          (cond t (from_step (suc k) (name s).0) on)
      go true e i = put_first w s ss k e
      go false e i = came_first w s ss e k on h (i e)

  -- The origin of a lifted pair is the step whose undoing last put it in, or the short list where none did.
  pub came_from : (w : Points) (ss : List Step) → held a b (lift w ss m) ≡ true
      → CameFrom w m a b ss (origins w ss m a b)
  came_from w ss h = go (origins w ss m a b) (came 0 w ss h)
    where
      go : (o : Origin) → Came 0 w ss o → CameFrom w m a b ss o
      go from_short i = i
      go (from_step number rule) (j, e, i) =
          (let q : j ≡ number = omega arith in subst (λ (x : ℕ). LastPut w m a b ss x rule) q i)
