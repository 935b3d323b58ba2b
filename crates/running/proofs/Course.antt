-- The course of steps. In order: the names of a slip one by one (`names_count`, `steps_in_count`, `name_read`;
-- `named_is`; `names_next`, `names_out`); the course from step k on, by its next step (`course_on_is`,
-- `course_refused`, `course_ends`, `course_out`) and by steps that reduce takes (`course_more`); steps before a course
-- (`behind_append`, `behind_nil`, `behind_none`); the step that comes next is found by its name (`next_named`). Assumes
-- nothing.
use mathlib.Core.Path.{◌≡◌, refl, sym, ap, ap₂, subst, ◌∙◌}
use mathlib.Core.Bool.{Bool}
use mathlib.Core.List.{List, [], ◌∷◌, ◌++◌, append-nil, append_assoc}
use mathlib.Core.Option.{Option, some, none}
use Rattle.std.specs.Prelude.{Option as Perhaps, Some, None, MatchOption, IfSome}
use Rattle.std.specs.Option.{is_some}
use Rattle.std.proofs.lemmas.Bool.{ltb-true, ltb-false}
use Prim.Native.Nat.{ℕ, suc, ◌+◌, ◌≤◌, ◌<◌}
use native.Mathlib.Omega.{arith}
use lib.Dec.{ltb}
use lib.ListN.{length, get_or, drop, length-map, drop_of_length-le, get_or-map}
use Rattle.matching.specs.Pairs.{Points}
use Rattle.matching.specs.Graph.{Graph}
use Rattle.matching.specs.Steps.{Rule, Step, apply, name}
use Rattle.matching.specs.Find.{step_at}
use Rattle.matching.specs.Slip.{left, reduce}
use Rattle.matching.proofs.Tests.{Test, pass, fail, lt_test}
use Rattle.matching.proofs.Find.{step_is, step_name, first_step_is}
use Rattle.matching.proofs.Reduce.{reduce_append}
use Rattle.matching.proofs.Behind.{behind}
use Rattle.cellfile.specs.Files.{slip as slip_layout, count_of, read_entries, steps_of, as_pair, as_name}
use Rattle.cellfile.specs.Reads.{StepRead, WholeFile}
use Rattle.cellfile.specs.declared.decode.SlipStep.{SlipStep}
use Rattle.cellfile.proofs.Walk.{steps_count, next}
use Rattle.running.specs.Course.{course}
use Rattle.running.specs.Running.{names_of, steps_in, next_step, next_step_of, NamedAt, fuel, course_from}

-- ---- the names of a slip

pub names_count : (s : List ℕ) → length (names_of s) ≡ count_of s
names_count s = length-map (steps_of s) as_name ∙ steps_count s

-- how many there are where there may be no slip, by what is known of its count
pub steps_in_count : {A : Type 0} (slip : Perhaps A) (f : A → List (Rule × ℕ)) {k : ℕ} {Q : A → Type 0}
    → MatchOption slip (k ≡ 0) Q → ((r : A) → Q r → k ≡ length (f r)) → k ≡ length (steps_in slip f)
steps_in_count None f h is = h
steps_in_count (Some r) f h is = is r h

-- the name at a place, by the step read there
pub name_read : (s : List ℕ) (k : ℕ) → k < count_of s → {t : SlipStep} → StepRead s k t
    → as_name (t.rule, t.cell) ≡ get_or (names_of s) k (as_name (0, 0))
name_read s k l r =
    ap as_name (ap as_pair r.is ∙ sym (get_or-map as_pair (read_entries slip_layout s) k []))
    ∙ sym (get_or-map as_name (steps_of s) k (0, 0))

-- the step after k others, or there is none
pub named_is : (s : List ℕ) {m : ℕ} (k : ℕ) → WholeFile slip_layout s m → (t : Perhaps SlipStep) → is_some t ≡ ltb k m
    → IfSome t (StepRead s k) → NamedAt (names_of s) k t
named_is s {m} k h None e r = omega (arith, h.count, names_count s, ltb-false k m (sym e))
named_is s {m} k h (Some t) e r =
    let l = ltb-true k m (sym e) in (
      omega (arith, h.count, names_count s, l),
      name_read s k (omega (arith, h.count, l)) r,
      r.fits.cell,
    )

module _ (rs : List (Rule × ℕ)) (k : ℕ) where
  pub names_next : k < length rs → drop k rs ≡ get_or rs k (as_name (0, 0)) ∷ drop (k + 1) rs
  names_next l = next rs k (as_name (0, 0)) _ l refl

  pub names_out : length rs ≤ k → drop k rs ≡ []
  names_out l = drop_of_length-le rs {i = k} l

-- ---- a course by its next step

module _ (n : ℕ) (rs : List (Rule × ℕ)) (more k : ℕ) (w : Points) where
  abbrev m : ℕ
  m = length rs

  -- The course that has this step next; `end` where there is none.
  abbrev by_step : Option (List Step) → Option Step → Option (List Step)
  by_step end o =
      elim o [ none ↦ end | some s ↦ behind (s ∷ []) (course_from n rs more (k + 1) (apply w s)) ]

  named : k < length rs → course_from n rs more k w ≡ by_step none (next_step_of n w rs k)
  named l =
      let e = names_next rs k l in
      let q : fuel m more k ≡ fuel m more (k + 1) = omega arith in
      ap₂ (course n w) e q ∙ ap (λ xs. by_step none (next_step n w xs)) (sym e)

  reduced : m ≤ k → k < m + more
      → course_from n rs more k w ≡ by_step (some []) (next_step_of n w rs k)
  reduced l b =
      let e = names_out rs k l in
      let q : fuel m more k ≡ suc (fuel m more (k + 1)) = omega arith in
      ap₂ (course n w) e q ∙ go (next_step n w []) ∙ ap (λ xs. by_step (some []) (next_step n w xs)) (sym e)
    where
      go : (o : Option Step)
          → some (elim o [ none ↦ [] | some s ↦ s ∷ reduce (fuel m more (k + 1)) n (apply w s) ]) ≡ by_step (some []) o
      go none = refl
      go (some s) =
          ap (λ xs. behind (s ∷ []) (course n (apply w s) xs (fuel m more (k + 1))))
          (sym (names_out rs (k + 1) (omega arith)))

  pub course_on_is : k < m + more → (s : Step) → next_step_of n w rs k ≡ some s
      → course_from n rs more k w ≡ behind (s ∷ []) (course_from n rs more (k + 1) (apply w s))
  course_on_is b s h = go (lt_test k m)
    where
      go : {t : Bool} → Test (k < m) (m ≤ k) t
          → course_from n rs more k w ≡ behind (s ∷ []) (course_from n rs more (k + 1) (apply w s))
      go (pass l) = named l ∙ ap (by_step none) h
      go (fail l) = reduced l b ∙ ap (by_step (some [])) h

  pub course_refused : k < m → next_step_of n w rs k ≡ none → course_from n rs more k w ≡ none
  course_refused l h = named l ∙ ap (by_step none) h

  pub course_ends : m ≤ k → k < m + more → next_step_of n w rs k ≡ none
      → course_from n rs more k w ≡ some []
  course_ends l b h = reduced l b ∙ ap (by_step (some [])) h

  pub course_out : m + more ≤ k → course_from n rs more k w ≡ some []
  course_out l =
      let q : fuel m more k ≡ 0 = omega arith in
      ap₂ (course n w) (names_out rs k (omega arith)) q

  pub course_more : m ≤ k → (ss : List Step) → k + length ss ≤ m + more → reduce (length ss) n w ≡ ss
      → course_from n rs more k w ≡ behind ss (course_from n rs more (k + length ss) (left w ss))
  course_more l ss b h =
      let q : fuel m more k ≡ length ss + fuel m more (k + length ss) = omega arith in
      ap₂ (course n w) (names_out rs k l) q ∙ ap some (reduce_append ss (fuel m more (k + length ss)) n w h)
      ∙ ap (λ xs. behind ss (course n (left w ss) xs (fuel m more (k + length ss))))
      (sym (names_out rs (k + length ss) (omega arith)))

-- ---- steps before a course

pub behind_append : (ss ts : List Step) (o : Option (List Step)) → behind ss (behind ts o) ≡ behind (ss ++ ts) o
behind_append ss ts none = refl
behind_append ss ts (some us) = ap some (sym (append_assoc ss ts us))

pub behind_nil : (ss : List Step) → behind ss (some []) ≡ some ss
behind_nil ss = ap some (append-nil ss)

pub behind_none : (o : Option (List Step)) → behind [] o ≡ o
behind_none none = refl
behind_none (some ss) = refl

-- ---- the step that comes next

pub next_named : {n : ℕ} {w : Points} → Graph n w → (rs : List (Rule × ℕ)) (s : Step) → next_step n w rs ≡ some s
    → step_at n w (name s).0 (name s).1 ≡ some s
next_named g [] s h = first_step_is g s h
next_named {n} {w} g (r ∷ rs) s h =
    subst (λ (x : Rule × ℕ). step_at n w x.0 x.1 ≡ some s)
    (sym (step_name g r.0 r.1 s (step_is g r.0 r.1 s h))) h
