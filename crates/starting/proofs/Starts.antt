-- The first part of a call. In order: what the start left in the buffers that a refusal then clears does not count
-- (`settled`, `settled_clears`); a slip names few
-- steps (`named_few`); the steps that the loop took as those of a slip (`slip_starts`) and as those of reduce
-- (`reduce_starts`). Assumes nothing.
use mathlib.Core.Path.{◌≡◌, sym, ap, ◌∙◌}
use mathlib.Core.Bool.{Bool, true, false, not}
use mathlib.Core.List.{List, [], ◌∷◌, ◌++◌}
use mathlib.Core.Option.{Option, some, none}
use Prim.Native.Nat.{ℕ, ◌<◌}
use native.Mathlib.Omega.{arith}
use lib.ListN.{length}
use Rattle.std.specs.Prelude.{Result, Ok, Err, Option as Perhaps, Some, None}
use Rattle.matching.specs.Steps.{Step}
use Rattle.matching.specs.Slip.{reduce}
use Rattle.cellfile.specs.Files.{cells_of, steps_of}
use Rattle.checks.specs.Refusals.{Row, first, rules, bad_slip}
use Rattle.checks.specs.Calls.{number, call_rows}
use Rattle.checks.specs.declared.Refusal.{Refusal}
use Rattle.checks.proofs.Layers.{after_passed}
use Rattle.starting.specs.Steps.{graph_in, steps_on, slip_rows, reduce_steps}
use Rattle.running.specs.Running.{names_of, steps_in}
use Rattle.running.proofs.Course.{names_count}
use Rattle.checks.proofs.Accepted.{count_fits}
use Rattle.starting.specs.Starting.{StartDone, Starts, course_on, Takes, RefusedClears, Settles}
use Rattle.starting.specs.declared.Started.{Started}
use Rattle.starting.proofs.OnList.{course_replay}
use Rattle.buffers.specs.Buffers.{zeros}

-- ---- a refusal clears the buffers

pub settled : (rows : List Row) (list : List ℕ) (o : Option (List Step)) (w1 w2 w1' w2' : List ℕ)
    (r : Result Started Refusal) → Starts rows list o w1 w2 r → Settles w1 w2 w1' w2' r → Starts rows list o w1' w2' r
settled rows list o w1 w2 w1' w2' (Err refusal) s h = s
settled rows list o w1 w2 w1' w2' (Ok started) s h = rw (h.0, h.1) s

pub settled_clears : (v1 v2 w1 w2 w1' w2' : List ℕ) (r : Result Started Refusal) → length w1 ≡ length v1
    → length w2 ≡ length v2 → Settles w1 w2 w1' w2' r → RefusedClears v1 v2 w1' w2' r
settled_clears v1 v2 w1 w2 w1' w2' (Err refusal) p q h = (h.0 ∙ ap zeros p, h.1 ∙ ap zeros q)
settled_clears v1 v2 w1 w2 w1' w2' (Ok started) p q h = tt

-- ---- the steps

-- the steps that a slip names are few
pub named_few : {A : Type 0} (slip : Perhaps A) (file : A → List ℕ)
    → length (steps_in slip (λ r. names_of (file r))) < 8192
named_few None file = omega arith
named_few (Some r) file = omega (arith, names_count (file r), count_fits (file r))

-- the steps under another name
renamed : {list : List ℕ} {o p : Option (List Step)} {s : Started} {w1' w2' : List ℕ} → p ≡ o
    → StartDone list o s w1' w2' → StartDone list p s w1' w2'
renamed q d = record {
  accepted = d.accepted;
  cells = d.cells;
  taken = d.taken;
  steps_are = q ∙ d.steps_are;
  after = d.after;
}

-- Refusal 7, from the answer of the slip's check.
abbrev pub seven : List ℕ → List ℕ → List Row
seven list slip = (7, bad_slip rules (cells_of list) slip) ∷ []

pub slip_checked : {list : List ℕ} (slip : List ℕ) {n low high j : ℕ} {file : List ℕ} → file ≡ list → n ≡ cells_of file
    → low ≡ 1 → high ≡ 3 → j ≡ first ((7, bad_slip (low, high) n slip) ∷ []) → j ≡ first (seven list slip)
slip_checked slip {n} {low} {high} q en l h e =
    e
    ∙ ap (λ (i : ℕ). first ((7, bad_slip (i, high) n slip) ∷ [])) l
    ∙ ap (λ (i : ℕ). first ((7, bad_slip (1, i) n slip) ∷ [])) h
    ∙ ap (λ (i : ℕ). first ((7, bad_slip rules i slip) ∷ [])) (en ∙ ap cells_of q)

-- of a slip
module _ (few : Bool) (list slip : List ℕ) (w1' w2' : List ℕ) where
  on_slip : steps_on list (steps_of slip) ≡ course_on list (names_of slip) 0
  on_slip = sym (course_replay (cells_of list) (graph_in list) (names_of slip))

  -- Refusal 8, by the steps that the slip names.
  abbrev eight : Option (List Step) → List Row
  eight o = (8, not (elim o [ none ↦ false | some ss ↦ true ])) ∷ []

  behind_seven : {j : ℕ} → 0 ≡ first (call_rows few list) → 0 ≡ first (seven list slip)
      → j ≡ first (eight (steps_on list (steps_of slip))) → j ≡ first (call_rows few list ++ slip_rows list slip)
  behind_seven p q h =
      after_passed (call_rows few list) (slip_rows list slip) (omega arith) p
      (after_passed (seven list slip) (eight (steps_on list (steps_of slip))) (omega arith, tt) q h)

  pub slip_starts : (r : Result Started Refusal) → 0 ≡ first (call_rows few list) → 0 ≡ first (seven list slip)
      → Takes list (course_on list (names_of slip) 0) w1' w2' r
      → Starts (call_rows few list ++ slip_rows list slip) list (steps_on list (steps_of slip)) w1' w2' r
  slip_starts (Err refusal) p q (e, h) =
      behind_seven p q (ap number e ∙ sym (ap (λ o. first (eight o)) (on_slip ∙ h)))
  slip_starts (Ok s) p q d =
      (behind_seven p q (sym (ap (λ o. first (eight o)) (on_slip ∙ d.steps_are))), renamed on_slip d)

-- of reduce
module _ (list : List ℕ) {n : ℕ} (en : n ≡ cells_of list) (w1' w2' : List ℕ) where
  on_reduce : some (reduce_steps list) ≡ course_on list [] n
  on_reduce = ap (λ (i : ℕ). some (reduce i (cells_of list) (graph_in list))) (sym en)

  pub reduce_starts : (rows : List Row) (r : Result Started Refusal) → 0 ≡ first rows
      → Takes list (course_on list [] n) w1' w2' r → Starts rows list (some (reduce_steps list)) w1' w2' r
  reduce_starts rows (Err refusal) p (q, h) =
      let z : ◌≡◌ {A = ℕ} 1 0 = ap there (on_reduce ∙ h) in
      absurd (omega arith)
    where
      there : Option (List Step) → ℕ
      there o = elim o [ none ↦ 0 | some ss ↦ 1 ]
  reduce_starts rows (Ok s) p d = (p, renamed on_reduce d)
