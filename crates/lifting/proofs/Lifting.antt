-- Lift. In order: refusal 10 of a pairing, and the pairing in the table with the trail (`ten_there`, `ten_passed`);
-- refusal 9 (`nine_refused`, `nine_passed`);
-- the first part of the call leaves a trail (`start_there`), and what is brought back over it is what lift is to write
-- (`lift_passed`). Assumes nothing.
use mathlib.Core.Path.{◌≡◌, refl, sym, ap, subst, ◌∙◌}
use mathlib.Core.Bool.{Bool}
use mathlib.Core.List.{List, [], ◌∷◌, ◌++◌, map}
use mathlib.Core.Option.{Option, some, none}
use Prim.Native.Nat.{ℕ}
use native.Mathlib.Omega.{arith}
use lib.ListN.{length}
use borrow.Author.Tests.{not-false}
use Rattle.matching.specs.Pairs.{Points}
use Rattle.matching.specs.Pairing.{Pairing, is_pairing}
use Rattle.matching.specs.Steps.{Rule, Step, name}
use Rattle.matching.specs.Slip.{replay}
use Rattle.matching.specs.Origin.{all_short}
use Rattle.matching.proofs.Pairing.{is_pairing_is}
use Rattle.matching.proofs.Reduce.{replay_fits}
use Rattle.cellfile.specs.Files.{cells_of, steps_of, pairs_of, as_name}
use Rattle.checks.specs.Refusals.{Row, first}
use Rattle.cellfile.specs.Answers.{Answer}
use Rattle.checks.proofs.Rows.{first_none}
use Rattle.slots.specs.Slots.{graph_of}
use Rattle.starting.specs.Steps.{graph_in, steps_on, slip_rows}
use Rattle.checks.specs.Calls.{number, call_rows, form_row, hold_row}
use Rattle.checks.specs.declared.Refusal.{Refusal}
use Rattle.checks.specs.Answering.{Does}
use Rattle.starting.specs.Starting.{StartDone}
use Rattle.starting.specs.declared.Started.{Started}
use Rattle.checks.proofs.Answering.{refused_by, passed}
use Rattle.starting.proofs.OnList.{list_graph}
use Rattle.lifting.specs.Calls.{lift_rows, lift_file, lift_origins, lifted_file, lifted_origins}
use Rattle.lifting.specs.Calls.{graph_after}
use Rattle.partners.specs.Table.{Mates}
use Rattle.std.specs.Prelude.{Ok}
use Rattle.lifting.specs.Ending.{Change, back_to, ReturnThere, Returns}
use Rattle.lifting.specs.Tail.{after, TailThere}
use Rattle.lifting.specs.Lifting.{back_files, Enters, LiftsTail}
use Rattle.lifting.proofs.After.{return_there, tail_there}

-- ---- refusal 10

module _ {n e t count : ℕ} {w1 w2 : List ℕ} (h : TailThere n e t count w1 w2) (pairing : List ℕ) where
  abbrev left_graph : Points
  left_graph = after h.on

  abbrev ten : List Row
  ten = hold_row left_graph pairing ∷ []

  -- of what the steps leave
  held_is : {k : ℕ} → k ≡ first (hold_row (graph_of e w1) pairing ∷ []) → k ≡ first ten
  held_is q = q ∙ ap (λ (w : Points). first (hold_row w pairing ∷ [])) h.left_is

  is : 0 ≡ first ten → Pairing left_graph (pairs_of pairing)
  is q =
      is_pairing_is left_graph (pairs_of pairing)
      (not-false (is_pairing left_graph (pairs_of pairing)) (first_none ten (omega arith, tt) (sym q)).0)

  module _ {file v1 v2 : List ℕ} (f : file ≡ pairing) (x : Enters (graph_of e w1) file w2 v2 (Ok tt)) (front : v1 ≡ w1)
      (same : length v2 ≡ length w2) where
    none_holds : 0 ≡ first ten
    none_holds = held_is (x.refusal ∙ ap (λ (s : List ℕ). first (hold_row (graph_of e w1) s ∷ [])) f)

    abbrev entered : ReturnThere n t count v1 v2
    entered =
        return_there h.on v1 v2 (pairs_of pairing) (omega (arith, h.holds.room1, ap length front)) h.holds.room2 same
        (λ j l. x.aside j (omega arith)) (is none_holds)
        (subst (λ (s : List ℕ). Mates v2 all_short (pairs_of s)) f x.mates)

    pub ten_there : ReturnThere n t count v1 v2
    ten_there = entered

    pub ten_passed : {out from : Change} {a : Answer} → Returns n t count v1 v2 out from a
        → Does ten (back_files h.on pairing out from) a
    ten_passed d = passed ten [] (omega arith, tt) none_holds (d entered)

  -- ---- refusal 9

  abbrev nine : List Row
  nine = form_row n pairing ∷ []

  pub nine_refused : (r : Refusal) → number r ≡ first nine → (out from : List ℕ)
      → Does (form_row n pairing ∷ ten) (back_files h.on pairing (out, out) (from, from)) (number r, [])
  nine_refused r q out from = refused_by nine ten r q (refl, (refl, tt))

  pub nine_passed : 0 ≡ first nine → {out from : Change} {a : Answer} → Does ten (back_files h.on pairing out from) a
      → Does (form_row n pairing ∷ ten) (back_files h.on pairing out from) a
  nine_passed q d = passed nine ten (omega arith, tt) q d

-- ---- the call

-- Refusals 9 and 10, and what lift does after 1 to 8, by the cells of the list and the steps of the slip.
abbrev rows_by : (list pairing : List ℕ) → ℕ → Option (List Step) → List Row
rows_by list pairing i o =
    form_row i pairing ∷ hold_row (elim o [ none ↦ graph_in list | some ss ↦ graph_after list ss ]) pairing ∷ []

abbrev Lifts : (list pairing : List ℕ) → Change → Change → Answer → ℕ → Option (List Step) → Type 0
Lifts list pairing out from a i o =
    Does (rows_by list pairing i o)
    ((elim o [ none ↦ [] | some ss ↦ lifted_file list ss (pairs_of pairing) ], out.0, out.1)
    ∷ (elim o [ none ↦ [] | some ss ↦ lifted_origins list ss (pairs_of pairing) ], from.0, from.1) ∷ []) a

module _ (list slip : List ℕ) {at : Started} {w1 w2 : List ℕ}
    (d : StartDone list (steps_on list (steps_of slip)) at w1 w2) where
  abbrev names : List (Rule × ℕ)
  names = map as_name (steps_of slip)

  stand : replay (cells_of list) (graph_in list) (map name d.taken) ≡ some d.taken
  stand =
      ap (replay (cells_of list) (graph_in list))
      (replay_fits (list_graph list d.accepted) names d.taken d.steps_are).2
      ∙ d.steps_are

  abbrev start : TailThere at.n at.slots at.trail at.steps w1 w2
  start = tail_there list d.accepted d.taken stand d.cells d.after

  pub start_there : TailThere at.n at.slots at.trail at.steps w1 w2
  start_there = start

  pub lift_passed : (few : Bool) → 0 ≡ first (call_rows few list ++ slip_rows list slip)
      → (pairing : List ℕ) {out from : Change} {a : Answer} → LiftsTail at.n at.slots at.trail at.steps pairing w1 w2
      out from a
      → Does (call_rows few list ++ lift_rows list slip pairing)
      ((lift_file list slip pairing, out.0, out.1) ∷ (lift_origins list slip pairing, from.0, from.1) ∷ []) a
  lift_passed few z pairing {out} {from} {a} p =
      passed (call_rows few list ++ slip_rows list slip)
      (rows_by list pairing (cells_of list) (steps_on list (steps_of slip))) (omega arith) z
      (subst (Lifts list pairing out from a (cells_of list)) (sym d.steps_are) taken)
    where
      taken : Lifts list pairing out from a (cells_of list) (some d.taken)
      taken =
          subst (λ (i : ℕ). Does (form_row i pairing ∷ hold_row (graph_after list d.taken) pairing ∷ [])
          (back_to i (graph_in list) d.taken (pairs_of pairing) out from) a) d.cells (p start)
