-- Reduce. In order: its steps are allowed; what they leave may be written (`reduce_left`); and that is what reduce is
-- to write (`reduce_passed`). Assumes nothing.
use mathlib.Core.Path.{◌≡◌, sym, ap, subst, ◌∙◌}
use mathlib.Core.Bool.{Bool}
use mathlib.Core.List.{List, [], ◌∷◌, map}
use mathlib.Core.Option.{Option, some, none}
use Prim.Native.Nat.{ℕ, ◌≤◌}
use native.Mathlib.Omega.{arith}
use lib.ListN.{length}
use Rattle.matching.specs.Steps.{Step, name}
use Rattle.matching.specs.Slip.{replay}
use Rattle.matching.proofs.Reduce.{reduce_replay}
use Rattle.cellfile.specs.Files.{slip as slip_layout, cells_of, write_file, name_fields}
use Rattle.checks.specs.Refusals.{first, lists, list_rows}
use Rattle.cellfile.specs.Answers.{Answer}
use Rattle.slots.specs.Slots.{graph_of}
use Rattle.slots.proofs.Holding.{holds_room}
use Rattle.starting.specs.Steps.{graph_in, reduce_steps}
use Rattle.reduction.specs.Calls.{short_file, slip_file}
use Rattle.running.specs.Running.{After}
use Rattle.running.specs.Pairs.{PairsLeft}
use Rattle.reduction.specs.Writing.{left_file, taken_file}
use Rattle.checks.specs.Calls.{call_rows}
use Rattle.checks.specs.Answering.{Does}
use Rattle.starting.specs.Starting.{StartDone}
use Rattle.starting.specs.declared.Started.{Started}
use Rattle.checks.proofs.Answering.{passed}
use Rattle.starting.proofs.OnList.{list_graph, left_there, steps_few, steps_below}
use Rattle.reduction.proofs.Ends.{slip_file_is}
use Rattle.reduction.proofs.Replaying.{left_file_is}

pub reduce_allowed : (list : List ℕ) → first (list_rows lists list) ≡ 0
    → replay (cells_of list) (graph_in list) (map name (reduce_steps list)) ≡ some (reduce_steps list)
reduce_allowed list h = reduce_replay (cells_of list) (list_graph list h)

module _ (list : List ℕ) {at : Started} {w1' w2' : List ℕ}
    (d : StartDone list (some (reduce_steps list)) at w1' w2') where
  abbrev ss : List Step
  ss = reduce_steps list

  -- the steps taken are those of reduce
  pub reduce_after : After (graph_in list) ss at.slots at.trail at.carried at.steps w1' w2'
  reduce_after =
      subst (λ (ts : List Step). After (graph_in list) ts at.slots at.trail at.carried at.steps w1' w2')
      (ap there (sym d.steps_are)) d.after
    where
      there : Option (List Step) → List Step
      there o = elim o [ none ↦ [] | some ts ↦ ts ]

  allowed : replay (cells_of list) (graph_in list) (map name ss) ≡ some ss
  allowed = reduce_allowed list d.accepted

  pub reduce_left : PairsLeft at.n at.slots w1' × (at.steps ≤ 1024) × (8192 ≤ length w2')
  reduce_left = (
    left_there list d.accepted (map name ss) ss allowed d.cells reduce_after,
    omega (arith, reduce_after.count, steps_few list d.accepted (map name ss) ss allowed),
    (holds_room reduce_after.holds).1,
  )

  slip_same : taken_file at.n at.steps w2' ≡ slip_file list ss
  slip_same =
      slip_file_is at.n at.steps w2' ss reduce_after.names (steps_below list d.accepted (map name ss) ss allowed)
      ∙ ap (λ (i : ℕ). write_file slip_layout (record { cells = i; extra = []; entries = map name_fields ss }))
      d.cells

  pub reduce_passed : (few : Bool) → 0 ≡ first (call_rows few list)
      → (slip short : List ℕ) {slip' short' : List ℕ} {a : Answer}
      → Does [] ((taken_file at.n at.steps w2', slip, slip')
      ∷ (left_file at.n at.carried (graph_of at.slots w1'), short, short') ∷ []) a
      → Does (call_rows few list) ((slip_file list ss, slip, slip') ∷ (short_file list ss, short, short') ∷ []) a
  reduce_passed few z slip short {slip'} {short'} {a} p =
      passed (call_rows few list) [] (omega arith) z
      (subst (λ (f : List ℕ). Of (slip_file list ss) f) (left_file_is list ss d.cells reduce_after)
      (subst (λ (f : List ℕ). Of f (left_file at.n at.carried (graph_of at.slots w1'))) slip_same p))
    where
      Of : List ℕ → List ℕ → Type 0
      Of f g = Does [] ((f, slip, slip') ∷ (g, short, short') ∷ []) a
