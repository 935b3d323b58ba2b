-- Replay. In order: what its steps leave may be written (`left_file_is`, `replay_left`), and that is what replay is to
-- write (`replay_passed`). Assumes nothing.
use mathlib.Core.Path.{◌≡◌, sym, ap, subst, ◌∙◌}
use mathlib.Core.Bool.{Bool}
use mathlib.Core.List.{List, [], ◌∷◌, ◌++◌, map}
use mathlib.Core.Option.{Option, some, none}
use Prim.Native.Nat.{ℕ}
use native.Mathlib.Omega.{arith}
use Rattle.matching.specs.Steps.{Step}
use Rattle.matching.specs.Slip.{carried}
use Rattle.cellfile.specs.Files.{cells_of, steps_of, as_name}
use Rattle.checks.specs.Refusals.{first}
use Rattle.cellfile.specs.Answers.{Answer}
use Rattle.slots.specs.Slots.{graph_of}
use Rattle.starting.specs.Steps.{graph_in, steps_on, slip_rows}
use Rattle.checks.specs.Calls.{call_rows}
use Rattle.reduction.specs.Calls.{short_file, replay_short}
use Rattle.running.specs.Running.{After}
use Rattle.starting.specs.Starting.{StartDone}
use Rattle.starting.specs.declared.Started.{Started}
use Rattle.running.specs.Pairs.{PairsLeft}
use Rattle.reduction.specs.Writing.{left_file}
use Rattle.checks.specs.Answering.{Does}
use Rattle.checks.proofs.Answering.{passed}
use Rattle.starting.proofs.OnList.{left_there}

-- the short list that is written is that of the steps taken
pub left_file_is : (list : List ℕ) (ss : List Step) {n slots trail points steps : ℕ} {w1' w2' : List ℕ}
    → n ≡ cells_of list
    → After (graph_in list) ss slots trail points steps w1' w2'
    → left_file n points (graph_of slots w1') ≡ short_file list ss
left_file_is list ss {slots = slots} {points = points} {w1' = w1'} en a =
    ap (λ (i : ℕ). left_file i points (graph_of slots w1')) en
    ∙ ap (λ (i : ℕ). left_file (cells_of list) i (graph_of slots w1')) a.carries
    ∙ ap (left_file (cells_of list) (carried (graph_in list) ss)) a.graph

module _ (list slip : List ℕ) {at : Started} {w1' w2' : List ℕ}
    (d : StartDone list (steps_on list (steps_of slip)) at w1' w2') where
  pub replay_left : PairsLeft at.n at.slots w1'
  replay_left =
      left_there list d.accepted (map as_name (steps_of slip)) d.taken d.steps_are d.cells d.after

  pub replay_passed : (few : Bool) → 0 ≡ first (call_rows few list ++ slip_rows list slip)
      → (out : List ℕ) {out' : List ℕ} {a : Answer}
      → Does [] ((left_file at.n at.carried (graph_of at.slots w1'), out, out') ∷ []) a
      → Does (call_rows few list ++ slip_rows list slip) ((replay_short list slip, out, out') ∷ []) a
  replay_passed few z out {out'} {a} p =
      passed (call_rows few list ++ slip_rows list slip) [] (omega arith) z
      (subst (λ file. Does [] ((file, out, out') ∷ []) a) same p)
    where
      same : left_file at.n at.carried (graph_of at.slots w1') ≡ replay_short list slip
      same =
          left_file_is list d.taken d.cells d.after
          ∙ ap (λ (o : Option (List Step)). elim o [ none ↦ [] | some ss ↦ short_file list ss ]) (sym d.steps_are)
