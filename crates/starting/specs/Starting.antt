-- The first part of a call: its inputs are checked, then its steps taken. Inner contracts cite this; lifting starts so
-- too.
use Rattle.std.specs.Prelude.{◌≡◌, List, ℕ, Result, Ok, Err}
use Rattle.std.proofs.Math.Option.{Option, some, none}
use Rattle.matching.specs.Steps.{Rule, Step}
use Rattle.cellfile.specs.Files.{cells_of}
use Rattle.checks.specs.Refusals.{Row, first, lists, list_rows}
use Rattle.checks.specs.Calls.{number}
use Rattle.checks.specs.declared.Refusal.{Refusal}
use Rattle.checks.specs.declared.Refusal.TheVariants.{Disallowed}
use Rattle.starting.specs.Steps.{graph_in}
use Rattle.running.specs.Course.{course}
use Rattle.running.specs.Running.{After}
use Rattle.starting.specs.declared.Started.{Started}
use Rattle.buffers.specs.Buffers.{Cleared}

-- The list is accepted, and these steps were taken on it.
pub record StartDone (list : List ℕ) (o : Option (List Step)) (s : Started) (w1' w2' : List ℕ) : Type 0 where
  pub accepted : first (list_rows lists list) ≡ 0
  pub cells : s.n ≡ cells_of list
  pub taken : List Step
  pub steps_are : o ≡ some taken
  pub after : After (graph_in list) taken s.slots s.trail s.carried s.steps w1' w2'

-- One of the rows refuses, or none does and the steps were taken.
abbrev pub Starts : List Row → List ℕ → Option (List Step) → (w1' w2' : List ℕ) → Result Started Refusal → Type 0
Starts rows list o w1' w2' (Err refusal) = number refusal ≡ first rows
Starts rows list o w1' w2' (Ok s) = (0 ≡ first rows) × StartDone list o s w1' w2'

-- A refusal clears the buffers, and nothing else changes them.
abbrev pub Settles : (w1 w2 w1' w2' : List ℕ) → Result Started Refusal → Type 0
Settles w1 w2 w1' w2' (Err refusal) = Cleared w1 w1' × Cleared w2 w2'
Settles w1 w2 w1' w2' (Ok s) = (w1' ≡ w1) × (w2' ≡ w2)

-- A refusal leaves the work buffers zero.
abbrev pub RefusedClears : (w1 w2 w1' w2' : List ℕ) → Result Started Refusal → Type 0
RefusedClears w1 w2 w1' w2' (Err refusal) = Cleared w1 w1' × Cleared w2 w2'
RefusedClears w1 w2 w1' w2' (Ok s) = Unit {0}

-- The course of the steps that are named and then at most `more`; a step that is named is not allowed, or it was run.
abbrev pub course_on : List ℕ → List (Rule × ℕ) → ℕ → Option (List Step)
course_on list rs more = course (cells_of list) (graph_in list) rs more

abbrev pub Takes : List ℕ → Option (List Step) → (w1' w2' : List ℕ) → Result Started Refusal → Type 0
Takes list o w1' w2' (Err refusal) = (refusal ≡ Disallowed) × (o ≡ none)
Takes list o w1' w2' (Ok s) = StartDone list o s w1' w2'
