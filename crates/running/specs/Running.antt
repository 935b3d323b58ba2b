-- What the loop of replay and reduce asks and leaves. Inner contracts cite this; lifting goes by the trail.
use Rattle.std.specs.Prelude.{◌≡◌, List, [], ◌∷◌, ◌++◌, map, ℕ, ◌+◌, ◌-◌, ◌≤◌, ◌<◌, length, get_or, take, drop}
use Rattle.std.specs.Prelude.{Option as Perhaps, Some, None, Result, Ok, Err}
use Rattle.std.proofs.Math.Option.{Option, some, none}
use Rattle.matching.specs.Pairs.{Points}
use Rattle.matching.specs.Graph.{Graph}
use Rattle.matching.specs.Steps.{Rule, Step, name}
use Rattle.matching.specs.Find.{step_at, first_step_of}
use Rattle.matching.specs.Slip.{replay, left, carried}
use Rattle.cellfile.specs.Files.{steps_of, as_name}
use Rattle.cellfile.specs.Words.{name_word}
use Rattle.cellfile.specs.declared.decode.SlipStep.{SlipStep}
use Rattle.cellfile.specs.declared.format.Rule.TheVariants.{Leaf, Ring, Chain}
use Rattle.checks.specs.declared.Refusal.{Refusal}
use Rattle.checks.specs.declared.Refusal.TheVariants.{Disallowed}
use Rattle.buffers.specs.Buffers.{Cleared}
use Rattle.buffers.specs.Map.{at_names}
use Rattle.slots.specs.Slots.{Holds, graph_of}
use Rattle.slots.specs.Working.{graph_in, SameBuffers}
use Rattle.slots.specs.declared.graph.WorkingGraph.{WorkingGraph}
use Rattle.finding.specs.Finding.{Finds, Quiet, RingQuiet}
use Rattle.finding.specs.declared.Found.{Found}
use Rattle.finding.specs.declared.Step as declared
use Rattle.finding.specs.declared.Step.TheVariants as found
use Rattle.trail.specs.Trail.{trail, Small}
use Rattle.leaves.specs.declared.places.Room.{Room}
use Rattle.running.specs.Course.{course}
use Rattle.running.specs.declared.Name.{Name}
use Rattle.running.specs.declared.Place.{Place}
use Rattle.running.specs.declared.Ran.{Ran}

-- The steps of a slip, by rule and cell; where there may be no slip, those of the slip, or none.
abbrev pub names_of : List ℕ → List (Rule × ℕ)
names_of s = map as_name (steps_of s)

abbrev pub steps_in : {A : Type 0} → Perhaps A → (A → List (Rule × ℕ)) → List (Rule × ℕ)
steps_in None f = []
steps_in (Some r) f = f r

-- The step that comes next: the first one that is named, or else the one that reduce takes; so after k steps.
abbrev pub next_step : ℕ → Points → List (Rule × ℕ) → Option Step
next_step n w [] = first_step_of n w
next_step n w (r ∷ rs) = step_at n w r.0 r.1

abbrev pub next_step_of : ℕ → Points → List (Rule × ℕ) → ℕ → Option Step
next_step_of n w rs k = next_step n w (drop k rs)

-- How a slip names a step that was found.
abbrev pub name_in : declared.Step → Name
name_in (found.Leaf v u) = record { rule = Leaf; cell = v }
name_in (found.Ring u z) = record { rule = Ring; cell = z }
name_in (found.Chain u v z) = record { rule = Chain; cell = z }

-- After k steps this one is named, or there is none left.
abbrev pub NamedAt : List (Rule × ℕ) → ℕ → Perhaps SlipStep → Type 0
NamedAt rs k None = length rs ≤ k
NamedAt rs k (Some t) =
    (k < length rs) × (as_name (t.rule, t.cell) ≡ get_or rs k (as_name (0, 0))) × (t.cell < 1024)

-- The room after the steps that were taken, for more steps as reduce takes them; none where the slip has steps left.
pub record Spare (m more : ℕ) (taken : Ran) (r : Room) : Type 0 where
  pub trail : r.trail ≡ taken.trail
  pub names : r.names ≡ taken.steps
  pub course : taken.steps + r.most ≤ m + more
  pub slip : taken.steps < m → r.most ≡ 0

-- What is asked for: the steps that are named, then at most `more` of reduce, on the points w of n cells.
pub record Asked (n : ℕ) (w : Points) (rs : List (Rule × ℕ)) (more : ℕ) : Type 0 where
  pub cells : n ≤ 1024
  pub graph : Graph n w
  pub small : Small n w
  pub count : length rs < 8192
  pub few : more ≤ 1024

-- After the steps `taken`: the graph left, what was carried, the trail, and the steps as words of a slip.
pub record After (w : Points) (taken : List Step) (slots on_trail points steps : ℕ) (w1' w2' : List ℕ) : Type 0 where
  pub holds : Holds slots w1' w2'
  pub graph : graph_of slots w1' ≡ left w taken
  pub carries : points ≡ carried w taken
  pub trail_length : on_trail ≡ length (trail w taken)
  pub trail : take on_trail w2' ≡ trail w taken
  pub count : steps ≡ length taken
  pub names : take steps (drop at_names w2') ≡ map name_word taken

-- The course was run to its end; or a step of the slip is not allowed, and the buffers are zero.
pub record RunDone (n : ℕ) (w : Points) (rs : List (Rule × ℕ)) (more : ℕ) (slots on_trail points steps : ℕ)
    (w1' w2' : List ℕ) : Type 0 where
  pub taken : List Step
  pub course : course n w rs more ≡ some taken
  pub after : After w taken slots on_trail points steps w1' w2'

-- All words of the buffers are zero.
pub record Emptied (g g' : WorkingGraph) : Type 0 where
  pub first : Cleared g'.w1.now g'.w1.now
  pub second : Cleared g'.w2.now g'.w2.now
  pub buffers : SameBuffers g g'

abbrev pub Runs : ℕ → Points → List (Rule × ℕ) → ℕ → (g g' : WorkingGraph) → Result Ran Refusal → Type 0
Runs n w rs more g g' (Err k) = (k ≡ Disallowed) × (course n w rs more ≡ none) × Emptied g g'
Runs n w rs more g g' (Ok r) =
    RunDone n w rs more g'.slots r.trail r.carried r.steps g'.w1.now g'.w2.now × SameBuffers g g'

-- ---- between the steps

-- The steps that are still to be taken as reduce takes them, after k steps, where m are named; the course from step k
-- on.
abbrev pub fuel : ℕ → ℕ → ℕ → ℕ
fuel m more k = m + more - k - (m - k)

abbrev pub course_from : ℕ → List (Rule × ℕ) → ℕ → ℕ → Points → Option (List Step)
course_from n rs more k w = course n w (drop k rs) (fuel (length rs) more k)

-- Where the loop stands: allowed steps were taken, the rest of the course goes on from what they left, no cell below
-- `low` is a leaf, and none below `rings` is named by a ring step.
pub record Coursing (n : ℕ) (w : Points) (rs : List (Rule × ℕ)) (more : ℕ) (at : Place) (g : WorkingGraph)
    : Type 0 where
  pub asked : Asked n w rs more
  pub taken : List Step
  pub allowed : replay n w (map name taken) ≡ some taken
  pub after : After w taken g.slots at.taken.trail at.taken.carried at.taken.steps g.w1.now g.w2.now
  pub rest : course n w rs more
      ≡ elim (course_from n rs more at.taken.steps (graph_in g)) [
        | none ↦ none
        | some ss ↦ some (taken ++ ss)
      ]
  pub top : at.taken.steps ≤ length rs + more
  pub quiet : Quiet at.bounds.low (graph_in g)
  pub rings : RingQuiet at.bounds.rings (graph_in g)

-- There the step that comes next is found; m steps are named.
pub record FoundThere (m : ℕ) (at : Place) (x : Found) (g : WorkingGraph) : Type 0 where
  pub n : ℕ
  pub w : Points
  pub more : ℕ
  pub rs : List (Rule × ℕ)
  pub many : m ≡ length rs
  pub coursing : Coursing n w rs more at g
  pub step : Step
  pub next : next_step_of n (graph_in g) rs at.taken.steps ≡ some step
  pub finds : Finds g.slots g.w1.now (some step) x
  pub ahead : at.taken.steps < length rs + more
