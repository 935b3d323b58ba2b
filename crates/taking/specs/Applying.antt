-- What taking a step asks and what it leaves. Inner contracts cite this.
use Rattle.std.specs.Prelude.{◌≡◌, ◌++◌, ℕ, ◌+◌, ◌≤◌, ◌<◌, length, get_or, take}
use Rattle.std.proofs.Math.Option.{some}
use Rattle.buffers.specs.Map.{trail_room, at_names, unit}
use Rattle.matching.specs.Steps.{Rule, Step, apply, carry}
use Rattle.matching.specs.Shapes.{IsStep}
use Rattle.slots.specs.Working.{graph_in, SameBuffers}
use Rattle.slots.specs.declared.graph.WorkingGraph.{WorkingGraph}
use Rattle.finding.specs.Finding.{Finds}
use Rattle.trail.specs.Trail.{step_words}
use Rattle.finding.specs.declared.Found.{Found}
use Rattle.taking.specs.declared.Taken.{Taken}

-- What taking a step asks: it is found where it stands, there is room on the trail, points fit a row word.
pub record StepThere (g : WorkingGraph) (t : ℕ) (x : Found) : Type 0 where
  pub rule : Rule
  pub cell : ℕ
  pub step : Step
  pub is : IsStep 1024 (graph_in g) rule cell step
  pub finds : Finds g.slots g.w1.now (some step) x
  pub room : t + length (step_words (graph_in g) step) ≤ trail_room
  pub fits : (a b : ℕ) → graph_in g a b < unit

-- The graph is that after the step, its words stand on the trail; words from `at_names` on did not change.
pub record StepTaken (g g' : WorkingGraph) (t : ℕ) (s : Step) (r : Taken) : Type 0 where
  pub graph : graph_in g' ≡ apply (graph_in g) s
  pub carried : r.carried ≡ carry (graph_in g) s
  pub words : r.trail ≡ t + length (step_words (graph_in g) s)
  pub trail : take r.trail g'.w2.now ≡ take t g.w2.now ++ step_words (graph_in g) s
  pub aside : (j : ℕ) → at_names ≤ j → get_or g'.w2.now j 0 ≡ get_or g.w2.now j 0
  pub buffers : SameBuffers g g'
