-- A call after its steps, and the tail of pair: what is left is solved, brought back and written. Inner contracts cite
-- this; laws: proofs/Tailing.
use Rattle.std.specs.Prelude.{◌≡◌, List, [], ◌∷◌, map, ℕ, ◌≤◌, length, take}
use Rattle.std.proofs.Math.Option.{some}
use Rattle.matching.specs.Pairs.{Points}
use Rattle.matching.specs.Graph.{Graph}
use Rattle.matching.specs.Steps.{Step, name}
use Rattle.matching.specs.Slip.{replay, left}
use Rattle.checks.specs.Calls.{crowded_row}
use Rattle.cellfile.specs.Answers.{Answer}
use Rattle.slots.specs.Slots.{Holds, graph_of}
use Rattle.trail.specs.Trail.{trail, Small}
use Rattle.checks.specs.Answering.{Does}
use Rattle.lifting.specs.Ending.{Change, back_to}
use Rattle.matching.specs.Solve.{solution}
use Rattle.matching.specs.Groups.{largest}

-- The trail of t words of steps, so many, that are allowed on a graph of n cells.
pub record TrailThere (n t count : ℕ) (w2 : List ℕ) : Type 0 where
  pub w : Points
  pub steps : List Step
  pub count_is : count ≡ length steps
  pub few : count ≤ 1024
  pub cells : n ≤ 1024
  pub graph : Graph n w
  pub allowed : replay n w (map name steps) ≡ some steps
  pub small : Small n w
  pub most : t ≤ 4096
  pub trail : take t w2 ≡ trail w steps

-- The graph that the steps leave.
abbrev pub after : {n t count : ℕ} {w2 : List ℕ} → TrailThere n t count w2 → Points
after h = left h.w h.steps

-- The trail, and what the steps leave in e slots.
pub record TailThere (n e t count : ℕ) (w1 w2 : List ℕ) : Type 0 where
  pub on : TrailThere n t count w2
  pub holds : Holds e w1 w2
  pub left_is : graph_of e w1 ≡ after on

-- The solution of what is left is brought back and written, or refusal 11 or 12 says no.
abbrev pub Tails : (n e t count : ℕ) (w1 w2 : List ℕ) → Change → Change → Answer → Type 0
Tails n e t count w1 w2 out from a =
    (p : TailThere n e t count w1 w2)
    → Does (crowded_row (largest n (after p.on)) ∷ [])
    (back_to n p.on.w p.on.steps (solution n (after p.on)) out from) a
