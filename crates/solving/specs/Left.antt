-- Solving what is left in the slots. Inner contracts cite this.
use Rattle.std.specs.Prelude.{◌≡◌, List, Option, ℕ, ◌≤◌, ◌<◌}
use Rattle.std.specs.Option.{MatchOption}
use Rattle.matching.specs.Pairs.{Points, sum}
use Rattle.matching.specs.Graph.{Graph}
use Rattle.matching.specs.Solve.{solution}
use Rattle.matching.specs.Groups.{largest}
use Rattle.matching.specs.Origin.{all_short}
use Rattle.slots.specs.Slots.{Holds, graph_of}
use Rattle.cellfile.specs.Words.{points_room}
use Rattle.partners.specs.Table.{Mates, TrailKept}

-- e slots hold a graph of n cells, with points of 44 bits.
pub record LeftThere (n e : ℕ) (w1 w2 : List ℕ) : Type 0 where
  pub holds : Holds e w1 w2
  pub cells : n ≤ 1024
  pub graph : Graph n (graph_of e w1)
  pub small : (a b : ℕ) → graph_of e w1 a b < points_room

-- The partners of the solution stand in the table, and its points are v; or some group has more than 12 cells.
pub record SolvedIn (n : ℕ) (w : Points) (w2 w2' : List ℕ) (v : ℕ) : Type 0 where
  pub few : largest n w ≤ 12
  pub value : v ≡ sum w (solution n w)
  pub mates : Mates w2' all_short (solution n w)
  pub aside : TrailKept w2 w2'

abbrev pub Solves : ℕ → Points → (w2 w2' : List ℕ) → Option ℕ → Type 0
Solves n w w2 w2' r = MatchOption r (12 < largest n w) (SolvedIn n w w2 w2')
