-- The way back on a table of partners. Inner contracts cite this.
--
-- The table stands in the second buffer behind the trail: for each cell 0, or its partner below the stamp of the pair.
use Rattle.std.specs.Prelude.{◌≡◌, List, ◌++◌, map, ℕ, ◌≤◌, ◌<◌, length, take}
use Rattle.std.proofs.Math.Option.{some}
use Rattle.buffers.specs.Map.{trail_room, unit}
use Rattle.matching.specs.Pairs.{Pair, Points}
use Rattle.matching.specs.Pairing.{Pairing}
use Rattle.matching.specs.Graph.{Graph}
use Rattle.matching.specs.Shapes.{IsStep}
use Rattle.matching.specs.Steps.{Step, name, apply, added, undo}
use Rattle.matching.specs.Slip.{replay, left, lift}
use Rattle.matching.specs.Origin.{Origins, stamped, origins_by}
use Rattle.trail.specs.Trail.{step_words, trail, Small}
use Rattle.partners.specs.Table.{Mates}

-- The last step on the trail of t words, of that number, as it stood on the graph w, and a pairing of the graph after
-- it.
pub record UndoThere (t number : ℕ) (w1 w2 : List ℕ) : Type 0 where
  pub room1 : 8192 ≤ length w1
  pub most : t ≤ trail_room
  pub n : ℕ
  pub w : Points
  pub step : Step
  pub rest : List ℕ
  pub from : Origins
  pub pairs : List Pair
  pub few : number < 2048
  pub cells : n ≤ 1024
  pub graph : Graph n w
  pub is : IsStep n w (name step).0 (name step).1 step
  pub small : (a b : ℕ) → w a b < unit
  pub trail : take t w2 ≡ rest ++ step_words w step
  pub pairing : Pairing (apply w step) pairs
  pub mates : Mates w2 from pairs

-- The step is undone: its words are behind the rest of the trail, r words.
pub record Undone (t number : ℕ) (w1 w2 w2' : List ℕ) (r : ℕ) (u : UndoThere t number w1 w2) : Type 0 where
  pub left : r ≡ length u.rest
  pub fewer : r < t
  pub trail : take r w2' ≡ u.rest
  pub mates : Mates w2' (stamped number u.step (added u.w u.step u.pairs) u.from)
      (undo u.w u.step u.pairs)

-- The trail of all steps of a slip that is allowed, so many, and a pairing of what it leaves.
pub record BackThere (t count : ℕ) (w1 w2 : List ℕ) : Type 0 where
  pub room1 : 8192 ≤ length w1
  pub most : t ≤ trail_room
  pub n : ℕ
  pub w : Points
  pub steps : List Step
  pub from : Origins
  pub pairs : List Pair
  pub count_is : count ≡ length steps
  pub few : count < 2048
  pub cells : n ≤ 1024
  pub graph : Graph n w
  pub allowed : replay n w (map name steps) ≡ some steps
  pub small : Small n w
  pub trail : take t w2 ≡ trail w steps
  pub pairing : Pairing (left w steps) pairs
  pub mates : Mates w2 from pairs

-- All steps are undone.
abbrev pub Lifted : (t count : ℕ) (w1 w2 w2' : List ℕ) → BackThere t count w1 w2 → Type 0
Lifted t count w1 w2 w2' b =
    Mates w2' (origins_by b.from b.w 1 b.steps b.pairs) (lift b.w b.steps b.pairs)
