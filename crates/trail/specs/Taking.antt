-- What taking a row, and one pair of it, asks and leaves. Inner contracts cite this.
use Rattle.std.specs.Prelude.{◌≡◌, List, [], ◌∷◌, ◌++◌, ℕ, ◌+◌, ◌*◌, ◌≤◌, ◌<◌, suc, get_or, set, take, length}
use Rattle.buffers.specs.Map.{trail_room, at_names, unit}
use Rattle.matching.specs.Graph.{put, dropped}
use Rattle.matching.specs.Shapes.{IsRow, first}
use Rattle.rows.specs.Row.{words_of_row}
use Rattle.slots.specs.Slots.{low_of, high_of, live, Joins}
use Rattle.slots.specs.Working.{graph_in, SameBuffers}
use Rattle.slots.specs.declared.graph.WorkingGraph.{WorkingGraph}
use Rattle.finding.specs.Rows.{inner_at}
use Rattle.finding.specs.declared.Stop.{Stop}

-- The inner cells of the row that is entered at a stop.
abbrev pub inner_of : WorkingGraph → Stop → List ℕ
inner_of g s = inner_at g.slots g.w1.now s.last s.end

-- A live slot, of points that fit a word, and room for a word on the trail at place t.
pub record PairThere (g : WorkingGraph) (t : ℕ) (s : Stop) : Type 0 where
  pub below : s.slot < g.slots
  pub points : 0 < get_or g.w1.now s.slot 0
  pub fits : get_or g.w1.now s.slot 0 < unit
  pub cell : s.last < 1024
  pub room : t < trail_room

-- The pair of the slot is gone, its word stands on the trail at place t; words from `at_names` on did not change.
pub record PairTaken (g g' : WorkingGraph) (t : ℕ) (s : Stop) : Type 0 where
  pub slots : g'.slots ≡ g.slots
  pub weights : g'.w1.now ≡ set g.w1.now s.slot 0
  pub graph : graph_in g' ≡ put (low_of g.w1.now s.slot) (high_of g.w1.now s.slot) 0 (graph_in g)
  pub trail : take (t + 1) g'.w2.now ≡ take t g.w2.now ++ (s.last * unit + get_or g.w1.now s.slot 0) ∷ []
  pub fewer : live g'.slots g'.w1.now + 1 ≡ live g.slots g.w1.now
  pub aside : (j : ℕ) → at_names ≤ j → get_or g'.w2.now j 0 ≡ get_or g.w2.now j 0
  pub buffers : SameBuffers g g'

-- Two or more cells of degree two from the stop to v, entered by its slot; room for their words on the trail from
-- place t on.
pub record RowThere (g : WorkingGraph) (t : ℕ) (s : Stop) (v : ℕ) : Type 0 where
  pub row : IsRow 1024 (graph_in g) s.last (inner_of g s) v
  pub starts : first v (inner_of g s) ≡ s.end
  pub joins : Joins g.slots g.w1.now s.slot s.last s.end
  pub room : t + length (inner_of g s) < trail_room
  pub fits : (a b : ℕ) → graph_in g a b < unit

-- The row's words stand on the trail, its k pairs are gone; words from `at_names` on did not change.
pub record RowTaken (g g' : WorkingGraph) (t : ℕ) (s : Stop) (v k : ℕ) : Type 0 where
  pub count : k ≡ suc (length (inner_of g s))
  pub slots : g'.slots ≡ g.slots
  pub graph : graph_in g' ≡ dropped (inner_of g s) (graph_in g)
  pub trail : take (t + k) g'.w2.now ≡ take t g.w2.now ++ words_of_row (graph_in g) s.last (inner_of g s) v
  pub fewer : live g'.slots g'.w1.now + k ≡ live g.slots g.w1.now
  pub aside : (j : ℕ) → at_names ≤ j → get_or g'.w2.now j 0 ≡ get_or g.w2.now j 0
  pub buffers : SameBuffers g g'
