-- What the parts of taking a step ask and leave. Inner contracts cite this.
use Rattle.std.specs.Prelude.{◌≡◌, ◌++◌, ℕ, suc, ◌+◌, ◌≤◌, ◌<◌, length, get_or, take}
use Rattle.buffers.specs.Map.{trail_room, at_names, unit}
use Rattle.matching.specs.Graph.{dropped}
use Rattle.matching.specs.Shapes.{IsLeaf, IsRing, IsChain, first}
use Rattle.rows.specs.Row.{words_of_row}
use Rattle.slots.specs.Slots.{Joins}
use Rattle.slots.specs.Working.{graph_in, SameBuffers}
use Rattle.slots.specs.declared.graph.WorkingGraph.{WorkingGraph}
use Rattle.finding.specs.declared.Found.{Found}
use Rattle.finding.specs.declared.Stop.{Stop}
use Rattle.trail.specs.Taking.{inner_of}

-- Where the row of a step that was found is entered from u.
abbrev pub entered : Found → ℕ → Stop
entered x u = record { end = x.first; last = u; slot = x.slot }

-- The row's k pairs are gone, its words stand on the trail, three slots are free; words from `at_names` on did not
-- change.
pub record RowGone (g g' : WorkingGraph) (t : ℕ) (s : Stop) (v k : ℕ) : Type 0 where
  pub count : k ≡ suc (length (inner_of g s))
  pub free : g'.slots ≤ 4093
  pub graph : graph_in g' ≡ dropped (inner_of g s) (graph_in g)
  pub trail : take (t + k) g'.w2.now ≡ take t g.w2.now ++ words_of_row (graph_in g) s.last (inner_of g s) v
  pub aside : (j : ℕ) → at_names ≤ j → get_or g'.w2.now j 0 ≡ get_or g.w2.now j 0
  pub buffers : SameBuffers g g'

-- A leaf, a ring and a chain that are found where they stand, with room on the trail; points fit a row word.
pub record LeafThere (g : WorkingGraph) (t v u i : ℕ) : Type 0 where
  pub is : IsLeaf 1024 (graph_in g) u v
  pub joins : Joins g.slots g.w1.now i u v
  pub room : t < trail_room

pub record RingThere (g : WorkingGraph) (t z : ℕ) (s : Stop) : Type 0 where
  pub is : IsRing 1024 (graph_in g) s.last z (inner_of g s)
  pub starts : first s.last (inner_of g s) ≡ s.end
  pub joins : Joins g.slots g.w1.now s.slot s.last s.end
  pub room : t + length (inner_of g s) + 2 ≤ trail_room
  pub fits : (a b : ℕ) → graph_in g a b < unit

pub record ChainThere (g : WorkingGraph) (t v z : ℕ) (s : Stop) : Type 0 where
  pub is : IsChain 1024 (graph_in g) s.last v z (inner_of g s)
  pub starts : first v (inner_of g s) ≡ s.end
  pub joins : Joins g.slots g.w1.now s.slot s.last s.end
  pub room : t + length (inner_of g s) + 2 ≤ trail_room
  pub fits : (a b : ℕ) → graph_in g a b < unit
