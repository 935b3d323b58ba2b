-- What the methods of the working graph promise, over the struct.
use Rattle.std.specs.Prelude.{◌≡◌, ℕ, set}
use Rattle.matching.specs.Pairs.{Points}
use Rattle.slots.specs.Slots.{graph_of, Aside}
use Rattle.slots.specs.declared.graph.WorkingGraph.{WorkingGraph}

-- The graph that it holds.
abbrev pub graph_in : WorkingGraph → Points
graph_in g = graph_of g.slots g.w1.now

-- It stands in the same two buffers.
pub record SameBuffers (g g' : WorkingGraph) : Type 0 where
  pub first : g'.w1.ghost_name ≡ g.w1.ghost_name
  pub second : g'.w2.ghost_name ≡ g.w2.ghost_name

-- What a change promises: the graph is w in e slots, and nothing aside changed.
pub record Changes (e : ℕ) (w : Points) (g g' : WorkingGraph) : Type 0 where
  pub slots : g'.slots ≡ e
  pub graph : graph_in g' ≡ w
  pub aside : Aside g.w2.now g'.w2.now
  pub buffers : SameBuffers g g'

-- The word of the second buffer at a place is x, and no other word changed.
pub record WordSet (place x : ℕ) (g g' : WorkingGraph) : Type 0 where
  pub slots : g'.slots ≡ g.slots
  pub first : g'.w1.now ≡ g.w1.now
  pub second : g'.w2.now ≡ set g.w2.now place x
  pub buffers : SameBuffers g g'

-- No more than words of the second buffer changed.
pub record WordsSet (g g' : WorkingGraph) : Type 0 where
  pub slots : g'.slots ≡ g.slots
  pub first : g'.w1.now ≡ g.w1.now
  pub buffers : SameBuffers g g'
