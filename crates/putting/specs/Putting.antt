-- What putting pairs in place of a row asks and leaves. Inner contracts cite this.
use Rattle.std.specs.Prelude.{◌≡◌, ◌≢◌, Bool, ℕ, ◌+◌, ◌≤◌, ◌<◌, max, ltb}
use Rattle.matching.specs.Pairs.{Points}
use Rattle.matching.specs.Graph.{put}
use Rattle.slots.specs.Working.{graph_in, Changes}
use Rattle.slots.specs.declared.graph.WorkingGraph.{WorkingGraph}
use Rattle.putting.specs.declared.Ends.{Ends}

-- A slot is free, and x, y, two cells, have no points.
pub record Unpaired (g : WorkingGraph) (x y : ℕ) : Type 0 where
  pub free : g.slots < 4096
  pub apart : x ≢ y
  pub first_below : x < 1024
  pub last_below : y < 1024
  pub none : graph_in g x y ≡ 0

-- The pair u, v has the larger of its points and k; whether its points are greater.
pub record PairRaised (g g' : WorkingGraph) (u v k : ℕ) (more : Bool) : Type 0 where
  pub told : more ≡ ltb k (graph_in g u v)
  pub slots : g'.slots ≤ g.slots + 1
  pub changes : Changes g'.slots (put u v (max (graph_in g u v) k) (graph_in g)) g g'

-- Three slots are free; u, v, z are three cells, of which z has no points with u and v.
pub record EndsThere (g : WorkingGraph) (x : Ends) : Type 0 where
  pub free : g.slots ≤ 4093
  pub ends_apart : x.u ≢ x.v
  pub first_apart : x.u ≢ x.z
  pub last_apart : x.v ≢ x.z
  pub first_below : x.u < 1024
  pub last_below : x.v < 1024
  pub inner_below : x.z < 1024
  pub first_none : graph_in g x.u x.z ≡ 0
  pub last_none : graph_in g x.v x.z ≡ 0

-- The three pairs of a chain's ends and z, put for its row.
abbrev pub ends : Points → Ends → Points
ends w x = put x.u x.z x.uz (put x.v x.z x.vz (put x.u x.v (max (w x.u x.v) x.uv) w))

pub record EndsPut (g g' : WorkingGraph) (x : Ends) (more : Bool) : Type 0 where
  pub told : more ≡ ltb x.uv (graph_in g x.u x.v)
  pub changes : Changes g'.slots (ends (graph_in g) x) g g'
