-- What a run of leaf steps at one cell asks and leaves: the steps are reduce's, the graph is what they leave. Inner
-- contracts cite this; nobody has to believe it.
use Rattle.std.specs.Prelude.{◌≡◌, ◌≢◌, List, [], ◌∷◌, ◌++◌, map, ℕ, ◌+◌, ◌≤◌, ◌<◌, length, get_or, set, take, drop}
use Rattle.std.specs.Prelude.{Option as Perhaps, Some, None}
use Rattle.buffers.specs.Map.{at_names}
use Rattle.matching.specs.Pairs.{Points}
use Rattle.matching.specs.Graph.{Graph, partners, degree}
use Rattle.matching.specs.Steps.{Step, leaf}
use Rattle.matching.specs.Slip.{left, carried, reduce}
use Rattle.slots.specs.Slots.{graph_of, Joins, less_all}
use Rattle.slots.specs.Working.{graph_in, SameBuffers}
use Rattle.slots.specs.declared.graph.WorkingGraph.{WorkingGraph}
use Rattle.finding.specs.Finding.{Quiet}
use Rattle.trail.specs.Trail.{closing}
use Rattle.leaves.specs.declared.Due.{Due}
use Rattle.leaves.specs.declared.Due.TheVariants.{Nothing, Points as due_points, Elsewhere}
use Rattle.leaves.specs.declared.LeafRun.{LeafRun}
use Rattle.leaves.specs.declared.places.Room.{Room}

-- r is not above the points of slot i, where it joins u with a cell that is no leaf.
abbrev pub NotAbove : ℕ → List ℕ → ℕ → ℕ → ℕ → Type 0
NotAbove e w1 u i r = (f : ℕ) → Joins e w1 i u f → degree 1024 (graph_of e w1) f ≢ 1 → r ≤ get_or w1 i 0

abbrev pub KeptPoints : ℕ → List ℕ → ℕ → ℕ → Perhaps ℕ → Type 0
KeptPoints e w1 u i None = (r : ℕ) → NotAbove e w1 u i r
KeptPoints e w1 u i (Some r) = NotAbove e w1 u i r

-- Where the pairs at u lose less than r, only leaves lose theirs, and some pair stays.
pub record Slack (w : Points) (u r : ℕ) : Type 0 where
  pub others : (x : ℕ) → 0 < w u x → degree 1024 w x ≢ 1 → r ≤ w u x
  pub stays : (y : ℕ) × (r ≤ w u y)

-- c is a leaf of u, and r are the points of its pair.
abbrev pub LeafOf : Points → ℕ → ℕ → ℕ → Type 0
LeafOf w u c r = (partners 1024 w c ≡ u ∷ []) × (r ≡ w u c)

-- What c is to a run at u: no leaf; a leaf of u with these points; anything.
abbrev pub DueThere : Points → ℕ → ℕ → Due → Type 0
DueThere w u c Nothing = degree 1024 w c ≢ 1
DueThere w u c (due_points r) = LeafOf w u c r
DueThere w u c Elsewhere = Unit {0}

-- What a run at u from the cell c on asks: no cell below c is a leaf.
pub record LeafRunThere (n u c : ℕ) (g : WorkingGraph) : Type 0 where
  pub cells : n ≤ 1024
  pub graph : Graph n (graph_in g)
  pub quiet : Quiet c (graph_in g)
  pub hub : u < 1024

-- The leaf steps at u of some cells; their words on the trail, and as words of a slip.
abbrev pub leaves_at : ℕ → List ℕ → List Step
leaves_at u cells = map (leaf u) cells

abbrev pub leaf_words : ℕ → List ℕ → List ℕ
leaf_words u cells = map (λ v. closing 1 u v 0 0 0) cells

abbrev pub leaf_names : List ℕ → List ℕ
leaf_names cells = map (λ v. 1024 + v) cells

-- The words of the leaf step at v stand on the trail at place t and among the names at place k; nothing else changed.
pub record Noted (t k u v : ℕ) (g g' : WorkingGraph) : Type 0 where
  pub slots : g'.slots ≡ g.slots
  pub first : g'.w1.now ≡ g.w1.now
  pub second : g'.w2.now ≡ set (set g.w2.now t (closing 1 u v 0 0 0)) (at_names + k) (1024 + v)
  pub buffers : SameBuffers g g'

-- The words of these steps stand in w2', which was w2: on the trail from place t on, among the names from place k on.
pub record Words (t k u : ℕ) (cells w2 w2' : List ℕ) : Type 0 where
  pub trail : take (t + length cells) w2' ≡ take t w2 ++ leaf_words u cells
  pub names : take (k + length cells) (drop at_names w2') ≡ take k (drop at_names w2) ++ leaf_names cells

-- After the run, before the pairs at u have lost the points.
pub record Owes (n u : ℕ) (room : Room) (g g' : WorkingGraph) (r : LeafRun) : Type 0 where
  pub cells : List ℕ
  pub slots : g'.slots ≡ g.slots
  pub weights : g'.w1.now ≡ g.w1.now
  pub words : Words room.trail room.names u cells g.w2.now g'.w2.now
  pub first : reduce (length cells) n (graph_in g) ≡ leaves_at u cells
  pub count : r.steps ≡ length cells
  pub few : r.steps ≤ room.most
  pub graph : less_all u r.carried (graph_in g) ≡ left (graph_in g) (leaves_at u cells)
  pub carries : r.carried ≡ carried (graph_in g) (leaves_at u cells)
  pub quiet : (x : ℕ) → x < r.low → x ≢ u → degree 1024 (less_all u r.carried (graph_in g)) x ≢ 1
  pub buffers : SameBuffers g g'

-- After the run.
pub record Taken (n : ℕ) (room : Room) (g g' : WorkingGraph) (r : LeafRun) : Type 0 where
  pub hub : ℕ
  pub cells : List ℕ
  pub words : Words room.trail room.names hub cells g.w2.now g'.w2.now
  pub first : reduce (length cells) n (graph_in g) ≡ leaves_at hub cells
  pub count : r.steps ≡ length cells
  pub few : r.steps ≤ room.most
  pub graph : graph_in g' ≡ left (graph_in g) (leaves_at hub cells)
  pub carries : r.carried ≡ carried (graph_in g) (leaves_at hub cells)
  pub quiet : Quiet r.low (graph_in g')
  pub buffers : SameBuffers g g'

-- The same, and the slots in use stay.
pub record TakenInSlots (n : ℕ) (room : Room) (g g' : WorkingGraph) (r : LeafRun) : Type 0 where
  pub slots : g'.slots ≡ g.slots
  pub taken : Taken n room g g' r
