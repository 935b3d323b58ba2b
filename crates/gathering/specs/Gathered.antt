-- The cells of a group and the points between them, gathered for crate sets. Only inner contracts cite this (laws:
-- proofs/Runs and proofs/Gathering).
--
-- Second buffer: from `at_starts` on for each cell where the run of its rows starts; from `at_points` on the points
-- from place i to a higher place j at 12 × i + j; from `at_places` on the cells at their places; from `at_labels` on
-- the links.
use Rattle.std.specs.Prelude.{◌≡◌, ◌⊎◌, ◌≢◌, cond, List, ℕ, suc, ◌+◌, ◌*◌, ◌/◌, ◌%◌, ◌≤◌, ◌<◌, eqb, ltb, length, get_or}
use Rattle.std.specs.Prelude.{Option, None, Some}
use Rattle.std.specs.Option.{MatchOption}
use Rattle.buffers.specs.Map.{unit, at_cells, at_starts, at_points, at_places}
use Rattle.matching.specs.Lists.{All, mem, Ascends}
use Rattle.matching.specs.Pairs.{Points}
use Rattle.matching.specs.Listed.{short_below, short_list}
use Rattle.cellfile.specs.Words.{row_word, no_entry, RowsOf, points_room}
use Rattle.grouping.specs.Finding.{link_in, Leads}

-- The cell at place i, and the points at i, j.
abbrev pub cell_in : List ℕ → ℕ → ℕ
cell_in w2 i = get_or w2 (at_places + i) 0

abbrev pub points_in : List ℕ → ℕ → ℕ → ℕ
points_in w2 i j = get_or w2 (at_points + (12 * i + j)) 0

-- Only words from k on and before m changed.
pub record Only (k m : ℕ) (w2 w2' : List ℕ) : Type 0 where
  pub long : length w2' ≡ length w2
  pub same : (j : ℕ) → (j < k) ⊎ (m ≤ j) → get_or w2' j 0 ≡ get_or w2 j 0

-- ---- runs

-- From i on the lower cells are a up to j, which is r or has another.
pub record RunEnd (i r a : ℕ) (w1 : List ℕ) (j : ℕ) : Type 0 where
  pub within : (i ≤ j) × (j ≤ r)
  pub own : (x : ℕ) → i ≤ x → x < j → get_or w1 (at_cells + x) 0 ≡ a
  pub past : j < r → get_or w1 (at_cells + j) 0 ≢ a

-- The pairs of a graph of n cells stand as r rows and cells.
pub record StartsThere (n : ℕ) (w : Points) (r : ℕ) (w1 w2 : List ℕ) : Type 0 where
  pub room1 : 8192 ≤ length w1
  pub room2 : 8192 ≤ length w2
  pub most : r ≤ 4096
  pub cells : n ≤ 1024
  pub rows : RowsOf (short_list n w) r w1

-- The run of the rows of a cell starts behind those of the lower cells.
abbrev pub Starts : ℕ → Points → List ℕ → Type 0
Starts n w w2 = (a : ℕ) → a < n → get_or w2 (at_starts + a) 0 ≡ length (short_below n w a)

pub record StartsIn (n : ℕ) (w : Points) (w2 w2' : List ℕ) : Type 0 where
  pub starts : Starts n w w2'
  pub only : Only at_starts at_points w2 w2'

-- ---- cells

-- The words for crate sets are zero.
pub record Blank (w2 w2' : List ℕ) : Type 0 where
  pub zeros : (m : ℕ) → m < 156 → get_or w2' (at_points + m) 0 ≡ 0
  pub only : Only at_points (at_places + 12) w2 w2'

-- The links lead from d over the cells cs.
pub record LinksThere (cs : List ℕ) (d : ℕ) (w2 : List ℕ) : Type 0 where
  pub room2 : 8192 ≤ length w2
  pub leads : Leads (link_in w2) (suc d) cs
  pub low : All (λ c. c < 1024) cs

-- They stand at their places, and their number is told; or they are more than 12.
pub record Gathers (cs : List ℕ) (w2 w2' : List ℕ) (r : Option ℕ) : Type 0 where
  pub told : MatchOption r (12 < length cs)
      (λ k. (k ≤ 12) × (k ≡ length cs) × ((i : ℕ) → i < k → cell_in w2' i ≡ get_or cs i 0))
  pub others : (i : ℕ) → i < 12 → (cell_in w2' i < 1024) ⊎ (cell_in w2' i ≡ cell_in w2 i)
  pub only : Only at_places (at_places + 12) w2 w2'

-- ---- points

-- The points of the row at e, if it is before the end and of the cell b.
abbrev pub points_between : List ℕ → (e end b : ℕ) → Option ℕ
points_between w1 e end b =
    cond (ltb e end) (cond (eqb (get_or w1 e 0 / unit) b) (Some (get_or w1 e 0 % unit)) None) None

-- The cells cs, which ascend and have no pairs but with one another, stand at the first k places, and the rows of the
-- graph in the first buffer, with where the runs start.
pub record PlacesThere (w : Points) (cs : List ℕ) (k : ℕ) (w1 w2 : List ℕ) : Type 0 where
  pub room1 : 8192 ≤ length w1
  pub room2 : 8192 ≤ length w2
  pub few : k ≤ 12
  pub count : k ≡ length cs
  pub places : (i : ℕ) → i < k → cell_in w2 i ≡ get_or cs i 0
  pub rise : Ascends (λ a b. a < b) cs
  pub n : ℕ
  pub cells : n ≤ 1024
  pub low : All (λ c. c < n) cs
  pub closed : (a b : ℕ) → 0 < w a b → mem a cs ≡ mem b cs
  pub small : (a b : ℕ) → w a b < points_room
  pub most : length (short_list n w) ≤ 4096
  pub rows : (i : ℕ) → i < length (short_list n w) → get_or w1 i 0 ≡ row_word (get_or (short_list n w) i no_entry)
  pub starts : Starts n w w2
  pub light : (m : ℕ) → m < 144 → get_or w2 (at_points + m) 0 < points_room

-- The points from place i to the higher places below k are those of the graph; only points at place i changed.
pub record RowIn (w : Points) (cs : List ℕ) (k i : ℕ) (w2 w2' : List ℕ) : Type 0 where
  pub points : (j : ℕ) → i < j → j < k → points_in w2' i j ≡ w (get_or cs i 0) (get_or cs j 0)
  pub light : (m : ℕ) → m < 144 → get_or w2' (at_points + m) 0 < points_room
  pub only : Only (at_points + 12 * i) (at_points + 12 * i + 12) w2 w2'

-- The same for each of the first k places.
pub record PointsIn (w : Points) (cs : List ℕ) (k : ℕ) (w2 w2' : List ℕ) : Type 0 where
  pub points : (i j : ℕ) → i < j → j < k → points_in w2' i j ≡ w (get_or cs i 0) (get_or cs j 0)
  pub light : (m : ℕ) → m < 144 → get_or w2' (at_points + m) 0 < points_room
  pub only : Only at_points at_places w2 w2'
