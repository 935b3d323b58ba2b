-- The groups solved one by one and joined in the table of partners. Only inner contracts cite this; laws:
-- proofs/Joining and proofs/Groups.
use Rattle.std.specs.Prelude.{◌≡◌, List, ◌++◌, Option, ℕ, suc, ◌+◌, ◌*◌, ◌^◌, ◌≤◌, ◌<◌, length, get_or, take}
use Rattle.std.specs.Option.{MatchOption}
use Rattle.buffers.specs.Map.{at_sets, at_points}
use Rattle.matching.specs.Lists.{Ascends}
use Rattle.matching.specs.Pairs.{Pair, Points, sum}
use Rattle.matching.specs.Pairing.{Once}
use Rattle.matching.specs.Graph.{Graph}
use Rattle.matching.specs.Listed.{short_list}
use Rattle.matching.specs.Solve.{solve}
use Rattle.matching.specs.Groups.{largest, solve_each}
use Rattle.matching.specs.Origin.{all_short}
use Rattle.cellfile.specs.Words.{row_word, no_entry, RowsOf, points_room}
use Rattle.grouping.specs.Labels.{Labels, class, classes, Levelled}
use Rattle.grouping.specs.Finding.{words_in, label_in, link_in, Leads}
use Rattle.gathering.specs.Gathered.{cell_in, points_in, Starts}
use Rattle.partners.specs.Table.{Mates, TrailKept, TableOnly}

-- The cells cs stand at the first k places with the points between them, nothing is known of their sets, and the pairs
-- m stand in the table, none of which has one of the cells.
pub record JoinThere (w : Points) (cs : List ℕ) (m : List Pair) (k : ℕ) (w1 w2 : List ℕ) : Type 0 where
  pub room1 : 8192 ≤ length w1
  pub room2 : 8192 ≤ length w2
  pub few : k ≤ 12
  pub count : k ≡ length cs
  pub rise : Ascends (λ a b. a < b) cs
  pub cells : (i : ℕ) → i < k → cell_in w2 i ≡ get_or cs i 0
  pub places : (i : ℕ) → i < 12 → cell_in w2 i < 1024
  pub points : (i j : ℕ) → i < j → j < k → points_in w2 i j ≡ w (get_or cs i 0) (get_or cs j 0)
  pub light : (x : ℕ) → x < 144 → get_or w2 (at_points + x) 0 < points_room
  pub none : (s : ℕ) → s < 2 ^ k → get_or w1 (at_sets + s) 0 ≡ 0
  pub mates : Mates w2 all_short m
  pub once : Once (solve (length cs) w cs ++ m)

-- The pairs of their heaviest pairing stand there too.
pub record Joins (w : Points) (cs : List ℕ) (m : List Pair) (w1 w1' w2 w2' : List ℕ) (r : ℕ) : Type 0 where
  pub value : r ≡ sum w (solve (length cs) w cs)
  pub light : r ≤ 12 * points_room
  pub mates : Mates w2' all_short (solve (length cs) w cs ++ m)
  pub front : take at_sets w1' ≡ take at_sets w1
  pub only : TableOnly w2 w2'

-- What stands while groups are solved, for the labels l of a graph of n cells: its rows, the starts of their runs, and
-- the links of its groups.
pub record Laid (n : ℕ) (w : Points) (l : Labels) (w1 w2 : List ℕ) : Type 0 where
  pub room1 : 8192 ≤ length w1
  pub room2 : 8192 ≤ length w2
  pub cells : n ≤ 1024
  pub graph : Graph n w
  pub small : (a b : ℕ) → w a b < points_room
  pub levelled : Levelled n w l
  pub most : length (short_list n w) ≤ 4096
  pub rows : (i : ℕ) → i < length (short_list n w) → get_or w1 i 0 ≡ row_word (get_or (short_list n w) i no_entry)
  pub starts : Starts n w w2
  pub labels : (c : ℕ) → c < n → label_in w2 c ≡ l c
  pub leads : (d : ℕ) → d < n → l d ≡ suc d → Leads (link_in w2) (suc d) (class n l d)
  pub places : (i : ℕ) → i < 12 → cell_in w2 i < 1024
  pub light : (x : ℕ) → x < 144 → get_or w2 (at_points + x) 0 < points_room

-- The groups whose first cells are below d are solved, and joined in the table.
pub record GroupsThere (n : ℕ) (w : Points) (l : Labels) (d : ℕ) (w1 w2 : List ℕ) : Type 0 where
  pub laid : Laid n w l w1 w2
  pub few : (x : ℕ) → x < d → length (class n l x) ≤ 12
  pub mates : Mates w2 all_short (solve_each w (classes n l d))

-- The group at d is solved and joined too; or some group has more than 12 cells.
pub record GroupSolved (n : ℕ) (w : Points) (l : Labels) (d : ℕ) (w1' w2 w2' : List ℕ) (v : ℕ) : Type 0 where
  pub there : GroupsThere n w l (d + 1) w1' w2'
  pub value : v ≡ sum w (solve (length (class n l d)) w (class n l d))
  pub light : v ≤ 12 * points_room
  pub aside : TrailKept w2 w2'

abbrev pub GroupSolves : (n : ℕ) (w : Points) (l : Labels) (d : ℕ) (w1' w2 w2' : List ℕ) → Option ℕ → Type 0
GroupSolves n w l d w1' w2 w2' r = MatchOption r (12 < largest n w) (GroupSolved n w l d w1' w2 w2')

-- The labels of a graph of n cells, whose pairs stand as r rows and cells.
pub record LabelsThere (n : ℕ) (w : Points) (l : Labels) (r : ℕ) (w1 w2 : List ℕ) : Type 0 where
  pub room1 : 8192 ≤ length w1
  pub room2 : 8192 ≤ length w2
  pub cells : n ≤ 1024
  pub graph : Graph n w
  pub small : (a b : ℕ) → w a b < points_room
  pub levelled : Levelled n w l
  pub most : r ≤ 4096
  pub rows : RowsOf (short_list n w) r w1
  pub labels : words_in w2 ≡ l

pub record SetOut (n : ℕ) (w : Points) (l : Labels) (w1 w2 w2' : List ℕ) : Type 0 where
  pub there : GroupsThere n w l 0 w1 w2'
  pub aside : TrailKept w2 w2'
