-- A pairing into the table of partners and out of it. Inner contracts cite this.
use Rattle.std.specs.Prelude.{◌≡◌, ◌≢◌, Bool, false, List, map, ℕ, suc, ◌+◌, ◌*◌, ◌-◌, ◌/◌, ◌%◌, ◌≤◌, ◌<◌}
use Rattle.std.specs.Prelude.{length, get_or, set, take, drop}
use Rattle.buffers.specs.Map.{trail_room, at_table, at_origins, partner_field}
use Rattle.matching.specs.Pairs.{Pair, sum, Each}
use Rattle.matching.specs.Pairing.{Once, seen}
use Rattle.matching.specs.Origin.{Origin, Origins, all_short, number_in}
use Rattle.matching.specs.Listed.{filed}
use Rattle.cellfile.specs.Files.{pairs_of}
use Rattle.checks.specs.Refusals.{no_pairing}
use Rattle.cellfile.specs.Words.{pair_word, word_of_origin}
use Rattle.origins.specs.Stamps.{stamp_for, origin_in}
use Rattle.slots.specs.Working.{graph_in, SameBuffers}
use Rattle.slots.specs.declared.graph.WorkingGraph.{WorkingGraph}
use Rattle.partners.specs.declared.table.Table.{Table}

-- The word of the cell c with the partner b: the partner's number and 1, and above them the stamp of where the pair
-- came from.
abbrev pub tag : Origins → ℕ → ℕ → ℕ
tag o c b = suc b + partner_field * stamp_for (o c b)

-- The table holds the partners of the pairing and where its pairs came from: for each cell 0, or its word.
abbrev pub Mates : List ℕ → Origins → List Pair → Type 0
Mates w2 o m = (c : ℕ) → c < 1024 → get_or w2 (at_table + c) 0 ≡ sum (seen (tag o c) c) m

-- The pair x, y is from that origin, by either of its cells.
abbrev pub IsFrom : Origins → Origin → ℕ → ℕ → Type 0
IsFrom o origin x y = (o x y ≡ origin) × (o y x ≡ origin)

-- The second buffer with the pair x, y put into the table, from that origin.
abbrev pub joined : ℕ → ℕ → Origin → List ℕ → List ℕ
joined x y origin w2 =
    set (set w2 (at_table + x) (y + 1 + partner_field * stamp_for origin)) (at_table + y)
    (x + 1 + partner_field * stamp_for origin)

-- And with it taken out.
abbrev pub parted : ℕ → ℕ → List ℕ → List ℕ
parted x y w2 = set (set w2 (at_table + x) 0) (at_table + y) 0

-- Two cells below n.
abbrev pub Within : ℕ → List Pair → Type 0
Within n m = Each (λ a b. (a < n) × (b < n) × (a ≢ b)) m

-- The words of the trail, or all words before the table, did not change.
abbrev pub TrailKept : List ℕ → List ℕ → Type 0
TrailKept w2 w2' = (j : ℕ) → j < trail_room → get_or w2' j 0 ≡ get_or w2 j 0

abbrev pub TableOnly : List ℕ → List ℕ → Type 0
TableOnly w2 w2' = (j : ℕ) → j < at_table → get_or w2' j 0 ≡ get_or w2 j 0

-- A pairing in the table, and where its pairs came from.
pub record InTable (w2 : List ℕ) (from : Origins) (m : List Pair) : Type 0 where
  pub once : Once m
  pub within : Within 1024 m
  pub mates : Mates w2 from m

-- The table stands in the same buffer.
abbrev pub SameBuffer : Table → Table → Type 0
SameBuffer t t' = t'.words.ghost_name ≡ t.words.ghost_name

-- Whether refusal 10 holds; where it does not the table has the partners. The graph stays.
pub record Entered (file : List ℕ) (g g' : WorkingGraph) (refused : Bool) : Type 0 where
  pub answer : refused ≡ no_pairing (graph_in g) (pairs_of file)
  pub mates : refused ≡ false → Mates g'.w2.now all_short (pairs_of file)
  pub aside : TableOnly g.w2.now g'.w2.now
  pub slots : g'.slots ≡ g.slots
  pub first_kept : g'.w1.now ≡ g.w1.now
  pub buffers : SameBuffers g g'

-- The record of an origin list, as a word, for a cell and its word in the table.
abbrev pub record_in : ℕ → ℕ → ℕ
record_in a word = word_of_origin (λ x y. origin_in (word / partner_field)) (a, word % partner_field - 1)

-- A pairing of cells below n in the table; and its pairs in file order as words, of a pairing and of an origin list.
pub record TableThere (n : ℕ) (w1 w2 : List ℕ) (o : Origins) (m : List Pair) : Type 0 where
  pub cells : n ≤ 1024
  pub room1 : 8192 ≤ length w1
  pub within : Within n m
  pub once : Once m
  pub few : (a b : ℕ) → number_in (o a b) < 2048
  pub mates : Mates w2 o m

pub record Listed (o : Origins) (m : List Pair) (w1' : List ℕ) (r : ℕ) : Type 0 where
  pub most : r ≤ 512
  pub count : r ≡ length (filed m)
  pub pairs : take r w1' ≡ map pair_word (filed m)
  pub origins : take r (drop at_origins w1') ≡ map (word_of_origin o) (filed m)
