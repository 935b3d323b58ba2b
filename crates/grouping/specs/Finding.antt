-- The labels of the cells in the second buffer, and the links of the cells of a group. Inner contracts cite this; laws:
-- proofs/Labelling, Sweeping and Links.
use Rattle.std.specs.Prelude.{◌≡◌, Bool, true, false, cond, List, [], ◌∷◌, Option, None, Some, ℕ, zero, suc, ◌+◌}
use Rattle.std.specs.Prelude.{◌/◌, ◌%◌, ◌≤◌, ◌<◌, max, ltb, length, get_or}
use Rattle.buffers.specs.Map.{unit, at_cells, at_labels, link_field}
use Rattle.matching.specs.Pairs.{Points}
use Rattle.matching.specs.Listed.{short_list}
use Rattle.matching.specs.Graph.{Graph}
use Rattle.matching.specs.Groups.{largest}
use Rattle.cellfile.specs.Words.{RowsOf, OfRows}
use Rattle.grouping.specs.Labels.{Labels, own, swept, meets, pairs_in, class, Levelled}

-- The word of a cell; the labels, as long as there are no links; with links the label below, the link above.
abbrev pub words_in : List ℕ → Labels
words_in w2 c = get_or w2 (at_labels + c) 0

abbrev pub label_in : List ℕ → Labels
label_in w2 c = words_in w2 c % link_field

abbrev pub link_in : List ℕ → ℕ → ℕ
link_in w2 c = words_in w2 c / link_field

-- The cell that a label or a link names: its number and 1, or 0 where there is none.
abbrev pub named : ℕ → Option ℕ
named zero = None
named (suc c) = Some c

-- Words below the labels did not change.
pub record FrontKept (w2 w2' : List ℕ) : Type 0 where
  pub long : length w2' ≡ length w2
  pub same : (j : ℕ) → j < at_labels → get_or w2' j 0 ≡ get_or w2 j 0

-- Each cell has its first label.
pub record OwnIn (n : ℕ) (w : Points) (w2 w2' : List ℕ) : Type 0 where
  pub labels : (c : ℕ) → c < n → words_in w2' c ≡ own n w c
  pub front : FrontKept w2 w2'

-- r pairs stand as rows and cells.
pub record PairsThere (r : ℕ) (w1 w2 : List ℕ) : Type 0 where
  pub room1 : 8192 ≤ length w1
  pub room2 : 8192 ≤ length w2
  pub most : r ≤ 4096
  pub cells : (i : ℕ) → i < r → (get_or w1 (at_cells + i) 0 < 1024) × (get_or w1 i 0 / unit < 1024)

-- A sweep over them.
pub record Sweeps (r : ℕ) (w1 w2 w2' : List ℕ) (met : Bool) : Type 0 where
  pub labels : OfRows r w1 (λ es. words_in w2' ≡ swept (pairs_in es) (words_in w2))
  pub meets : OfRows r w1 (λ es. met ≡ meets (pairs_in es) (words_in w2))
  pub front : FrontKept w2 w2'

-- The pairs of a graph of n cells stand so, and its cells have their first labels.
pub record LevelThere (n : ℕ) (w : Points) (r : ℕ) (w1 w2 : List ℕ) : Type 0 where
  pub there : PairsThere r w1 w2
  pub cells : n ≤ 1024
  pub graph : Graph n w
  pub rows : RowsOf (short_list n w) r w1
  pub labels : (c : ℕ) → c < n → words_in w2 c ≡ own n w c

-- Some group has more than 12 cells; or no pair has two labels.
pub record Levels (n : ℕ) (w : Points) (w2 w2' : List ℕ) (done : Bool) : Type 0 where
  pub crowded : done ≡ false → 12 < largest n w
  pub level : done ≡ true → Levelled n w (words_in w2')
  pub front : FrontKept w2 w2'

-- ---- links

-- From p the links lead over these cells: p is 0 and there is none, or it is the first cell and 1, and the first cell's
-- link leads over the others.
abbrev pub Leads : (ℕ → ℕ) → ℕ → List ℕ → Type 0
Leads next p [] = p ≡ 0
Leads next p (c ∷ cs) = (p ≡ suc c) × Leads next (next c) cs

-- Those of some cells that are not below k.
abbrev pub from : ℕ → List ℕ → List ℕ
from k [] = []
from k (c ∷ cs) = cond (ltb c k) (from k cs) (c ∷ from k cs)

-- The cells from k on are in the links: the words have the labels l, each of which names a cell that names itself, and
-- behind such a cell stand the cells from k on that name it, but not itself.
pub record LinkThere (n : ℕ) (l : Labels) (k : ℕ) (w2 : List ℕ) : Type 0 where
  pub room : 8192 ≤ length w2
  pub cells : n ≤ 1024
  pub within : k ≤ n
  pub labels : (c : ℕ) → c < n → label_in w2 c ≡ l c
  pub low : (c : ℕ) → c < n → l c ≤ suc c
  pub first : (c d : ℕ) → c < n → l c ≡ suc d → l d ≡ suc d
  pub links : (d : ℕ) → d < n → l d ≡ suc d → Leads (link_in w2) (link_in w2 d) (from (max k (suc d)) (class n l d))
  pub small : (c : ℕ) → c < n → link_in w2 c ≤ 1024

pub record Linked (n : ℕ) (l : Labels) (k : ℕ) (w2 w2' : List ℕ) : Type 0 where
  pub there : LinkThere n l k w2'
  pub front : FrontKept w2 w2'
