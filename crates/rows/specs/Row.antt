-- The row of a ring or a chain as words in reading order, and the points of its heaviest pairings. Inner contracts cite
-- this; what they promise is H of crate matching.
use Rattle.std.specs.Prelude.{ℕ, ◌+◌, ◌*◌, ◌-◌, ◌%◌, ◌<◌, max, ◌≡◌, Bool, true, false, cond, List, [], ◌∷◌, ◌++◌, map}
use Rattle.std.specs.Prelude.{eqb, length, slice_index_or as get_or, take, drop, replicate}
use Rattle.matching.specs.Lists.{mem, distinct}
use Rattle.matching.specs.Pairs.{Pair, Points, ι, Each}
use Rattle.matching.specs.Best.{H, pays, best, tie, walk}
use Rattle.buffers.specs.Map.{unit}
use Rattle.rows.specs.declared.ChainPoints.{ChainPoints}
use Rattle.rows.specs.declared.RingPoints.{RingPoints}
use Rattle.rows.specs.declared.Ways.{Ways}

-- A word: the cell that a pair of the row starts from, above the bits of the pair's points.
abbrev pub row_points : ℕ → ℕ
row_points x = x % unit

-- The words of the row from u over the inner cells to v.
abbrev pub words_of_row : Points → ℕ → List ℕ → ℕ → List ℕ
words_of_row w u [] v = (u * unit + w u v) ∷ []
words_of_row w u (c ∷ cs) v = (u * unit + w u c) ∷ words_of_row w c cs v

-- These words are the row: two or more inner cells, no two the same, u and v not among them, points that fit a word.
pub record RowOf (w : Points) (u : ℕ) (inner : List ℕ) (v : ℕ) (ws : List ℕ) : Type 0 where
  pub words : ws ≡ words_of_row w u inner v
  pub apart : distinct inner ≡ true
  pub first_off : mem u inner ≡ false
  pub last_off : mem v inner ≡ false
  pub more : 1 < length inner
  pub fits : Each (λ a b. w a b < unit) (walk u inner v)

-- The points of a heaviest pairing of a path by the points of its pairs, and of the path without its first pair.
-- Law: proofs/Points, `two_path`.
unfoldable pub two : List ℕ → ℕ × ℕ
two [] = (0, 0)
two (p ∷ ps) = (max (two ps).0 (p + (two ps).1), (two ps).0)

abbrev pub heavy : List ℕ → ℕ
heavy ws = (two (map row_points ws)).0

-- The points of a path without its first pair and with it, by those of the path behind that pair.
pub record WaysBefore (behind : Ways) (x : ℕ) (r : Ways) : Type 0 where
  pub without : r.without ≡ max behind.without behind.with
  pub with : r.with ≡ row_points x + behind.without

-- The points without the first pair of a ring, and with it.
abbrev pub out : List ℕ → ℕ
out ws = heavy (take (length ws - 1) (drop 1 ws))

abbrev pub taking : List ℕ → ℕ
taking ws = row_points (get_or ws 0 0) + heavy (take (length ws - 1 - 2) (drop 2 ws))

-- Whether each pair of a path pays, as 1 or 0, by what the pairs after it bring without it and with it; and the marks
-- that stand: no mark right behind one that stands, b being the one before. Law: proofs/Best, `marked_path`.
unfoldable pub paying : List ℕ → List ℕ
paying [] = []
paying (p ∷ ps) = ι (pays tie (two ps).0 (p + (two ps).1)) ∷ paying ps

unfoldable pub standing : ℕ → List ℕ → List ℕ
standing b [] = []
standing b (m ∷ ms) = cond (eqb b 1) 0 m ∷ standing (cond (eqb b 1) 0 m) ms

abbrev pub path_marks : List ℕ → List ℕ
path_marks ws = standing 0 (paying (map row_points ws))

-- So many pairs without a mark; and marks before any pair is marked.
abbrev pub unmarked : ℕ → List ℕ
unmarked n = replicate n 0

abbrev pub Blank : List ℕ → Type 0
Blank marks = marks ≡ unmarked (length marks)

-- The marks of the part of the words from place a to before place e.
abbrev pub part_marks : ℕ → ℕ → List ℕ → List ℕ
part_marks a e ws = unmarked a ++ (path_marks (take (e - a) (drop a ws)) ++ unmarked (length ws - e))

-- The pairs that have the mark 1.
abbrev pub marked : List ℕ → List Pair → List Pair
marked [] es = []
marked (m ∷ ms) [] = []
marked (m ∷ ms) (e ∷ es) = cond (eqb m 1) (e ∷ marked ms es) (marked ms es)

-- H of a chain P, of P less u, of P less v, and of P less both.
pub record ChainH (w : Points) (u : ℕ) (inner : List ℕ) (v : ℕ) (r : ChainPoints) : Type 0 where
  pub whole : r.whole ≡ H w [] (walk u inner v)
  pub less_u : r.less_u ≡ H w (u ∷ []) (walk u inner v)
  pub less_v : r.less_v ≡ H w (v ∷ []) (walk u inner v)
  pub inner_only : r.inner ≡ H w (u ∷ v ∷ []) (walk u inner v)

-- H of a ring C and of C less u.
pub record RingH (w : Points) (u : ℕ) (inner : List ℕ) (r : RingPoints) : Type 0 where
  pub whole : r.whole ≡ H w [] (walk u inner u)
  pub less_u : r.less_u ≡ H w (u ∷ []) (walk u inner u)

-- The marks are the best of a chain or ring that keeps these cells free.
abbrev pub less : Bool → ℕ → List ℕ
less t c = cond t (c ∷ []) []

abbrev pub RowBest : Points → List ℕ → ℕ → List ℕ → ℕ → List ℕ → Type 0
RowBest w off u inner v marks = marked marks (walk u inner v) ≡ best tie w off (walk u inner v)
