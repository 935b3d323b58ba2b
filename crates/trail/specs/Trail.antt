-- The trail: each step as it was where it stood, for the way back. Its words as they are written and as they are read;
-- reading gives back what was written (proofs/Trail).
use Rattle.std.specs.Prelude.{◌≡◌, Bool, cond, List, [], ◌∷◌, ◌++◌, ℕ, suc, ◌+◌, ◌*◌, ◌/◌, ◌%◌, ◌<◌, eqb, length}
use Rattle.std.proofs.Math.Option.{some}
use Rattle.cellfile.specs.Words.{points_room}
use Rattle.buffers.specs.Map.{unit}
use Rattle.matching.specs.Pairs.{Pair, Points, ι}
use Rattle.matching.specs.Steps.{Step, leaf, ring, chain, apply, outweighs, Rule}
use Rattle.matching.specs.Slip.{replay, left, carried}
use Rattle.cellfile.specs.Answers.{Answer}
use Rattle.rows.specs.Row.{words_of_row}
use Rattle.finding.specs.declared.Step as declared
use Rattle.finding.specs.declared.Step.TheVariants as found

-- ---- the word that closes a step's part

-- Its rule and cells, the number of pairs in its row, and of a chain whether the present points of u, v are greater
-- than H(P) minus H(Q).
abbrev pub closing : ℕ → ℕ → ℕ → ℕ → ℕ → ℕ → ℕ
closing rule u v z pairs more =
    rule + u * 4 + v * 4096 + z * 4194304 + pairs * 4294967296 + more * 35184372088832

-- The same of a step as the enum tells it: its part of the word, and the whole word.
abbrev pub step_part : declared.Step → ℕ
step_part (found.Leaf v u) = closing 1 u v 0 0 0
step_part (found.Ring u z) = closing 2 u 0 z 0 0
step_part (found.Chain u v z) = closing 3 u v z 0 0

abbrev pub closing_told : declared.Step → ℕ → Bool → ℕ
closing_told (found.Leaf v u) pairs more = closing 1 u v 0 pairs (ι more)
closing_told (found.Ring u z) pairs more = closing 2 u 0 z pairs (ι more)
closing_told (found.Chain u v z) pairs more = closing 3 u v z pairs (ι more)

-- The word has room for its cells.
abbrev pub CellsFit : declared.Step → Type 0
CellsFit (found.Leaf v u) = (u < 1024) × (v < 1024)
CellsFit (found.Ring u z) = (u < 1024) × (z < 1024)
CellsFit (found.Chain u v z) = (u < 1024) × (v < 1024) × (z < 1024)

abbrev pub closing_of : Points → Step → ℕ
closing_of w (leaf u v) = closing 1 u v 0 0 0
closing_of w (ring u z inner) = closing 2 u 0 z (suc (length inner)) 0
closing_of w (chain u v z inner) = closing 3 u v z (suc (length inner)) (ι (outweighs w u v inner))

-- The word has room for the numbers of the step.
abbrev pub Closable : Step → Type 0
Closable (leaf u v) = (u < 1024) × (v < 1024)
Closable (ring u z inner) = (u < 1024) × (z < 1024) × (length inner < 8191)
Closable (chain u v z inner) = (u < 1024) × (v < 1024) × (z < 1024) × (length inner < 8191)

-- A cell by its place in the word, and the rule with the cells that are told of it.
abbrev pub cell_at : ℕ → ℕ → ℕ
cell_at place word = word / place % 1024

abbrev pub step_in : ℕ → Answer
step_in word =
    cond (eqb (word % 4) 1) (1, cell_at 4096 word ∷ cell_at 4 word ∷ [])
    (cond (eqb (word % 4) 2) (2, cell_at 4 word ∷ cell_at 4194304 word ∷ [])
    (cond (eqb (word % 4) 3) (3, cell_at 4 word ∷ cell_at 4096 word ∷ cell_at 4194304 word ∷ []) (0, [])))

-- The number of pairs in the row, and whether a direct pair of a chain outweighs its row.
abbrev pub pairs_in : ℕ → ℕ
pairs_in word = word / 4294967296 % 8192

abbrev pub more_in : ℕ → Bool
more_in word = eqb (word / 35184372088832) 1

-- ---- the words of a row

-- Those of a step's row in reading order; a leaf has none.
abbrev pub row_of : Points → Step → List ℕ
row_of w (leaf u v) = []
row_of w (ring u z inner) = words_of_row w u inner u
row_of w (chain u v z inner) = words_of_row w u inner v

-- The cell that a word's pair starts from, and so the pairs of a row by its words and its end.
abbrev pub cell_of : ℕ → ℕ
cell_of x = x / unit

abbrev pub start_of : List ℕ → ℕ → ℕ
start_of [] v = v
start_of (x ∷ xs) v = cell_of x

abbrev pub row_pairs : List ℕ → ℕ → List Pair
row_pairs [] v = []
row_pairs (x ∷ xs) v = (cell_of x, start_of xs v) ∷ row_pairs xs v

-- ---- the trail

-- The words of a step: those of its row, then the closing word.
unfoldable pub step_words : Points → Step → List ℕ
step_words w s = row_of w s ++ closing_of w s ∷ []

-- The words of the steps of a slip, one after the other.
abbrev pub trail : Points → List Step → List ℕ
trail w [] = []
trail w (s ∷ ss) = step_words w s ++ trail (apply w s) ss

-- Points, with what is carried, have 44 bits after any steps that are allowed.
abbrev pub Small : ℕ → Points → Type 0
Small n w =
    (rs : List (Rule × ℕ)) (ss : List Step) → replay n w rs ≡ some ss
    → (a b : ℕ) → left w ss a b + carried w ss < points_room
