-- What the program prints of the bytes that it reads.
use Rattle.std.specs.Prelude.{cond, List, [], ◌∷◌, ◌++◌, map, ℕ, zero, suc, ◌+◌, ◌/◌, ◌%◌, eqb, ltb, length}
use Prim.Native.Char.{code}
use Prim.Native.String.{String, [] as no_text, ◌∷◌ as ◌then◌}
use Rattle.matching.specs.Pairs.{Pair}
use Rattle.matching.specs.Listed.{Entry, listed, points, short_list}
use Rattle.matching.specs.Slip.{carried}
use Rattle.cellfile.specs.Files.{cells_of, pairs_of, entries_all}
use Rattle.checks.specs.Refusals.{first, lists, list_rows}
use Rattle.starting.specs.Steps.{graph_in, reduce_steps}
use Rattle.lifting.specs.Calls.{graph_after, pair_rows, pairing_file}

-- The bytes of a text.
abbrev pub ascii : String → List ℕ
ascii no_text = []
ascii (c then s) = code c ∷ ascii s

-- A number in base ten, without a zero in front; 20 digits are enough for 64 bits. Laws: proofs/Decimal.
unfoldable pub digits : ℕ → ℕ → List ℕ
digits zero v = []
digits (suc k) v = cond (ltb v 10) [] (digits k (v / 10)) ++ (48 + v % 10) ∷ []

abbrev pub decimal : ℕ → List ℕ
decimal v = digits 20 v

-- A line: a word, and numbers with a space before each.
abbrev pub numbers : List ℕ → List ℕ
numbers [] = 10 ∷ []
numbers (v ∷ vs) = 32 ∷ (decimal v ++ numbers vs)

abbrev pub line : String → List ℕ → List ℕ
line word vs = ascii word ++ numbers vs

-- 'Each pair with its cells and list points in file order.'
abbrev pub pair_lines : List Entry → List ℕ
pair_lines [] = []
pair_lines (e ∷ es) = line "pair" (e.0 ∷ e.1 ∷ e.2 ∷ []) ++ pair_lines es

-- 'The fields: steps in the slip, carried points, entries in the short list, each pair .., and the total.'
abbrev pub report : (steps carry entries : ℕ) → List Entry → (total : ℕ) → List ℕ
report steps carry entries pairs total =
    line "steps" (steps ∷ []) ++ (line "carried" (carry ∷ []) ++ (line "short" (entries ∷ [])
    ++ (pair_lines pairs ++ line "total" (total ∷ []))))

-- The pairs with the points that the entries give them.
abbrev pub with_points : List Entry → List Pair → List Entry
with_points es m = map (λ (p : Pair). (p.0, p.1, listed es p.0 p.1)) m

module _ (list : List ℕ) where
  -- What reduce, solve and lift make of an accepted list.
  abbrev pub made : List ℕ
  made =
      report (length (reduce_steps list)) (carried (graph_in list) (reduce_steps list))
      (length (short_list (cells_of list) (graph_after list (reduce_steps list))))
      (with_points (entries_all list) (pairs_of (pairing_file list)))
      (points (entries_all list) (pairs_of (pairing_file list)))

  -- The first refusal of the program, 0 for none: 2 to 6, and 11.
  abbrev pub refusal : ℕ
  refusal =
      first (list_rows lists list ++ pair_rows list)

  -- 'A refusal prints only the line "refused" with its number.'
  abbrev pub printed : List ℕ
  printed = cond (eqb refusal 0) made (line "refused" (refusal ∷ []))
