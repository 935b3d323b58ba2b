-- The worked lists, as rows of one table: what is done with a list, and what comes of it. Law: proofs/Worked.
use Rattle.std.specs.Prelude.{cond, List, [], ◌∷◌, map, ℕ, ltb}
use Rattle.std.proofs.Math.Option.{Option, some, none}
use Rattle.matching.specs.Pairs.{Pair}
use Rattle.matching.specs.Pairing.{is_pairing}
use Rattle.matching.specs.Listed.{Entry, joined, listed, points, short_list, filed}
use Rattle.matching.specs.Steps.{Rule, by_leaf, by_ring, by_chain, Step, name}
use Rattle.matching.specs.Slip.{replay, left, carried, carries, lift, reduce}
use Rattle.matching.specs.Solve.{solution}
use Rattle.matching.specs.Groups.{groups, largest}
use Rattle.matching.specs.Origin.{Origin, from_short, from_step, origins}

-- A list of n cells, a slip or none for reduce's own, and a pairing of the short list to lift; or a pairing of the list
-- to weigh; or a list of n cells to solve as it is.
pub data Case : Type 0 where
  lifting : (n : ℕ) (list : List Entry) (slip : Option (List (Rule × ℕ))) (pairing : List Pair) → Case
  weighing : (list : List Entry) (pairing : List Pair) → Case
  solving : (n : ℕ) (list : List Entry) → Case

pub record Lifted : Type 0 where
  pub slip : List (Rule × ℕ)
  pub carries : List ℕ
  pub carried : ℕ
  pub short : List Entry
  pub lifted : List Pair
  pub from : List Origin
  pub points : ℕ

-- What is lifted, with what each step carries and where each pair came from; the points weighed; the groups, and the
-- solution; or the number of the refusal.
pub data Outcome : Type 0 where
  made : Lifted → Outcome
  weighed : ℕ → Outcome
  solved : (groups : List (List ℕ)) (pairing : List Pair) → Outcome
  refused : ℕ → Outcome

-- The steps of the slip, or those that reduce takes; none where a step is not allowed.
abbrev pub steps_of : ℕ → List Entry → Option (List (Rule × ℕ)) → Option (List Step)
steps_of n l none = some (reduce n n (listed l))
steps_of n l (some s) = replay n (listed l) s

abbrev pub lifted_by : ℕ → List Entry → List Pair → List Step → Lifted
lifted_by n l m ss =
    let w = listed l in
    let up = filed (lift w ss m) in
    record {
      slip = map name ss;
      carries = carries w ss;
      carried = carried w ss;
      short = short_list n (left w ss);
      lifted = up;
      from = map (λ (e : Pair). origins w ss m e.0 e.1) up;
      points = points l up;
    }

-- Refusal 8 where a step is not allowed, 10 where the pairing is not one of the graph left, or of the list's entries,
-- 11 where some group has more than 12 cells.
unfoldable pub outcome : Case → Outcome
outcome (lifting n l s m) =
    elim (steps_of n l s) [
      | none ↦ refused 8
      | some ss ↦ cond (is_pairing (left (listed l) ss) m) (made (lifted_by n l m ss)) (refused 10)
    ]
outcome (weighing l m) = cond (is_pairing (joined l) m) (weighed (points l m)) (refused 10)
outcome (solving n l) =
    let w = listed l in
    cond (ltb 12 (largest n w)) (refused 11) (solved (groups n w) (solution n w))

-- A row of the table.
abbrev pub WorkedRow : Type 0
WorkedRow = Case × Outcome

-- Reduce's own slip: its steps, what each carries and what they carry together; nothing is left; the pairing lifted,
-- and where its pairs came from.
abbrev pub reduced : ℕ → List Entry → List (Rule × ℕ) → List ℕ → ℕ → List Pair → List Origin → ℕ → WorkedRow
reduced n l s ks k m from p = (
  lifting n l none [],
  made (record { slip = s; carries = ks; carried = k; short = []; lifted = m; from = from; points = p }),
)

-- A slip of one step and a pairing of the short list.
abbrev pub lifted : ℕ → List Entry → List (Rule × ℕ) → List Pair → ℕ → List Entry → List Pair → List Origin → ℕ
    → WorkedRow
lifted n l s m k short up from p = (
  lifting n l (some s) m,
  made (record { slip = s; carries = k ∷ []; carried = k; short = short; lifted = up; from = from; points = p }),
)

-- The empty slip: the pairing of the list itself.
abbrev pub unchanged : ℕ → List Entry → List Pair → List Origin → ℕ → WorkedRow
unchanged n l m from p = (
  lifting n l (some []) m,
  made (record { slip = []; carries = []; carried = 0; short = l; lifted = m; from = from; points = p }),
)

abbrev pub not_allowed : ℕ → List Entry → List (Rule × ℕ) → WorkedRow
not_allowed n l s = (lifting n l (some s) [], refused 8)

-- The lists of the rows.
abbrev pub path : ℕ → List Entry
path p = (0, 1, p) ∷ (1, 2, 1) ∷ (2, 3, p) ∷ []

abbrev pub short3 : List Entry
short3 = (0, 1, 9) ∷ (0, 3, 19) ∷ (1, 3, 9) ∷ []

abbrev pub direct : ℕ → List Entry
direct p = (0, 1, 10) ∷ (0, 3, p) ∷ (0, 4, 1) ∷ (1, 2, 1) ∷ (2, 3, 10) ∷ (3, 5, 1) ∷ []

abbrev pub direct_short : ℕ → List Entry
direct_short p = (0, 1, 9) ∷ (0, 3, p) ∷ (0, 4, 1) ∷ (1, 3, 9) ∷ (3, 5, 1) ∷ []

abbrev pub square : List Entry
square = (0, 1, 5) ∷ (0, 3, 5) ∷ (1, 2, 5) ∷ (2, 3, 5) ∷ []

abbrev pub ones : List Entry
ones = (0, 1, 1) ∷ (1, 2, 1) ∷ (2, 3, 1) ∷ (3, 4, 1) ∷ []

abbrev pub ones_short : List Entry
ones_short = (0, 1, 1) ∷ (0, 4, 1) ∷ (1, 4, 1) ∷ []

abbrev pub twos : List Entry
twos = (0, 1, 2) ∷ (1, 2, 1) ∷ (2, 3, 1) ∷ (3, 4, 1) ∷ (4, 5, 2) ∷ []

abbrev pub twos_short : List Entry
twos_short = (0, 1, 1) ∷ (0, 5, 3) ∷ (1, 5, 1) ∷ []

abbrev pub chain1 : List (Rule × ℕ)
chain1 = (by_chain, 1) ∷ []

-- The first step of a slip, by its rule.
abbrev pub first : Rule → Origin
first rule = from_step 1 rule

-- The worked lists, in their order; then more of the rules' words.
unfoldable pub rows : List WorkedRow
rows =
    reduced 4 (path 10) ((by_leaf, 0) ∷ (by_leaf, 2) ∷ []) (10 ∷ 10 ∷ []) 20 ((0, 1) ∷ (2, 3) ∷ [])
    (first by_leaf ∷ from_step 2 by_leaf ∷ []) 20
    ∷ lifted 4 (path 10) chain1 ((0, 3) ∷ []) 1 short3 ((0, 1) ∷ (2, 3) ∷ []) (first by_chain ∷ first by_chain ∷ []) 20
    ∷ lifted 4 (path 10) chain1 ((0, 1) ∷ []) 1 short3 ((0, 1) ∷ []) (first by_chain ∷ []) 10
    ∷ lifted 4 (path 10) chain1 [] 1 short3 ((1, 2) ∷ []) (first by_chain ∷ []) 1
    ∷ reduced 3 ((0, 1, 3) ∷ (1, 2, 8) ∷ []) ((by_leaf, 0) ∷ (by_leaf, 1) ∷ []) (3 ∷ 5 ∷ []) 8 ((1, 2) ∷ [])
    (from_step 2 by_leaf ∷ []) 8
    -- leaf 0 is undone first and puts 0, 1 in; ring 1 puts it in place of itself
    ∷ reduced 3 ((0, 1, 5) ∷ (0, 2, 4) ∷ (1, 2, 3) ∷ []) ((by_ring, 1) ∷ (by_leaf, 0) ∷ []) (3 ∷ 2 ∷ []) 5
    ((0, 1) ∷ []) (first by_ring ∷ []) 5
    ∷ reduced 4 square ((by_ring, 1) ∷ (by_leaf, 0) ∷ []) (5 ∷ 5 ∷ []) 10
    ((0, 1) ∷ (2, 3) ∷ []) (first by_ring ∷ first by_ring ∷ []) 10
    -- a direct pair that is kept stays from the short list
    ∷ lifted 6 (direct 25) chain1 ((0, 3) ∷ []) 1 (direct_short 25) ((0, 3) ∷ (1, 2) ∷ [])
    (from_short ∷ first by_chain ∷ []) 26
    ∷ lifted 6 (direct 19) chain1 ((0, 3) ∷ []) 1 (direct_short 19) ((0, 1) ∷ (2, 3) ∷ [])
    (first by_chain ∷ first by_chain ∷ []) 20
    ∷ reduced 0 [] [] [] 0 [] [] 0
    ∷ unchanged 4 (path 10) ((0, 1) ∷ (2, 3) ∷ []) (from_short ∷ from_short ∷ []) 20
    ∷ (lifting 2 ((0, 1, 0) ∷ []) (some []) ((0, 1) ∷ []), refused 10)
    ∷ (weighing ((0, 1, 0) ∷ []) ((0, 1) ∷ []), weighed 0)
    -- the points of a chain's pair in full: 2,097,149
    ∷ lifted 4 (path 1048575) chain1 [] 1 ((0, 1, 1048574) ∷ (0, 3, 2097149) ∷ (1, 3, 1048574) ∷ []) ((1, 2) ∷ [])
    (first by_chain ∷ []) 1
    -- only the cell that the rule calls z: chain 2 is refused, and of the triangle only ring 1 is allowed
    ∷ not_allowed 4 (path 10) ((by_chain, 2) ∷ [])
    ∷ not_allowed 3 ((0, 1, 5) ∷ (0, 2, 4) ∷ (1, 2, 3) ∷ []) ((by_ring, 0) ∷ [])
    ∷ not_allowed 3 ((0, 1, 5) ∷ (0, 2, 4) ∷ (1, 2, 3) ∷ []) ((by_ring, 2) ∷ [])
    -- a row whose two ends are one cell is no chain
    ∷ not_allowed 4 ((0, 1, 5) ∷ (0, 2, 4) ∷ (0, 3, 1) ∷ (1, 2, 3) ∷ []) ((by_chain, 1) ∷ [])
    -- the ring step at the lowest z, not at the lowest cell of a ring
    ∷ reduced 7 ((0, 5, 1) ∷ (0, 6, 1) ∷ (1, 2, 1) ∷ (1, 3, 1) ∷ (2, 3, 1) ∷ (5, 6, 1) ∷ [])
    ((by_ring, 2) ∷ (by_ring, 5) ∷ []) (1 ∷ 1 ∷ []) 2 ((2, 3) ∷ (5, 6) ∷ []) (first by_ring ∷ from_step 2 by_ring ∷ [])
    2
    -- pairs of a chain that come out zero
    ∷ lifted 4 ((0, 1, 1) ∷ (1, 2, 10) ∷ (2, 3, 1) ∷ []) chain1 [] 10 [] ((1, 2) ∷ []) (first by_chain ∷ []) 10
    ∷ lifted 4 ((0, 1, 2) ∷ (1, 2, 3) ∷ (2, 3, 5) ∷ []) chain1 [] 3 ((0, 3, 4) ∷ (1, 3, 2) ∷ []) ((1, 2) ∷ [])
    (first by_chain ∷ []) 3
    -- z below both ends
    ∷ lifted 4 ((0, 1, 1) ∷ (0, 2, 9) ∷ (1, 3, 9) ∷ []) ((by_chain, 0) ∷ []) [] 1
    ((0, 2, 8) ∷ (0, 3, 8) ∷ (2, 3, 17) ∷ []) ((0, 1) ∷ []) (first by_chain ∷ []) 1
    -- a ring is read towards u's lower neighbour in the ring
    ∷ lifted 8 ((0, 4, 1) ∷ (4, 5, 5) ∷ (4, 7, 5) ∷ (5, 6, 5) ∷ (6, 7, 5) ∷ []) ((by_ring, 5) ∷ []) ((4, 5) ∷ []) 5
    ((0, 4, 1) ∷ (4, 5, 5) ∷ []) ((4, 5) ∷ (6, 7) ∷ []) (first by_ring ∷ first by_ring ∷ []) 10
    -- of equals the near end: of a ring less u; of a chain P and Q; of another P less v and P less u
    ∷ lifted 4 square ((by_ring, 1) ∷ []) [] 5 ((0, 1, 5) ∷ []) ((1, 2) ∷ []) (first by_ring ∷ []) 5
    ∷ lifted 5 ones chain1 ((0, 4) ∷ []) 1 ones_short ((0, 1) ∷ (2, 3) ∷ []) (first by_chain ∷ first by_chain ∷ []) 2
    ∷ lifted 5 ones chain1 [] 1 ones_short ((1, 2) ∷ []) (first by_chain ∷ []) 1
    ∷ lifted 6 twos chain1 ((0, 1) ∷ []) 2 twos_short ((0, 1) ∷ (2, 3) ∷ []) (first by_chain ∷ first by_chain ∷ []) 3
    ∷ lifted 6 twos chain1 ((1, 5) ∷ []) 2 twos_short ((1, 2) ∷ (4, 5) ∷ []) (first by_chain ∷ first by_chain ∷ []) 3
    -- two triangles on every other cell and a cell without pairs; all pairs of four cells twice over, of equal points
    ∷ (
      solving 7 ((0, 2, 5) ∷ (0, 4, 4) ∷ (1, 3, 1) ∷ (1, 5, 3) ∷ (2, 4, 3) ∷ (3, 5, 3) ∷ []),
      solved ((0 ∷ 2 ∷ 4 ∷ []) ∷ (1 ∷ 3 ∷ 5 ∷ []) ∷ []) ((0, 2) ∷ (3, 5) ∷ []),
    )
    ∷ (
      solving 8 ((0, 1, 5) ∷ (0, 2, 5) ∷ (0, 3, 5) ∷ (1, 2, 5) ∷ (1, 3, 5) ∷ (2, 3, 5) ∷ (4, 5, 5) ∷ (4, 6, 5)
          ∷ (4, 7, 5) ∷ (5, 6, 5) ∷ (5, 7, 5) ∷ (6, 7, 5) ∷ []),
      solved ((0 ∷ 1 ∷ 2 ∷ 3 ∷ []) ∷ (4 ∷ 5 ∷ 6 ∷ 7 ∷ []) ∷ []) ((0, 1) ∷ (2, 3) ∷ (4, 5) ∷ (6, 7) ∷ []),
    )
    -- thirteen cells in a row, whose numbers go to and fro
    ∷ (
      solving 13 ((0, 7, 1) ∷ (0, 8, 1) ∷ (1, 8, 1) ∷ (1, 9, 1) ∷ (2, 9, 1) ∷ (2, 10, 1) ∷ (3, 10, 1) ∷ (3, 11, 1)
          ∷ (4, 11, 1) ∷ (4, 12, 1) ∷ (5, 12, 1) ∷ (6, 7, 1) ∷ []),
      refused 11,
    )
    ∷ []
