-- The labels by which groups are found. Only contracts of inner functions cite these; the laws `labels_split`,
-- `labels_class`, `labels_largest` and `labels_parts` (proofs/Classes) tie them to the groups, so that nobody has to
-- believe them.
use Rattle.std.specs.Prelude.{◌≡◌, Bool, true, false, not, cond, ◌||◌, List, [], ◌∷◌, map, ℕ, zero, suc}
use Rattle.std.specs.Prelude.{◌≤◌, ◌<◌, min, eqb, ltb}
use Rattle.matching.specs.Lists.{any, mem}
use Rattle.matching.specs.Pairs.{Pair, Points, touches}
use Rattle.matching.specs.Listed.{Entry}
use Rattle.matching.specs.Graph.{degree}
use Rattle.matching.specs.Solve.{cells_where}
use Rattle.matching.specs.Groups.{reached, group}

-- A label for each cell: 0, or a cell's number and 1.
abbrev pub Labels : Type 0
Labels = ℕ → ℕ

-- At first: a cell that has pairs names itself.
abbrev pub own : ℕ → Points → Labels
own n w c = cond (ltb 0 (degree n w c)) (suc c) 0

-- A pair gives both its ends the smaller label; a sweep does so with each pair in order.
unfoldable pub lowered : Pair → Labels → Labels
lowered e l c = cond (touches c e.0 e.1) (min (l e.0) (l e.1)) (l c)

abbrev pub swept : List Pair → Labels → Labels
swept [] l = l
swept (e ∷ es) l = swept es (lowered e l)

-- Whether the ends of a pair have two labels; of some pair; of some pair when a sweep comes to it.
abbrev pub differ : Labels → Pair → Bool
differ l e = not (eqb (l e.0) (l e.1))

abbrev pub split : Labels → List Pair → Bool
split l es = any (differ l) es

abbrev pub meets : List Pair → Labels → Bool
meets [] l = false
meets (e ∷ es) l = differ l e || meets es (lowered e l)

-- The pairs of some entries.
abbrev pub pairs_in : List Entry → List Pair
pairs_in es = map (λ (e : Entry). (e.0, e.1)) es

-- The cells below n whose label names d; these classes for each d below k, the last first.
abbrev pub class : ℕ → Labels → ℕ → List ℕ
class n l d = cells_where n (λ c. eqb (l c) (suc d))

abbrev pub classes : ℕ → Labels → ℕ → List (List ℕ)
classes n l zero = []
classes n l (suc d) = class n l d ∷ classes n l d

-- The labels after k sweeps: a cell without pairs has none; one that has pairs names a cell of its group; and no label
-- is above the first label of a cell reached over k pairs.
abbrev pub Names : ℕ → Points → Labels → ℕ → Type 0
Names n w l c = (d : ℕ) × (l c ≡ suc d) × (mem d (group n w c) ≡ true)

pub record Labelled (n : ℕ) (w : Points) (k : ℕ) (l : Labels) : Type 0 where
  pub none : (c : ℕ) → c < n → degree n w c ≤ 0 → l c ≡ 0
  pub names : (c : ℕ) → c < n → 0 < degree n w c → Names n w l c
  pub low : (c d : ℕ) → c < n → mem d (reached n w c k) ≡ true → l c ≤ suc d

-- No pair has two labels at its ends.
abbrev pub Level : Points → Labels → Type 0
Level w l = (a b : ℕ) → 0 < w a b → l a ≡ l b

-- The labels after so many sweeps that no pair has two.
pub record Levelled (n : ℕ) (w : Points) (l : Labels) : Type 0 where
  pub sweeps : ℕ
  pub labelled : Labelled n w sweeps l
  pub level : Level w l
