-- Finding steps. A row of cells of degree two is read by walking over it; the number of cells is fuel enough (law:
-- proofs/Find).
use Rattle.std.specs.Prelude.{Bool, true, false, not, cond, ◌&&◌, ◌||◌, List, [], ◌∷◌, ℕ, zero, suc, min, eqb, ltb}
use Rattle.std.specs.Prelude.{length}
use Rattle.std.proofs.Math.Option.{Option, some, none}
use Rattle.matching.specs.Lists.{mem}
use Rattle.matching.specs.Pairs.{Points}
use Rattle.matching.specs.Graph.{partners, degree}
use Rattle.matching.specs.Steps.{Rule, by_leaf, by_ring, by_chain, Step, leaf, ring, chain}
use Rattle.matching.specs.Shapes.{last}

-- The row from `from` at the cell `at`: the cells of degree two met, and the cell behind them, which is `stop` or not
-- of degree two.
abbrev pub ReadRow : Type 0
ReadRow = List ℕ × ℕ

abbrev pub onward : Bool → List ℕ → ℕ → ℕ → (ℕ → ReadRow) → ReadRow
onward true ps from at go = ([], at)
onward false [] from at go = ([], at)
onward false (a ∷ []) from at go = ([], at)
onward false (a ∷ b ∷ []) from at go = let r = go (cond (eqb a from) b a) in (at ∷ r.0, r.1)
onward false (a ∷ b ∷ c ∷ ps) from at go = ([], at)

abbrev pub row : ℕ → (ℕ → List ℕ) → ℕ → ℕ → ℕ → ReadRow
row zero ps stop from at = ([], at)
row (suc k) ps stop from at = onward (eqb at stop) (ps at) from at (λ next. row k ps stop at next)

-- Whether z is the lowest of the cells.
abbrev pub lowest : ℕ → List ℕ → ℕ
lowest z [] = z
lowest z (c ∷ cs) = lowest (min z c) cs

abbrev pub is_lowest : ℕ → List ℕ → Bool
is_lowest z inner = mem z inner && eqb z (lowest z inner)

-- Whether a cell has degree two.
abbrev pub two : ℕ → Points → ℕ → Bool
two n w c = eqb (degree n w c) 2

-- The step, where the test passes.
abbrev pub provided : Bool → Step → Option Step
provided true s = some s
provided false s = none

-- The leaf at v: it has one partner.
abbrev pub leaf_of : List ℕ → ℕ → Option Step
leaf_of [] v = none
leaf_of (u ∷ []) v = some (leaf u v)
leaf_of (u ∷ c ∷ ps) v = none

-- The ring or the chain at z that leaves u at its partner f, by the row read from there.
abbrev pub ring_of : ℕ → Points → ℕ → ℕ → ℕ → ReadRow → Option Step
ring_of n w z u f r =
    provided (ltb 0 (w u f) && (eqb r.1 u && (ltb 1 (length r.0) && (is_lowest z r.0
    && ((not (two n w u) || ltb u z) && ltb f (last u r.0)))))) (ring u z r.0)

abbrev pub chain_of : ℕ → Points → ℕ → ℕ → ℕ → ReadRow → Option Step
chain_of n w z u f r =
    provided (ltb 0 (w u f) && (ltb u r.1 && (ltb 1 (length r.0) && (is_lowest z r.0
    && (not (two n w u) && not (two n w r.1)))))) (chain u r.1 z r.0)

-- The first that is there, below k.
abbrev pub or_else : Option Step → Option Step → Option Step
or_else none o = o
or_else (some s) o = some s

abbrev pub search : (ℕ → Option Step) → ℕ → Option Step
search f zero = none
search f (suc k) = or_else (search f k) (f k)

-- The step of a rule that names the cell.
unfoldable pub step_at : ℕ → Points → Rule → ℕ → Option Step
step_at n w by_leaf v = leaf_of (partners n w v) v
step_at n w by_ring z = search (λ u. search (λ f. ring_of n w z u f (row n (partners n w) u u f)) n) n
step_at n w by_chain z = search (λ u. search (λ f. chain_of n w z u f (row n (partners n w) u u f)) n) n

-- 'A leaf step at the lowest possible cell; without one, a ring step at the lowest cell named z; without one, a chain
-- step likewise.'
unfoldable pub first_step_of : ℕ → Points → Option Step
first_step_of n w =
    or_else (search (step_at n w by_leaf) n) (or_else (search (step_at n w by_ring) n)
    (search (step_at n w by_chain) n))
