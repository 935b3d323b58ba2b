-- The steps: what each makes of the graph, what it carries, its way back and its way down.
use Rattle.std.specs.Prelude.{Bool, true, not, cond, ◌&&◌, ◌||◌, List, [], ◌∷◌, ◌++◌, ℕ, ◌-◌, max, ltb}
use Rattle.matching.specs.Lists.{mem}
use Rattle.matching.specs.Pairs.{Pair, Points, keep, touches, same, held, free}
use Rattle.matching.specs.Graph.{put, dropped}
use Rattle.matching.specs.Best.{H, best, tie, walk}

pub data Rule : Type 0 where
  by_leaf by_ring by_chain : Rule

-- A step with the cells that it stands on: leaf v with its partner u; ring (pending cycle) at z, from u over the inner
-- cells back to u; chain (maximal path) at z, from u over the inner cells to v. Inner cells are in reading order.
pub data Step : Type 0 where
  leaf : (u v : ℕ) → Step
  ring : (u z : ℕ) (inner : List ℕ) → Step
  chain : (u v z : ℕ) (inner : List ℕ) → Step

-- How a slip names a step: its rule, and the cell called v or z.
abbrev pub name : Step → Rule × ℕ
name (leaf u v) = (by_leaf, v)
name (ring u z inner) = (by_ring, z)
name (chain u v z inner) = (by_chain, z)

-- Leaf: 'remove v; every other pair at u loses p, never below zero'.
unfoldable pub leafed : Points → ℕ → ℕ → Points
leafed w u v a b = cond (touches v a b) 0 (cond (touches u a b) (w a b - w u v) (w a b))

-- Ring: 'C becomes one pair u, z of H(C) minus H(C less u)'.
unfoldable pub ringed : Points → ℕ → ℕ → List ℕ → Points
ringed w u z inner = put u z (H w [] c - H w (u ∷ []) c) (dropped inner w)
  where
    c : List Pair
    c = walk u inner u

-- Chain: 'the inner cells become z alone, with pairs u, z of H(P less v) minus H(Q) and v, z of H(P less u) minus
-- H(Q); pair u, v gets the larger of its present points and H(P) minus H(Q)'. Q is P less u and v.
unfoldable pub chained : Points → ℕ → ℕ → ℕ → List ℕ → Points
chained w u v z inner =
    put u z (H w (v ∷ []) p - q) (put v z (H w (u ∷ []) p - q) (put u v (max (w u v) (H w [] p - q)) (dropped inner w)))
  where
    p : List Pair
    p = walk u inner v

    q : ℕ
    q = H w (u ∷ v ∷ []) p

abbrev pub apply : Points → Step → Points
apply w (leaf u v) = leafed w u v
apply w (ring u z inner) = ringed w u z inner
apply w (chain u v z inner) = chained w u v z inner

-- 'Carry p'; 'carry H(C less u)'; 'carry H(Q)'.
abbrev pub carry : Points → Step → ℕ
carry w (leaf u v) = w u v
carry w (ring u z inner) = H w (u ∷ []) (walk u inner u)
carry w (chain u v z inner) = H w (u ∷ v ∷ []) (walk u inner v)

-- Whether the present points of u, v are greater than H(P) minus H(Q).
abbrev pub outweighs : Points → ℕ → ℕ → List ℕ → Bool
outweighs w u v inner = ltb (H w [] (walk u inner v) - H w (u ∷ v ∷ []) (walk u inner v)) (w u v)

-- The way back (lifting) puts pairs in, and which of the held pairs stay.
abbrev pub added : Points → Step → List Pair → List Pair
added w (leaf u v) m = cond (free u m) ((u, v) ∷ []) []
added w (ring u z inner) m = best tie w (cond (held u z m) [] (u ∷ [])) (walk u inner u)
added w (chain u v z inner) m = best tie w off (walk u inner v)
  where
    -- the ends that the part put in leaves free
    off : List ℕ
    off =
        cond (held u z m) (v ∷ [])
        (cond (held v z m) (u ∷ [])
        (cond (held u v m && not (outweighs w u v inner)) [] (u ∷ v ∷ [])))

abbrev pub stays : Points → Step → ℕ → ℕ → Bool
stays w (leaf u v) a b = true
stays w (ring u z inner) a b = not (same u z a b)
stays w (chain u v z inner) a b =
    not (same u z a b) && (not (same v z a b) && (outweighs w u v inner || not (same u v a b)))

abbrev pub undo : Points → Step → List Pair → List Pair
undo w s m = added w s m ++ keep (stays w s) m

-- The way down, of a pairing of the graph before the step: the pairs that do not touch an inner cell, and for those
-- that do a pair of the ends that are free; a pair that is not there after the step is left out.
abbrev pub outside : List ℕ → List Pair → List Pair
outside inner m = keep (λ a b. not (mem a inner || mem b inner)) m

abbrev pub instead : Step → List Pair → List Pair
instead (leaf u v) m = []
instead (ring u z inner) m = cond (free u m) ((u, z) ∷ []) []
instead (chain u v z inner) m =
    cond (free u m) (cond (free v m) ((u, v) ∷ []) ((u, z) ∷ [])) (cond (free v m) ((v, z) ∷ []) [])

abbrev pub inside : Step → List ℕ
inside (leaf u v) = []
inside (ring u z inner) = inner
inside (chain u v z inner) = inner

unfoldable pub down : Points → Step → List Pair → List Pair
down w s m = keep (λ a b. ltb 0 (apply w s a b)) (instead s rest ++ rest)
  where
    rest : List Pair
    rest = outside (inside s) m
