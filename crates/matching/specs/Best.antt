-- The heaviest pairing of some pairs, read in order. 'H(X) is the points of a heaviest pairing of X; X less c is X
-- without cell c': here the same pairs, with c among the cells that must stay free.
use Rattle.std.specs.Prelude.{Bool, true, false, not, cond, ◌||◌, List, [], ◌∷◌, ℕ, ◌+◌, max, ltb}
use Rattle.matching.specs.Lists.{mem}
use Rattle.matching.specs.Pairs.{Pair, Points}

-- Whether a pair touches a cell that must stay free.
abbrev pub barred : List ℕ → Pair → Bool
barred off e = mem e.0 off || mem e.1 off

-- The points of a heaviest pairing of the pairs that leaves the cells `off` free.
unfoldable pub H : Points → List ℕ → List Pair → ℕ
H w off [] = 0
H w off (e ∷ es) = cond (barred off e) (H w off es) (max (H w off es) (w e.0 e.1 + H w (e.0 ∷ e.1 ∷ off) es))

-- Whether a pair is taken, by what is had without it and with it. Of equals: taken where the tie is true.
abbrev pub pays : Bool → ℕ → ℕ → Bool
pays false without with = ltb without with
pays true without with = not (ltb with without)

-- 'The best is the heaviest'; of equals, at the first pair in reading order where two differ, the one that takes the
-- pair where the tie is true, and leaves it out where the tie is false.
unfoldable pub best : Bool → Points → List ℕ → List Pair → List Pair
best t w off [] = []
best t w off (e ∷ es) =
    cond (barred off e) (best t w off es)
    (cond (pays t (H w off es) (w e.0 e.1 + H w (e.0 ∷ e.1 ∷ off) es))
    (e ∷ best t w (e.0 ∷ e.1 ∷ off) es)
    (best t w off es))

-- The tie of chains and rings: 'where two heaviest pairings of a chain or ring are equal, the best is now the one that
-- takes the pair at the first difference'.
unfoldable pub tie : Bool
tie = true

-- The pairs of a walk from u over the cells to v, in reading order.
abbrev pub walk : ℕ → List ℕ → ℕ → List Pair
walk u [] v = (u, v) ∷ []
walk u (c ∷ cs) v = (u, c) ∷ walk c cs v
