-- The best of a part, and the way back by it, in the description's words: what `best` and `undo` compute, said without
-- computing it. Laws: proofs/Ties (`best_first`), proofs/Ways (`near_end`, `best_one`, `step_undone`,
-- `slip_lifts`).
use Rattle.std.specs.Prelude.{◌≡◌, ◌⊎◌, true, false, List, [], ◌∷◌, ◌++◌, ℕ, ◌+◌, ◌≤◌, ◌<◌}
use Rattle.matching.specs.Lists.{mem}
use Rattle.matching.specs.Pairs.{Pair, Points, sum, Each, hit, like, without, held, free}
use Rattle.matching.specs.Pairing.{Once}
use Rattle.matching.specs.Best.{walk}
use Rattle.matching.specs.Steps.{Step, leaf, ring, chain, apply}

-- A pairing m of the pairs es that leaves the cells `off` free: a pairing of X less those cells.
pub record Within (off : List ℕ) (es m : List Pair) : Type 0 where
  pub among : Each (λ a b. 1 ≤ sum (λ x y. like x y a b) es) m
  pub once : Once m
  pub unpaired : (c : ℕ) → mem c off ≡ true → sum (hit c) m ≡ 0

-- A heaviest of these.
pub record MostOf (w : Points) (off : List ℕ) (es m : List Pair) : Type 0 where
  pub within : Within off es m
  pub most : (k : List Pair) → Within off es k → sum w k ≤ sum w m

-- m 'takes the pair at the first difference' from n: at the first of the pairs, in reading order, that one of the two
-- holds and the other does not, if there is one, it is m that holds it.
abbrev pub TakesFirst : List Pair → List Pair → List Pair → Type 0
TakesFirst [] m n = Unit {0}
TakesFirst (e ∷ es) m n =
    ((held e.0 e.1 m ≡ true) × (held e.0 e.1 n ≡ false))
    ⊎ ((held e.0 e.1 m ≡ held e.0 e.1 n) × TakesFirst es m n)

-- 'Where two heaviest pairings of a chain or ring are equal, the best is now the one that takes the pair at the first
-- difference.'
pub record BestOf (w : Points) (off : List ℕ) (es m : List Pair) : Type 0 where
  pub heaviest : MostOf w off es m
  pub near : (k : List Pair) → MostOf w off es k → TakesFirst es m k

-- up is the pairs m and the best of the part, X less the cells off.
abbrev pub WithBest : Points → List ℕ → List Pair → List Pair → List Pair → Type 0
WithBest w off es m up = (b : List Pair) × BestOf w off es b × (up ≡ b ++ m)

-- Leaf: 'if u is unpaired, add the pair u, v'.
pub record LeafUndone (u v : ℕ) (m up : List Pair) : Type 0 where
  pub unpaired : free u m ≡ true → up ≡ (u, v) ∷ m
  pub paired : free u m ≡ false → up ≡ m

-- Ring: 'if the pair u, z is held, replace it by the best of C, else add the best of C less u'.
pub record RingUndone (w : Points) (u z : ℕ) (inner : List ℕ) (m up : List Pair) : Type 0 where
  pub uz : held u z m ≡ true → WithBest w [] (walk u inner u) (without u z m) up
  pub none : held u z m ≡ false → WithBest w (u ∷ []) (walk u inner u) m up

-- The 'present points' of u, v are 'greater than H(P) minus H(Q)', where H is the points of any heaviest pairing.
abbrev pub Outweighs : Points → ℕ → ℕ → List ℕ → Type 0
Outweighs w u v inner =
    (p q : List Pair) → MostOf w [] (walk u inner v) p → MostOf w (u ∷ v ∷ []) (walk u inner v) q
    → sum w p < w u v + sum w q

-- Chain: 'with u, z held, replace it by the best of P less v; with v, z held, by the best of P less u. With u, v held
-- and its present points greater than H(P) minus H(Q), keep it and add the best of Q; otherwise replace it by the best
-- of P. With none of the three held, add the best of Q.'
pub record ChainUndone (w : Points) (u v z : ℕ) (inner : List ℕ) (m up : List Pair) : Type 0 where
  pub uz : held u z m ≡ true → WithBest w (v ∷ []) (walk u inner v) (without u z m) up
  pub vz : held v z m ≡ true → WithBest w (u ∷ []) (walk u inner v) (without v z m) up
  pub uv_stays : held u v m ≡ true → Outweighs w u v inner → WithBest w (u ∷ v ∷ []) (walk u inner v) m up
  pub uv_goes : held u v m ≡ true → (Outweighs w u v inner → ⊥) → WithBest w [] (walk u inner v) (without u v m) up
  pub none : held u z m ≡ false → held v z m ≡ false → held u v m ≡ false
      → WithBest w (u ∷ v ∷ []) (walk u inner v) m up

abbrev pub Undone : Points → Step → List Pair → List Pair → Type 0
Undone w (leaf u v) m up = LeafUndone u v m up
Undone w (ring u z inner) m up = RingUndone w u z inner m up
Undone w (chain u v z inner) m up = ChainUndone w u v z inner m up

-- 'The lifted pairing is what the way back through all the steps makes of the short pairing'; 'the way back undoes the
-- last step first'.
abbrev pub Lifts : Points → List Step → List Pair → List Pair → Type 0
Lifts w [] m up = up ≡ m
Lifts w (s ∷ ss) m up = (mid : List Pair) × Lifts (apply w s) ss m mid × Undone w s mid up
