-- What a leaf, a ring and a chain are, in the description's words. Laws: proofs/Find (a step is found just where these
-- hold).
use Rattle.std.specs.Prelude.{◌≡◌, ◌⊎◌, ◌≢◌, true, false, List, [], ◌∷◌, ℕ, ◌≤◌, ◌<◌, length}
use Rattle.matching.specs.Lists.{mem, distinct}
use Rattle.matching.specs.Pairs.{Points, Each}
use Rattle.matching.specs.Graph.{degree}
use Rattle.matching.specs.Best.{walk}
use Rattle.matching.specs.Steps.{Rule, by_leaf, by_ring, by_chain, Step, leaf, ring, chain}

-- 'Two or more cells of degree two in a row', from u to v.
pub record IsRow (n : ℕ) (w : Points) (u : ℕ) (inner : List ℕ) (v : ℕ) : Type 0 where
  pub live : Each (λ a b. 0 < w a b) (walk u inner v)
  pub two : (c : ℕ) → mem c inner ≡ true → degree n w c ≡ 2
  pub apart : distinct inner ≡ true
  pub first_off : mem u inner ≡ false
  pub last_off : mem v inner ≡ false
  pub more : 1 < length inner

-- 'z is the lowest inner cell.'
pub record Lowest (z : ℕ) (inner : List ℕ) : Type 0 where
  pub here : mem z inner ≡ true
  pub least : (c : ℕ) → mem c inner ≡ true → z ≤ c

-- The first and the last of some cells, u where there is none.
abbrev pub first : ℕ → List ℕ → ℕ
first u [] = u
first u (c ∷ cs) = c

abbrev pub last : ℕ → List ℕ → ℕ
last u [] = u
last u (c ∷ cs) = last c cs

-- 'v has degree one, u is its partner.'
pub record IsLeaf (n : ℕ) (w : Points) (u v : ℕ) : Type 0 where
  pub one : degree n w v ≡ 1
  pub pair : 0 < w v u

-- 'A ring with at most one cell not of degree two. u is that cell, or the lowest cell when all have degree two. z is
-- the lowest other cell.' Read 'from u towards its lower ring neighbour'.
pub record IsRing (n : ℕ) (w : Points) (u z : ℕ) (inner : List ℕ) : Type 0 where
  pub row : IsRow n w u inner u
  pub low : Lowest z inner
  pub at : (degree n w u ≢ 2) ⊎ (u < z)
  pub towards : first u inner < last u inner

-- '.. between two different ends u < v, neither of degree two.' Read from u to v.
pub record IsChain (n : ℕ) (w : Points) (u v z : ℕ) (inner : List ℕ) : Type 0 where
  pub row : IsRow n w u inner v
  pub low : Lowest z inner
  pub ends : u < v
  pub first_end : degree n w u ≢ 2
  pub last_end : degree n w v ≢ 2

-- 'A step is allowed where it stands if its rule fits there with the cell it names as v or z.'
abbrev pub IsStep : ℕ → Points → Rule → ℕ → Step → Type 0
IsStep n w by_leaf c (leaf u v) = (v ≡ c) × IsLeaf n w u v
IsStep n w by_leaf c (ring u z inner) = ⊥
IsStep n w by_leaf c (chain u v z inner) = ⊥
IsStep n w by_ring c (leaf u v) = ⊥
IsStep n w by_ring c (ring u z inner) = (z ≡ c) × IsRing n w u z inner
IsStep n w by_ring c (chain u v z inner) = ⊥
IsStep n w by_chain c (leaf u v) = ⊥
IsStep n w by_chain c (ring u z inner) = ⊥
IsStep n w by_chain c (chain u v z inner) = (z ≡ c) × IsChain n w u v z inner

-- The order in which steps are tried: 'a leaf step at the lowest possible cell; without one, a ring step at the lowest
-- cell named z; without one, a chain step likewise'. The step named x is tried no later than the one named y.
abbrev pub rank : Rule → ℕ
rank by_leaf = 0
rank by_ring = 1
rank by_chain = 2

abbrev pub NoLater : Rule × ℕ → Rule × ℕ → Type 0
NoLater x y = (rank x.0 < rank y.0) ⊎ ((x.0 ≡ y.0) × (x.1 ≤ y.1))
