-- Reduction Rules 2.3 to 2.6 in the paper's words, of the graph before the rule, the graph w' after it, and the offset
-- k by which the solution value decreases. The weight of a part, ω(X), is the points of any heaviest pairing of it (a
-- maximum-weight matching, match(X)); every part has one (`row_heaviest`, proofs/Ways). Laws: proofs/Published,
-- `weightless` (Rule 2.3), `published` and `slip_published`. Here the cell z, new in the paper, is an inner cell; and
-- Rule 2.5 is also for a cycle whose cells all have degree two.
use Rattle.std.specs.Prelude.{◌≡◌, ◌⊎◌, ◌≢◌, true, false, List, [], ◌∷◌, ℕ, ◌+◌, ◌-◌, ◌≤◌, ◌<◌, max, length}
use Rattle.matching.specs.Lists.{mem, distinct, All}
use Rattle.matching.specs.Pairs.{Pair, Points, sum, Each}
use Rattle.matching.specs.Pairing.{Heaviest}
use Rattle.matching.specs.Listed.{Entry, joined}
use Rattle.matching.specs.Graph.{Graph, degree}
use Rattle.matching.specs.Best.{walk}
use Rattle.matching.specs.Steps.{Step, leaf, ring, chain, apply, carry}
use Rattle.matching.specs.Ties.{MostOf}

-- 'If deg(v) = 0 for a vertex v ∈ V, then delete v. If ω(e) = 0 for an edge e ∈ E, then delete e.' The edges are the
-- entries of a list. In a graph a pair of weight 0 is no pair, and a cell without pairs is no cell, here and after
-- every other rule. The solution value does not change.
pub record Rule23 (es : List Entry) (w' : Points) : Type 0 where
  pub weights : All (λ (e : Entry). w' e.0 e.1 ≡ e.2) es
  pub others : (a b : ℕ) → joined es a b ≡ 0 → w' a b ≡ 0
  pub value : (a b : List Pair) → Heaviest (joined es) w' a → Heaviest w' w' b → sum w' a ≡ sum w' b

-- 'Let v be a degree-one vertex and let u be its neighbor. Then delete v, set the weight of every edge e incident with
-- u to max{0, ω(e) − ω(uv)}, and decrease the solution value s by ω(uv).' A difference of numbers is not below 0.
pub record Rule24 (n : ℕ) (w w' : Points) (k u v : ℕ) : Type 0 where
  pub one : degree n w v ≡ 1
  pub neighbour : 0 < w u v
  pub deleted : (a : ℕ) → w' v a ≡ 0
  pub incident : (a : ℕ) → a ≢ v → w' u a ≡ max 0 (w u a - w u v)
  pub others : (a b : ℕ) → a ≢ u → a ≢ v → b ≢ u → b ≢ v → w' a b ≡ w a b
  pub offset : k ≡ w u v

-- A path of three or more edges from u to v, or a cycle where u is v, whose inner vertices all have degree two: 'a
-- maximal path' (Definition 2.4) where the ends differ and are not of degree two, 'a pending cycle' (Definition 2.5)
-- where they are one.
pub record Part (n : ℕ) (w : Points) (u v : ℕ) (inner : List ℕ) : Type 0 where
  pub long : 3 ≤ length (walk u inner v)
  pub edges : Each (λ a b. 0 < w a b) (walk u inner v)
  pub apart : (distinct inner ≡ true) × (mem u inner ≡ false) × (mem v inner ≡ false)
  pub two : (c : ℕ) → mem c inner ≡ true → degree n w c ≡ 2

-- The inner vertices but z are removed, and z has edges to the ends only.
pub record Removed (w' : Points) (u v z : ℕ) (inner : List ℕ) : Type 0 where
  pub kept : mem z inner ≡ true
  pub gone : (c a : ℕ) → mem c inner ≡ true → c ≢ z → w' c a ≡ 0
  pub only : (a : ℕ) → a ≢ u → a ≢ v → w' z a ≡ 0

-- 'Let C be a pending cycle in G, where u ∈ C has degree at least three in G. Then replace C by an edge uz with
-- ω(uz) = ω(C) − ω(C − u) and decrease the solution value s by ω(C − u).'
pub record Rule25 (n : ℕ) (w w' : Points) (k u z : ℕ) (inner : List ℕ) : Type 0 where
  pub cycle : Part n w u u inner
  pub at : (3 ≤ degree n w u) ⊎ (degree n w u ≡ 2)
  pub removed : Removed w' u u z inner
  pub edge : (c c_u : List Pair) → MostOf w [] (walk u inner u) c → MostOf w (u ∷ []) (walk u inner u) c_u
      → w' u z + sum w c_u ≡ sum w c
  pub others : (a b : ℕ) → mem a inner ≡ false → mem b inner ≡ false → w' a b ≡ w a b
  pub offset : (c_u : List Pair) → MostOf w (u ∷ []) (walk u inner u) c_u → k ≡ sum w c_u

-- 'Let P be a maximal path in G with endpoints u and v. Then remove all vertices in P except u and v, add a new vertex
-- z and, if not already existing, add the edge uv. Furthermore, set ω(uz) := ω(P − v) − ω(P − u − v), ω(vz) := ω(P − u)
-- − ω(P − u − v), and ω(uv) := max{ω(uv), ω(P) − ω(P − u − v)}, and decrease the solution value s by ω(P − u − v).'
pub record Rule26 (n : ℕ) (w w' : Points) (k u v z : ℕ) (inner : List ℕ) : Type 0 where
  pub path : Part n w u v inner
  pub ends : (u ≢ v) × (degree n w u ≢ 2) × (degree n w v ≢ 2)
  pub removed : Removed w' u v z inner
  pub uz : (p_v q : List Pair) → MostOf w (v ∷ []) (walk u inner v) p_v → MostOf w (u ∷ v ∷ []) (walk u inner v) q
      → w' u z + sum w q ≡ sum w p_v
  pub vz : (p_u q : List Pair) → MostOf w (u ∷ []) (walk u inner v) p_u → MostOf w (u ∷ v ∷ []) (walk u inner v) q
      → w' v z + sum w q ≡ sum w p_u
  pub uv : (p q : List Pair) → MostOf w [] (walk u inner v) p → MostOf w (u ∷ v ∷ []) (walk u inner v) q
      → (sum w q ≤ sum w p) × (w' u v ≡ max (w u v) (sum w p - sum w q))
  pub others : (a b : ℕ) → mem a inner ≡ false → mem b inner ≡ false → ((a ≡ u) × (b ≡ v) → ⊥)
      → ((a ≡ v) × (b ≡ u) → ⊥) → w' a b ≡ w a b
  pub offset : (q : List Pair) → MostOf w (u ∷ v ∷ []) (walk u inner v) q → k ≡ sum w q

-- A step is the rule that it is named after.
abbrev pub Published : ℕ → Points → Step → Type 0
Published n w (leaf u v) = Rule24 n w (apply w (leaf u v)) (carry w (leaf u v)) u v
Published n w (ring u z inner) = Rule25 n w (apply w (ring u z inner)) (carry w (ring u z inner)) u z inner
Published n w (chain u v z inner) = Rule26 n w (apply w (chain u v z inner)) (carry w (chain u v z inner)) u v z inner

-- Each step of a slip is its rule, where it stands; before and after each stands a graph, in which the order of two
-- cells does not matter.
abbrev pub AllPublished : ℕ → Points → List Step → Type 0
AllPublished n w [] = Graph n w
AllPublished n w (s ∷ ss) = Graph n w × Published n w s × AllPublished n (apply w s) ss
