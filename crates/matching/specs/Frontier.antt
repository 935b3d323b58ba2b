-- Which cells a step can make name another step. For inner contracts; the law is `sought_after`
-- (proofs/Frontier).
use Rattle.std.specs.Prelude.{◌≡◌, ◌⊎◌, true, ℕ, ◌≤◌, ◌<◌}
use Rattle.matching.specs.Lists.{mem}
use Rattle.matching.specs.Pairs.{Points}
use Rattle.matching.specs.Graph.{degree}
use Rattle.matching.specs.Steps.{Rule, by_leaf, by_ring, by_chain, Step, leaf, ring, chain}
use Rattle.matching.specs.Shapes.{IsStep}

-- The ends of a chain have more than two pairs. Where there is no leaf every chain is such.
abbrev pub Proper : ℕ → Points → Step → Type 0
Proper n w (leaf u v) = Unit {0}
Proper n w (ring u z inner) = Unit {0}
Proper n w (chain u v z inner) = (2 < degree n w u) × (2 < degree n w v)

-- The cell c names a step of the rule.
abbrev pub Sought : ℕ → Points → Rule → ℕ → Type 0
Sought n w r c = (t : Step) × IsStep n w r c t × Proper n w t

-- The cell x is the leaf of a step, or inside its row.
abbrev pub On : ℕ → Step → Type 0
On x (leaf u v) = x ≡ v
On x (ring u z inner) = mem x inner ≡ true
On x (chain u v z inner) = mem x inner ≡ true

-- The cell d names a step of the rule that x is on.
abbrev pub NamedBy : ℕ → Points → Rule → ℕ → ℕ → Type 0
NamedBy n w r x d = (t : Step) × IsStep n w r d t × On x t

-- A cell that loses pairs in the step, and stays: the partner of the leaf, or a cell that loses its pair with it; the
-- ends of a ring and a chain.
abbrev pub Loses : Points → Step → ℕ → Type 0
Loses w (leaf u v) x = (x ≡ u) ⊎ ((0 < w x u) × (w x u ≤ w u v))
Loses w (ring u z inner) x = x ≡ u
Loses w (chain u v z inner) x = (x ≡ u) ⊎ (x ≡ v)

-- The cell that a step leaves of its row.
abbrev pub Left : Step → ℕ → Type 0
Left (leaf u v) x = ⊥
Left (ring u z inner) x = x ≡ z
Left (chain u v z inner) x = x ≡ z

-- A step of the rule that stands after the step s, and did not before, is on one of these cells.
abbrev pub Afresh : Points → Step → Rule → ℕ → Type 0
Afresh w s by_leaf x = Loses w s x ⊎ Left s x
Afresh w s by_ring x = Loses w s x
Afresh w s by_chain x = Loses w s x
