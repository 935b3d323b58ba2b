-- The worked list 0-1:0 and its pairing 0-1 as files. What weighing and lifting answer of them stands in their crates.
use Prim.Native.Nat.{ℕ}
use mathlib.Core.List.{List, [], ◌∷◌}

-- kind 1, two cells, one entry: cells 0 and 1, no points
abbrev pub list : List ℕ
list = 0x10 ∷ 0x04 ∷ 0x00 ∷ 0x10 ∷ 0x00 ∷ 0x00 ∷ 0x10 ∷ 0x00 ∷ 0x00 ∷ []

-- kind 4, two cells, one entry: cells 0 and 1
abbrev pub pairing : List ℕ
pairing = 0x40 ∷ 0x04 ∷ 0x00 ∷ 0x10 ∷ 0x00 ∷ 0x00 ∷ 0x10 ∷ []
