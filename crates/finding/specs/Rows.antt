-- The row of a ring or a chain in the buffers, read by walking. Inner contracts cite this.
use Rattle.std.specs.Prelude.{List, ℕ}
use Rattle.matching.specs.Pairs.{Points}
use Rattle.matching.specs.Graph.{partners}
use Rattle.matching.specs.Find.{ReadRow, row}
use Rattle.slots.specs.Slots.{graph_of}

-- The row that leaves u at its partner f, read by walking.
abbrev pub row_at : Points → ℕ → ℕ → ReadRow
row_at w u f = row 1024 (partners 1024 w) u u f

-- The inner cells of the row that leaves u at f.
abbrev pub inner_at : ℕ → List ℕ → ℕ → ℕ → List ℕ
inner_at e w1 u f = (row_at (graph_of e w1) u f).0
