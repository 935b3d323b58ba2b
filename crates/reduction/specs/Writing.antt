-- The files that replay and reduce write, from what stands in the buffers. Inner contracts cite this; laws:
-- proofs/Ends, proofs/Replaying and proofs/Reducing.
use Rattle.std.specs.Prelude.{List, [], ◌∷◌, map, ℕ, drop}
use Rattle.buffers.specs.Map.{at_names}
use Rattle.matching.specs.Pairs.{Points}
use Rattle.matching.specs.Listed.{short_list}
use Rattle.cellfile.specs.Files.{slip as slip_layout, short_list as short_layout, write_file, as_fields}
use Rattle.cellfile.specs.Words.{words_file}
use Rattle.buffers.specs.Map.{at_names}

-- The short list of a graph, and the slip whose steps are the names in the second work buffer.
abbrev pub left_file : ℕ → ℕ → Points → List ℕ
left_file n points w = write_file short_layout (record {
  cells = n;
  extra = points ∷ [];
  entries = map as_fields (short_list n w);
})

abbrev pub taken_file : ℕ → ℕ → List ℕ → List ℕ
taken_file n steps w2 = words_file slip_layout n steps (drop at_names w2)
