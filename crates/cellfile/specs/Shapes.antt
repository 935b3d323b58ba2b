-- The shape of a list as the program has it. Inner contracts cite this.
use Rattle.std.specs.Prelude.{ℕ, ◌≤◌, ◌≡◌, List}
use Rattle.cellfile.specs.Fields.{size}
use Rattle.cellfile.specs.Files.{start, cells_of, list_layout}
use Rattle.cellfile.specs.Reads.{entry_fields}
use Rattle.cellfile.specs.declared.records.Shape.{Shape}

-- Where the entries of a list start, and their bytes.
pub record ShapeRead (s : List ℕ) (r : Shape) : Type 0 where
  pub start : r.start ≡ start (list_layout s) (cells_of s)
  pub bytes : r.bytes ≡ size (list_layout s).entry
  pub fields : (list_layout s).entry ≡ entry_fields r.bytes
  pub start_fits : r.start ≤ 4
  pub least : 3 ≤ r.bytes
  pub most : r.bytes ≤ 8
