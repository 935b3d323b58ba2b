-- What can be written: values that fit their fields. Under these, reading and writing undo each other
-- (laws: proofs/RoundTrip).
use Rattle.std.specs.Prelude.{ℕ, ◌*◌, ◌<◌, ◌^◌, ◌≡◌, List, [], ◌∷◌, length}
use Rattle.matching.specs.Lists.{All}
use Rattle.cellfile.specs.Fields.{bits, size}
use Rattle.cellfile.specs.Files.{Layout, File}

-- Bytes are below 256.
abbrev pub AreBytes : List ℕ → Type 0
AreBytes s = All (λ (b : ℕ). b < 256) s

-- One value for each field, within its width.
abbrev pub FitsFields : List ℕ → List ℕ → Type 0
FitsFields [] [] = Unit {0}
FitsFields [] (x ∷ xs) = ⊥
FitsFields (w ∷ ws) [] = ⊥
FitsFields (w ∷ ws) (x ∷ xs) = (x < 2 ^ w) × FitsFields ws xs

-- A record of whole bytes.
abbrev pub WholeBytes : List ℕ → Type 0
WholeBytes ws = 8 * size ws ≡ bits ws

pub record FitsFile (l : Layout) (f : File) : Type 0 where
  pub kind : l.kind < 16
  pub cells : f.cells < 2048
  pub count : length f.entries < 8192
  pub whole_extra : WholeBytes (l.extra f.cells)
  pub whole_entry : WholeBytes l.entry
  pub extra : FitsFields (l.extra f.cells) f.extra
  pub entries : All (FitsFields l.entry) f.entries
