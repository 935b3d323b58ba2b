-- The words in which the claims of tidy are said (crate claims, specs/Tidied).
use Rattle.std.specs.Prelude.{Bool, cond, List, [], ◌∷◌, ℕ, ◌+◌, ◌*◌, ◌%◌}
use Rattle.matching.specs.Pairs.{same}
use Rattle.matching.specs.Listed.{Entry}
use Rattle.cellfile.specs.Files.{raw_list}

-- The elements that pass the test; the last of some elements, where there is one.
abbrev pub passing : {A : Type 0} → (A → Bool) → List A → List A
passing t [] = []
passing t (x ∷ xs) = cond (t x) (x ∷ passing t xs) (passing t xs)

abbrev pub last_of : {A : Type 0} → List A → List A
last_of [] = []
last_of (x ∷ []) = x ∷ []
last_of (x ∷ y ∷ ys) = last_of (y ∷ ys)

-- The entries that join the cells a and b, whichever stands first.
abbrev pub joins : ℕ → ℕ → Entry → Bool
joins a b e = same e.0 e.1 a b

abbrev pub joining : ℕ → ℕ → List Entry → List Entry
joining a b es = passing (joins a b) es

-- A file with its kind, the first four bits, changed to that of a raw list.
abbrev pub as_raw : List ℕ → List ℕ
as_raw [] = []
as_raw (b ∷ s) = (raw_list.kind * 16 + b % 16) ∷ s
