-- 'A view that holds the lent list serves the entry at a given place below m of a list that passes refusals 2 to 6, and
-- answers none otherwise.'
use Rattle.std.specs.Prelude.{Option, Some, None, cond, ◌&&◌, List, [], ◌∷◌, ℕ, eqb, ltb, get_or}
use Rattle.cellfile.specs.Files.{count_of, entries_all, as_fields}
use Rattle.checks.specs.Refusals.{first, lists, list_rows}
use Rattle.cellfile.specs.Answers.{Answer}
use Rattle.cellfile.specs.declared.decode.Entry.{Entry}

-- The number and the values of what is served: 1 and the entry's cells and points, or 0.
abbrev pub served : Option Entry → Answer
served (Some e) = (1, e.a ∷ e.b ∷ e.points ∷ [])
served None = (0, [])

-- The entry at a place of the list.
unfoldable pub serving : List ℕ → ℕ → Answer
serving list place =
    cond (eqb (first (list_rows lists list)) 0 && ltb place (count_of list))
    (1, as_fields (get_or (entries_all list) place (0, 0, 0))) (0, [])

-- How many entries a view of the list shows.
unfoldable pub shown : List ℕ → ℕ
shown list = cond (eqb (first (list_rows lists list)) 0) (count_of list) 0
