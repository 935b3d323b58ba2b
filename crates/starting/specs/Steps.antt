-- The list's working graph, the steps that a slip names on it with refusals 7 and 8 of the slip, and those that reduce
-- takes. Promises cite these.
use Rattle.std.specs.Prelude.{Bool, true, false, List, [], ◌∷◌, map, ℕ}
use Rattle.std.proofs.Math.Option.{Option, some, none}
use Rattle.matching.specs.Pairs.{Points}
use Rattle.matching.specs.Listed.{listed}
use Rattle.matching.specs.Steps.{Step}
use Rattle.matching.specs.Slip.{replay, reduce}
use Rattle.checks.specs.Refusals.{Row, rules, bad_slip, disallowed}
use Rattle.cellfile.specs.Files.{cells_of, as_name, in_view}

module _ (list : List ℕ) where
  abbrev pub graph_in : Points
  graph_in = listed (in_view list)

  -- The steps that a slip names, none where one is not allowed where it stands.
  abbrev pub steps_on : List (ℕ × ℕ) → Option (List Step)
  steps_on ts = replay (cells_of list) graph_in (map as_name ts)

  abbrev pub stand : List (ℕ × ℕ) → Bool
  stand ts = elim (steps_on ts) [ none ↦ false | some ss ↦ true ]

  abbrev pub slip_rows : List ℕ → List Row
  slip_rows slip = (7, bad_slip rules (cells_of list) slip) ∷ (8, disallowed stand slip) ∷ []

  -- The steps that reduce takes.
  abbrev pub reduce_steps : List Step
  reduce_steps = reduce (cells_of list) (cells_of list) graph_in
