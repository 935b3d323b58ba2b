-- Solve, lift and pair: what the calls answer and write.
use Rattle.std.specs.Prelude.{List, [], ◌∷◌, ◌++◌, map, ℕ}
use Rattle.std.proofs.Math.Option.{some, none}
use Rattle.matching.specs.Pairs.{Pair, Points}
use Rattle.matching.specs.Listed.{filed}
use Rattle.matching.specs.Steps.{Step}
use Rattle.matching.specs.Slip.{left, lift}
use Rattle.matching.specs.Origin.{Origins, origins}
use Rattle.cellfile.specs.Files.{pairing as pairing_layout, origin_list, cells_of, steps_of, pairs_of, pair_fields}
use Rattle.cellfile.specs.Files.{origin_fields, write_file}
use Rattle.checks.specs.Refusals.{Row}
use Rattle.checks.specs.Calls.{form_row, hold_row, crowded_row, answering}
use Rattle.cellfile.specs.Answers.{Answer}
use Rattle.starting.specs.Steps.{graph_in, steps_on, slip_rows, reduce_steps}
use Rattle.matching.specs.Solve.{solution}
use Rattle.matching.specs.Groups.{largest}

-- A pairing as a file.
abbrev pub pair_file : ℕ → List Pair → List ℕ
pair_file n m = write_file pairing_layout (record { cells = n; extra = []; entries = map pair_fields (filed m) })

-- The origin list of a pairing: its pairs, each with where it came from.
abbrev pub origin_file : ℕ → Origins → List Pair → List ℕ
origin_file n o m = write_file origin_list (record { cells = n; extra = []; entries = map (origin_fields o) (filed m) })

-- What the calls write, their own refusals, and their answers, for the lengths of the work buffers and of the outputs.
module _ (list : List ℕ) where
  abbrev pub cells : ℕ
  cells = cells_of list

  -- The graph that steps leave, its solution, and a pairing of it brought back to the list with where its pairs came
  -- from, as files.
  abbrev pub graph_after : List Step → Points
  graph_after ss = left (graph_in list) ss

  abbrev pub solved_file : List Step → List ℕ
  solved_file ss = pair_file cells (solution cells (graph_after ss))

  abbrev pub lifted_file : List Step → List Pair → List ℕ
  lifted_file ss m = pair_file cells (lift (graph_in list) ss m)

  abbrev pub lifted_origins : List Step → List Pair → List ℕ
  lifted_origins ss m = origin_file cells (origins (graph_in list) ss m) (lift (graph_in list) ss m)

  -- By the steps of the slip; where one is not allowed, x, which does not count.
  abbrev pub by_steps : {A : Type 0} → List ℕ → A → (List Step → A) → A
  by_steps slip x f = elim (steps_on list (steps_of slip)) [ none ↦ x | some ss ↦ f ss ]

  -- Solve.
  abbrev pub solve_file : List ℕ → List ℕ
  solve_file slip = by_steps slip [] solved_file

  abbrev pub largest_after : List ℕ → ℕ
  largest_after slip = by_steps slip 0 (λ ss. largest cells (graph_after ss))

  abbrev pub solve_rows : List ℕ → List Row
  solve_rows slip = slip_rows list slip ++ crowded_row (largest_after slip) ∷ []

  abbrev pub solving : List ℕ → List ℕ → ℕ → Answer
  solving slip lent room = answering lent list (solve_rows slip) ((room, solve_file slip) ∷ [])

  -- Lift.
  abbrev pub lift_file : List ℕ → List ℕ → List ℕ
  lift_file slip pairing = by_steps slip [] (λ ss. lifted_file ss (pairs_of pairing))

  abbrev pub lift_origins : List ℕ → List ℕ → List ℕ
  lift_origins slip pairing = by_steps slip [] (λ ss. lifted_origins ss (pairs_of pairing))

  abbrev pub lift_rows : List ℕ → List ℕ → List Row
  lift_rows slip pairing =
      slip_rows list slip ++ form_row cells pairing ∷ hold_row (by_steps slip (graph_in list) graph_after) pairing ∷ []

  abbrev pub lifting : List ℕ → List ℕ → List ℕ → ℕ → ℕ → Answer
  lifting slip pairing lent room origin_room =
      answering lent list (lift_rows slip pairing)
      ((room, lift_file slip pairing) ∷ (origin_room, lift_origins slip pairing) ∷ [])

  -- Pair: reduce, solve, lift.
  abbrev pub pairing_file : List ℕ
  pairing_file = lifted_file (reduce_steps list) (solution cells (graph_after (reduce_steps list)))

  abbrev pub pairing_origins : List ℕ
  pairing_origins = lifted_origins (reduce_steps list) (solution cells (graph_after (reduce_steps list)))

  abbrev pub pair_rows : List Row
  pair_rows = crowded_row (largest cells (graph_after (reduce_steps list))) ∷ []

  abbrev pub pairing : List ℕ → ℕ → ℕ → Answer
  pairing lent room origin_room =
      answering lent list pair_rows ((room, pairing_file) ∷ (origin_room, pairing_origins) ∷ [])
