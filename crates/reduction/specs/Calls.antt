-- Replaying a slip on a list, and reducing a list: what the calls answer and write.
use Rattle.std.specs.Prelude.{List, [], ◌∷◌, map, ℕ}
use Rattle.std.proofs.Math.Option.{some, none}
use Rattle.matching.specs.Listed.{short_list}
use Rattle.matching.specs.Steps.{Step}
use Rattle.matching.specs.Slip.{left, carried}
use Rattle.cellfile.specs.Files.{slip as slip_layout, short_list as short_layout, cells_of, steps_of, as_fields}
use Rattle.cellfile.specs.Files.{write_file}
use Rattle.cellfile.specs.Files.{name_fields}
use Rattle.cellfile.specs.Answers.{Answer}
use Rattle.checks.specs.Calls.{answering}
use Rattle.starting.specs.Steps.{graph_in, steps_on, slip_rows, reduce_steps}

-- The files after some steps on the list's working graph.
module _ (list : List ℕ) where
  abbrev pub short_file : List Step → List ℕ
  short_file ss = write_file short_layout (record {
    cells = cells_of list;
    extra = carried (graph_in list) ss ∷ [];
    entries = map as_fields (short_list (cells_of list) (left (graph_in list) ss));
  })

  abbrev pub slip_file : List Step → List ℕ
  slip_file ss = write_file slip_layout (record { cells = cells_of list; extra = []; entries = map name_fields ss })

  -- Replay: the short list that it writes; its answer, for the lengths of the work buffers and of the output.
  abbrev pub replay_short : List ℕ → List ℕ
  replay_short slip = elim (steps_on list (steps_of slip)) [ none ↦ [] | some ss ↦ short_file ss ]

  abbrev pub replaying : List ℕ → List ℕ → ℕ → Answer
  replaying slip lent room = answering lent list (slip_rows list slip) ((room, replay_short slip) ∷ [])

  -- Reduce: the slip and the short list that it writes; its answer.
  abbrev pub reducing : List ℕ → ℕ → ℕ → Answer
  reducing lent slip_room short_room =
      answering lent list []
      ((slip_room, slip_file (reduce_steps list)) ∷ (short_room, short_file (reduce_steps list)) ∷ [])
