-- Solve: `solve_claim`. In order: the row of refusal 11 tells whether what a slip that is allowed leaves is crowded
-- (`solve_crowded`); it is solved (`solve_read`); the claim. Assumes nothing.
use mathlib.Core.Path.{◌≡◌, sym, ap, subst, ◌∙◌}
use mathlib.Core.Bool.{not}
use mathlib.Core.List.{List, [], ◌∷◌}
use Prim.Native.Nat.{ℕ, ◌≤◌}
use native.Mathlib.Omega.{arith}
use lib.ListN.{length}
use Rattle.matching.specs.Pairs.{Pair, Points}
use Rattle.matching.specs.Listed.{filed}
use Rattle.matching.specs.Pairing.{Pairing, First}
use Rattle.matching.specs.Groups.{largest, groups, solve_each}
use Rattle.matching.specs.Slip.{left}
use Rattle.matching.proofs.Tests.{Test, fails}
use Rattle.cellfile.specs.Files.{cells_of, pairs_of}
use Rattle.checks.specs.Refusals.{bad_pairing, crowded}
use Rattle.checks.proofs.Layers.{call_passes}
use Rattle.starting.specs.Steps.{graph_in}
use Rattle.reduction.specs.Calls.{replay_short}
use Rattle.checks.proofs.Accepted.{accepted_list}
use Rattle.lifting.specs.Calls.{pair_file, graph_after, solved_file, largest_after, solve_rows, solve_file, solving}
use Rattle.matching.specs.Solve.{solution}
use Rattle.matching.proofs.Solution.{solution_filed, solution_heaviest, solution_first}
use Rattle.matching.proofs.Groups.{groups_solved}
use Rattle.lifting.proofs.Filing.{file_read, file_formed, file_longest}
use Rattle.claims.specs.Demand.{short_of, PairingOf, HeaviestOf, Writes, Allowed}
use Rattle.claims.specs.Claims.{Crowded, SolveClaim}
use Rattle.claims.proofs.Slips.{after, by_steps_is, graph_after_is, short_graph, after_pairing, heaviest_after}
use Rattle.claims.proofs.Slips.{after_heaviest}
use Rattle.claims.proofs.Demand.{with_room, room_enough, stands}
use Rattle.claims.proofs.Crowds.{largest_left, crowded_test}

module _ (list slip : List ℕ) (h : Allowed list slip) where
  abbrev it : List Pair
  it = solution (cells_of list) (after list slip h)

  le : cells_of list ≤ 1024
  le = (accepted_list list h.accepted).0

  held : Pairing (left (graph_in list) h.steps) it
  held = (solution_heaviest (cells_of list) (after list slip h) (graph_after_is list slip h)).pairing

  -- the rows of solve count the largest group of the short list
  same_count : largest_after list slip ≡ largest_left list slip
  same_count =
      by_steps_is list slip h 0 (λ ts. largest (cells_of list) (graph_after list ts))
      ∙ ap (largest (cells_of list)) (sym (short_graph list slip h))

  pub solve_crowded : Test (Crowded list slip) (Crowded list slip → ⊥) (crowded (largest_after list slip))
  solve_crowded =
      subst (λ (v : ℕ). Test (Crowded list slip) (Crowded list slip → ⊥) (crowded v)) (sym same_count)
      (crowded_test list slip)

  same_solve : solve_file list slip ≡ pair_file (cells_of list) it
  same_solve = by_steps_is list slip h [] (solved_file list)

  pub solve_read : pairs_of (solve_file list slip) ≡ solution (cells_of list) (left (graph_in list) h.steps)
  solve_read =
      ap pairs_of same_solve
      ∙ file_read le (graph_after_is list slip h) it held
      ∙ solution_filed (cells_of list) (after list slip h)

  solve_writes : (Crowded list slip → ⊥) → Writes (solving list slip) (solve_file list slip)
  solve_writes few lent room enough l =
      call_passes list lent (with_room (solve_rows list slip) room (solve_file list slip))
      (length (solve_file list slip) ∷ []) enough h.accepted (
        h.formed,
        (
          ap not (stands list slip h),
          (fails solve_crowded few, (room_enough room (solve_file list slip) l, tt)),
        ),
      )

  pub solve_claim : SolveClaim list slip
  solve_claim = record {
    writes = solve_writes;
    liftable = record {
      formed = ap (bad_pairing (cells_of list)) same_solve ∙ file_formed le (graph_after_is list slip h) it held;
      pairs = subst (PairingOf (short_of (replay_short list slip))) (sym solve_read)
          (after_pairing list slip h it held);
    };
    heaviest = subst (HeaviestOf (short_of (replay_short list slip))) (sym solve_read)
        (after_heaviest list slip h it
        (solution_heaviest (cells_of list) (after list slip h) (graph_after_is list slip h)));
    foremost = λ m p. subst (λ (s : List Pair). First s m) (sym solve_read)
        (solution_first (cells_of list) (after list slip h) (graph_after_is list slip h) m
        (heaviest_after list slip h m p));
    joined = solve_read ∙ sym (groups_solved (graph_after_is list slip h))
        ∙ ap (λ (v : Points). filed (solve_each v (groups (cells_of list) v))) (sym (short_graph list slip h));
    longest = omega (arith, ap length same_solve, file_longest le (graph_after_is list slip h) it held);
  }
