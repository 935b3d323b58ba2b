-- Pair: `pair_claim`. The row of refusal 11 tells whether what reduce leaves is crowded (`pair_crowded`). Pair is
-- reduce, solve and lift (`three_calls`), and so what these say holds of it. Assumes nothing.
use mathlib.Core.Path.{◌≡◌, sym, ap, subst, ◌∙◌}
use mathlib.Core.List.{List, [], ◌∷◌, map}
use Prim.Native.Nat.{ℕ, ◌+◌}
use native.Mathlib.Omega.{arith}
use lib.ListN.{length}
use Rattle.matching.specs.Listed.{points}
use Rattle.matching.specs.Groups.{largest}
use Rattle.matching.specs.Steps.{name}
use Rattle.matching.proofs.Tests.{Test, fails}
use Rattle.cellfile.specs.Files.{cells_of, pairs_of, carried_of}
use Rattle.checks.specs.Refusals.{crowded}
use Rattle.weighing.specs.Weigh.{weighing}
use Rattle.checks.proofs.Layers.{call_passes}
use Rattle.starting.specs.Steps.{reduce_steps}
use Rattle.reduction.proofs.Reducing.{reduce_allowed}
use Rattle.lifting.specs.Calls.{graph_after, lifted_file, lifted_origins, solve_file, lift_file, lift_origins}
use Rattle.lifting.specs.Calls.{pair_rows, pairing_file, pairing_origins, pairing}
use Rattle.claims.specs.Demand.{AcceptedList, store_of, short_of, HeaviestOf, WritesBoth, Allowed, Liftable}
use Rattle.claims.specs.Claims.{Crowded, reduce_slip, OriginClaim, SolveClaim, LiftClaim, PairClaim}
use Rattle.claims.proofs.Slips.{slip_allowed, short_graph}
use Rattle.claims.proofs.Demand.{with_rooms, rooms_enough, same_lifted, demand_three}
use Rattle.claims.proofs.Origins.{same_origins}
use Rattle.claims.proofs.Claims.{lift_claim, reduce_claim}
use Rattle.claims.proofs.Crowds.{largest_left, crowded_test}
use Rattle.claims.proofs.Solved.{solve_read, solve_claim}

module _ (list : List ℕ) (h : AcceptedList list) where
  abbrev slip : List ℕ
  slip = reduce_slip list

  abbrev allowed : Allowed list slip
  allowed = slip_allowed list h (map name (reduce_steps list)) (reduce_steps list) (reduce_allowed list h)

  -- the rows of pair count the largest group of the short list that reduce writes
  same_left : largest (cells_of list) (graph_after list (reduce_steps list)) ≡ largest_left list (reduce_slip list)
  same_left = ap (largest (cells_of list)) (sym (short_graph list slip allowed))

  pub pair_crowded : Test (Crowded list (reduce_slip list)) (Crowded list (reduce_slip list) → ⊥)
      (crowded (largest (cells_of list) (graph_after list (reduce_steps list))))
  pair_crowded =
      subst (λ (v : ℕ). Test (Crowded list slip) (Crowded list slip → ⊥) (crowded v)) (sym same_left)
      (crowded_test list slip)

  solve : SolveClaim list slip
  solve = solve_claim list slip allowed

  liftable : Liftable list slip (solve_file list slip)
  liftable = solve.liftable

  lift : LiftClaim list slip (solve_file list slip) (reduce_steps list)
  lift = lift_claim list slip (solve_file list slip) allowed liftable

  -- reduce, solve, lift
  three_calls : pairing_file list ≡ lift_file list (reduce_slip list) (solve_file list (reduce_slip list))
  three_calls =
      ap (lifted_file list (reduce_steps list)) (sym (solve_read list slip allowed))
      ∙ sym (same_lifted list slip allowed (solve_file list slip) liftable)

  same_from : pairing_origins list ≡ lift_origins list (reduce_slip list) (solve_file list (reduce_slip list))
  same_from =
      ap (lifted_origins list (reduce_steps list)) (sym (solve_read list slip allowed))
      ∙ sym (same_origins list slip allowed (solve_file list slip) liftable)

  pair_writes : (Crowded list (reduce_slip list) → ⊥)
      → WritesBoth (pairing list) (pairing_file list) (pairing_origins list)
  pair_writes few lent room further enough l k =
      call_passes list lent (with_rooms (pair_rows list) room further (pairing_file list) (pairing_origins list))
      (length (pairing_file list) ∷ length (pairing_origins list) ∷ []) enough h (
        fails pair_crowded few,
        (rooms_enough room further (pairing_file list) (pairing_origins list) l k, tt),
      )

  pub pair_claim : PairClaim list
  pair_claim =
      let reduce = reduce_claim list h in
      record {
        writes = pair_writes;
        composed = (three_calls, same_from);
        reduced = reduce;
        solved = solve;
        lifted = lift;
        heaviest = subst (λ (f : List ℕ). HeaviestOf (store_of list) (pairs_of f)) (sym three_calls)
            (((demand_three list slip allowed).2 (solve_file list slip) liftable).1.heaviest solve.heaviest);
        weighs = λ lent enough. (
            ap (λ (f : List ℕ). weighing list f lent) three_calls
            ∙ lift.weighs lent enough
            ∙ ap (λ (f : List ℕ). (0, (points (short_of f) (pairs_of (solve_file list slip)) + carried_of f) ∷ []))
            reduce.replays
            );
        longest = omega (arith, ap length three_calls, lift.longest);
        origins =
            subst (λ (f : List ℕ). OriginClaim list (solve_file list slip) f (pairing_origins list) (reduce_steps list))
            (sym three_calls)
            (subst (λ (o : List ℕ). OriginClaim list (solve_file list slip)
            (lift_file list slip (solve_file list slip)) o
            (reduce_steps list)) (sym same_from) lift.origins);
      }
