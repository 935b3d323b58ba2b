-- The hypotheses of demand 3 are met (`met`): by a well-formed list, by steps that are allowed and by pairings of the
-- short list, each written. What replay, lift and reduce write (`replay_claim`, `lift_claim`, `reduce_claim`). Assumes
-- nothing.
use mathlib.Core.Path.{◌≡◌, sym, ap, subst, ◌∙◌}
use mathlib.Core.Bool.{false, not}
use mathlib.Core.List.{List, [], ◌∷◌, map}
use Prim.Native.Nat.{ℕ, ◌<◌}
use native.Mathlib.Omega.{arith}
use lib.ListN.{length}
use Rattle.matching.specs.Lists.{All}
use Rattle.matching.specs.Pairs.{Pair}
use Rattle.matching.specs.Listed.{Entry, joined, points}
use Rattle.matching.specs.Steps.{Rule, Step, name}
use Rattle.matching.specs.Slip.{AreSteps, lift}
use Rattle.matching.proofs.Alls.{all_map}
use Rattle.matching.proofs.Pairing.{pairing_is}
use Rattle.matching.proofs.Published.{weightless, slip_published}
use Rattle.matching.proofs.Reduce.{replay_is, carried_sum, reduce_in_turn}
use Rattle.matching.proofs.Ways.{slip_lifts}
use Rattle.cellfile.specs.Files.{cells_of, entries_all, pairs_of, list_file}
use Rattle.cellfile.proofs.Lists.{view_all}
use Rattle.checks.specs.Refusals.{too_few_words, bad_pairing}
use Rattle.checks.proofs.Layers.{call_passes}
use Rattle.weighing.specs.Weigh.{weighing}
use Rattle.weighing.proofs.Weights.{weigh_passes}
use Rattle.checks.proofs.Written.{list_passes, list_cells, list_written}
use Rattle.starting.specs.Steps.{graph_in, reduce_steps}
use Rattle.reduction.specs.Calls.{replay_short, reducing}
use Rattle.checks.proofs.Accepted.{accepted_list}
use Rattle.starting.proofs.OnList.{list_graph}
use Rattle.reduction.proofs.Reducing.{reduce_allowed}
use Rattle.lifting.specs.Calls.{pair_file, lift_file}
use Rattle.lifting.proofs.Filing.{file_read, file_pairing, file_formed, file_longest, all_entries}
use Rattle.claims.specs.Demand.{AcceptedList, store_of, short_of, PairingOf, WritesBoth, Allowed, Liftable}
use Rattle.claims.specs.Claims.{WellFormed, ListClaim, SlipClaim, PairingClaim, Met, ReplayClaim}
use Rattle.claims.specs.Claims.{LiftClaim, reduce_slip, reduce_short, ReduceClaim}
use Rattle.claims.proofs.Slips.{slip_names, slip_allowed, slip_longest, short_longest, rs, same_file, short_is}
use Rattle.claims.proofs.Slips.{carried_is, cells_are, replay_longest, short_entries_graph, pairing_after}
use Rattle.claims.proofs.Demand.{with_rooms, rooms_enough, same_lifted, store_pairing, lifted_is, demand_three}
use Rattle.claims.proofs.Origins.{origin_claim}

-- ---- the hypotheses are met

well_formed : (n : ℕ) (es : List Entry) → WellFormed n es → ListClaim n es
well_formed n es h =
    let small : All (λ (e : Entry). e.2 < 1048576) es = all_map (λ (e : Entry) l. omega arith) es h.small in
    record {
      accepted = list_passes n es h.cells h.count h.ascends small;
      cells = list_cells n es h.cells h.count h.ascends small;
      entries = view_all (list_file n es) ∙ list_written n es h.cells h.count h.ascends small;
    }

every_slip : (list : List ℕ) → AcceptedList list → (rs : List (Rule × ℕ)) (ss : List Step)
    → AreSteps (cells_of list) (graph_in list) rs ss → SlipClaim list ss
every_slip list h rs ss p =
    let allowed = (replay_is (list_graph list h) rs ss).1 p in
    let a = slip_allowed list h rs ss allowed in
    record {
      allowed = a;
      names = slip_names list h rs ss allowed;
      taken = (demand_three list _ a).0;
      longest = slip_longest list h rs ss allowed;
    }

every_pairing : (list slip : List ℕ) → Allowed list slip → (m : List Pair)
    → PairingOf (short_of (replay_short list slip)) m → PairingClaim list slip m
every_pairing list slip h m p =
    let le = (accepted_list list h.accepted).0 in
    let g = short_entries_graph list slip h in
    let l : Liftable list slip (pair_file (cells_of list) m) =
    record { formed = file_formed le g m p; pairs = file_pairing le g m p } in
    record {
      liftable = l;
      pairs = file_read le g m p;
      taken = ((demand_three list slip h).2 (pair_file (cells_of list) m) l).0;
      longest = file_longest le g m p;
    }

pub met : Met
met = record {
  lists = well_formed;
  slips = every_slip;
  pairings = every_pairing;
  no_step = λ list h. every_slip list h [] [] tt;
  no_pair = λ list slip h. every_pairing list slip h [] (record { held = tt; once = λ c. omega arith });
}

-- ---- replay and lift

pub replay_claim : (list slip : List ℕ) (h : Allowed list slip) → ReplayClaim list slip h.steps
replay_claim list slip h = record {
  cells = cells_are list slip h;
  entries = short_is list slip h;
  carried = carried_is list slip h ∙ carried_sum (graph_in list) h.steps;
  zero_pairs = weightless (cells_of list) (store_of list) (accepted_list list h.accepted).1;
  rules = slip_published (list_graph list h.accepted) (rs list slip h) h.steps h.stand;
  longest = replay_longest list slip h;
}

-- weigh of a pairing of the entries in view
weighs_in_view : (list pairing lent : List ℕ) → too_few_words lent ≡ false → AcceptedList list
    → bad_pairing (cells_of list) pairing ≡ false → PairingOf (store_of list) (pairs_of pairing)
    → weighing list pairing lent ≡ (0, points (store_of list) (pairs_of pairing) ∷ [])
weighs_in_view list pairing lent enough h formed p =
    weigh_passes list pairing lent enough h formed
    (ap not (pairing_is (joined (entries_all list)) (pairs_of pairing)
    (subst (λ (es : List Entry). PairingOf es (pairs_of pairing)) (view_all list) p)))
    ∙ ap (λ (es : List Entry). (0, points es (pairs_of pairing) ∷ [])) (sym (view_all list))

pub lift_claim : (list slip pairing : List ℕ) (h : Allowed list slip) → Liftable list slip pairing
    → LiftClaim list slip pairing h.steps
lift_claim list slip pairing h p =
    let le = (accepted_list list h.accepted).0 in
    let g = all_entries list h.accepted in
    let up = lift (graph_in list) h.steps (pairs_of pairing) in
    let held = store_pairing list slip h pairing p in
    let keeps = ((demand_three list slip h).2 pairing p).1 in
    record {
      back = (
        up,
        (slip_lifts (list_graph list h.accepted) (rs list slip h) h.steps h.stand (pairs_of pairing)
            (pairing_after list slip h (pairs_of pairing) p.pairs)).1,
        lifted_is list slip h pairing p,
      );
      weighs = λ lent enough. (
          weighs_in_view list (lift_file list slip pairing) lent enough h.accepted keeps.formed keeps.pairs
          ∙ ap (λ (i : ℕ). (0, i ∷ [])) keeps.exact
          );
      longest = omega (arith, ap length (same_lifted list slip h pairing p), file_longest le g up held);
      origins = origin_claim list slip h pairing p;
    }

-- ---- reduce

reduce_writes : (list : List ℕ) → AcceptedList list → WritesBoth (reducing list) (reduce_slip list) (reduce_short list)
reduce_writes list h lent room further enough l k =
    call_passes list lent (with_rooms [] room further (reduce_slip list) (reduce_short list))
    (length (reduce_slip list) ∷ length (reduce_short list) ∷ []) enough h
    (rooms_enough room further (reduce_slip list) (reduce_short list) l k, tt)

pub reduce_claim : (list : List ℕ) → AcceptedList list → ReduceClaim list
reduce_claim list h =
    let ss = reduce_steps list in
    let a = slip_allowed list h (map name ss) ss (reduce_allowed list h) in
    record {
      writes = reduce_writes list h;
      allowed = a;
      names = slip_names list h (map name ss) ss (reduce_allowed list h);
      in_turn = reduce_in_turn (list_graph list h);
      replays = same_file list (reduce_slip list) a;
      longest = (
        slip_longest list h (map name ss) ss (reduce_allowed list h),
        short_longest list h (map name ss) ss (reduce_allowed list h),
      );
    }
