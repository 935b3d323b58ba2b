-- Demand 3: `demand_three`. In order: refusal 12; where nothing is refused replay and lift answer (`replay_writes`,
-- `lift_writes`); what the short list keeps (`short_keeps`); what is lifted keeps (`lift_keeps`). Assumes nothing.
use mathlib.Core.Path.{◌≡◌, sym, ap, ap₂, subst, ◌∙◌}
use mathlib.Core.Logic.{◌↔◌}
use mathlib.Core.Bool.{true, false, not}
use mathlib.Core.List.{List, [], ◌∷◌, ◌++◌}
use Prim.Native.Nat.{ℕ, ◌+◌, ◌≤◌}
use native.Mathlib.Omega.{arith}
use lib.ListN.{length, length-map}
use borrow.Author.Tests.{le-ltb, not-false}
use Rattle.matching.specs.Pairs.{Pair, Points, sum}
use Rattle.matching.specs.Pairing.{Pairing, is_pairing}
use Rattle.matching.specs.Listed.{points, filed}
use Rattle.matching.specs.Demand.{NoGainNoLoss}
use Rattle.matching.specs.Slip.{left, lift}
use Rattle.matching.proofs.Pairing.{is_pairing_is, pairing_is}
use Rattle.matching.proofs.Reduce.{replay_fits}
use Rattle.matching.proofs.Demand.{no_gain_no_loss}
use Rattle.cellfile.specs.Files.{cells_of, steps_of, pairs_of, as_name}
use Rattle.checks.specs.Refusals.{Row, bad_pairing, no_pairing, short_output}
use Rattle.checks.specs.Calls.{room_row}
use Rattle.checks.proofs.Layers.{call_passes}
use Rattle.starting.specs.Steps.{graph_in, stand, slip_rows}
use Rattle.reduction.specs.Calls.{replay_short, replaying}
use Rattle.checks.proofs.Accepted.{accepted_list}
use Rattle.starting.proofs.OnList.{list_graph}
use Rattle.lifting.specs.Calls.{graph_after, lifted_file, by_steps, lift_rows, lift_file, lift_origins, lifting}
use Rattle.matching.specs.Solve.{solution}
use Rattle.matching.proofs.Solution.{solution_heaviest}
use Rattle.lifting.proofs.Filing.{file_read, file_formed, all_entries, lifted_pairing, heaviest_lifted}
use Rattle.claims.specs.Demand.{store_of, short_of, PairingOf, HeaviestOf, Writes, Allowed, Liftable, ShortKeeps}
use Rattle.claims.specs.Demand.{WritesBoth, LiftKeeps, DemandThree}
use Rattle.claims.proofs.Slips.{rs, after, taken, by_steps_is, carried_is, graph_after_is, short_graph, pairing_after}
use Rattle.claims.proofs.Slips.{after_pairing, heaviest_after, after_heaviest}

-- ---- refusal 12, and the rows of the calls after those of the list

pub room_enough : (room : ℕ) (file : List ℕ) → length file ≤ room → short_output ((room, file) ∷ []) ≡ false
unfolding short_output
room_enough room file l = rw (le-ltb room (length file) l)

pub rooms_enough : (room further : ℕ) (one two : List ℕ) → length one ≤ room → length two ≤ further
    → short_output ((room, one) ∷ (further, two) ∷ []) ≡ false
unfolding short_output
rooms_enough room further one two l k = rw (le-ltb room (length one) l, le-ltb further (length two) k)

-- the rows of a call with one output, and with two
abbrev pub with_room : List Row → ℕ → List ℕ → List Row
with_room own room file = own ++ room_row ((room, file) ∷ []) ∷ []

abbrev pub with_rooms : List Row → (room further : ℕ) (one two : List ℕ) → List Row
with_rooms own room further one two = own ++ room_row ((room, one) ∷ (further, two) ∷ []) ∷ []

-- ---- a slip that is allowed

module _ (list slip : List ℕ) (h : Allowed list slip) where
  pub stands : stand list (steps_of slip) ≡ true
  stands = by_steps_is list slip h false (λ ts. true)

  replay_writes : Writes (replaying list slip) (replay_short list slip)
  replay_writes lent room enough l =
      call_passes list lent (with_room (slip_rows list slip) room (replay_short list slip))
      (length (replay_short list slip) ∷ []) enough h.accepted
      (h.formed, (ap not stands, (room_enough room (replay_short list slip) l, tt)))

  pub whole : NoGainNoLoss (cells_of list) (store_of list) h.steps
  whole =
      no_gain_no_loss (cells_of list) (store_of list) (accepted_list list h.accepted).1 (rs list slip h) h.steps
      (taken list slip h)

  -- the graph left and the short list give the same points
  same_points : (m : List Pair) → sum (left (graph_in list) h.steps) m ≡ points (short_of (replay_short list slip)) m
  same_points m = ap (λ (w : Points). sum w m) (sym (short_graph list slip h))

  -- a heaviest pairing of the graph left, lifted, is one of the store
  pub store_heaviest : (m : List Pair) → HeaviestOf (short_of (replay_short list slip)) m
      → HeaviestOf (store_of list) (filed (lift (graph_in list) h.steps m))
  store_heaviest m q =
      heaviest_lifted list h.accepted (rs list slip h) h.steps (taken list slip h) m
      (heaviest_after list slip h m q)

  some_heaviest : HeaviestOf (short_of (replay_short list slip)) (solution (cells_of list) (after list slip h))
  some_heaviest =
      after_heaviest list slip h (solution (cells_of list) (after list slip h))
      (solution_heaviest (cells_of list) (after list slip h) (graph_after_is list slip h))

  short_keeps : ShortKeeps list slip (replay_short list slip)
  short_keeps = record {
    equal = λ a b p q. (
        whole.heaviest a b p (heaviest_after list slip h b q)
        ∙ ap₂ ◌+◌ (same_points b) (sym (carried_is list slip h))
        );
    of_store = (_, store_heaviest (solution (cells_of list) (after list slip h)) some_heaviest);
    of_short = (_, some_heaviest);
    few_steps = omega (
      arith,
      whole.steps,
      (replay_fits (list_graph list h.accepted) (rs list slip h) h.steps (taken list slip h)).1,
      length-map (steps_of slip) as_name,
    );
  }

  -- ---- a pairing of the short list

  -- refusal 10 is for the graph left, which has the pairings of the short list
  pub ten_just : (m : List Pair) → (no_pairing (by_steps list slip (graph_in list) (graph_after list)) m ≡ false)
      ↔ PairingOf (short_of (replay_short list slip)) m
  ten_just m = (
    (λ e. after_pairing list slip h m
        (is_pairing_is (after list slip h) m (not-false (is_pairing (after list slip h) m) (sym same ∙ e)))),
    (λ p. same ∙ ap not (pairing_is (after list slip h) m (pairing_after list slip h m p))),
  )
    where
      same : no_pairing (by_steps list slip (graph_in list) (graph_after list)) m ≡ no_pairing (after list slip h) m
      same = ap (λ (w : Points). no_pairing w m) (by_steps_is list slip h (graph_in list) (graph_after list))

  module _ (pairing : List ℕ) (p : Liftable list slip pairing) where
    abbrev m : List Pair
    m = pairs_of pairing

    fits : Pairing (left (graph_in list) h.steps) (pairs_of pairing)
    fits = pairing_after list slip h m p.pairs

    lift_writes : WritesBoth (lifting list slip pairing) (lift_file list slip pairing) (lift_origins list slip pairing)
    lift_writes lent room further enough l k =
        call_passes list lent
        (with_rooms (lift_rows list slip pairing) room further (lift_file list slip pairing)
        (lift_origins list slip pairing))
        (length (lift_file list slip pairing) ∷ length (lift_origins list slip pairing) ∷ []) enough h.accepted (
          h.formed,
          (
            ap not stands,
            (
              p.formed,
              (
                (ten_just m).1 p.pairs,
                (rooms_enough room further (lift_file list slip pairing) (lift_origins list slip pairing) l k, tt),
              ),
            ),
          ),
        )

    pub same_lifted : lift_file list slip pairing ≡ lifted_file list h.steps (pairs_of pairing)
    same_lifted = by_steps_is list slip h [] (λ ts. lifted_file list ts m)

    pub store_pairing : PairingOf (store_of list) (lift (graph_in list) h.steps (pairs_of pairing))
    store_pairing = lifted_pairing list h.accepted (rs list slip h) h.steps (taken list slip h) m fits

    pub lifted_is : pairs_of (lift_file list slip pairing) ≡ filed (lift (graph_in list) h.steps (pairs_of pairing))
    lifted_is =
        ap pairs_of same_lifted
        ∙ file_read (accepted_list list h.accepted).0 (all_entries list h.accepted)
        (lift (graph_in list) h.steps m) store_pairing

    pub lift_keeps : LiftKeeps list (replay_short list slip) pairing (lift_file list slip pairing)
    lift_keeps = record {
      formed = ap (bad_pairing (cells_of list)) same_lifted
          ∙ file_formed (accepted_list list h.accepted).0 (all_entries list h.accepted)
          (lift (graph_in list) h.steps m) store_pairing;
      pairs = subst (PairingOf (store_of list)) (sym lifted_is) (whole.exact m fits).0;
      exact =
          ap (points (store_of list)) lifted_is
          ∙ (whole.exact m fits).1
          ∙ ap₂ ◌+◌ (same_points m) (sym (carried_is list slip h));
      level = λ a b d x y k. (
          let k' : sum (after list slip h) b ≡ sum (after list slip h) m + d =
          same_points b ∙ k ∙ ap (λ i. i + d) (sym (same_points m)) in
          whole.level a b m d x (heaviest_after list slip h b y) fits k'
          ∙ ap (λ (x : List Pair). points (store_of list) x + d) (sym lifted_is)
          );
      heaviest = λ q. subst (HeaviestOf (store_of list)) (sym lifted_is) (store_heaviest m q);
    }

-- Nobody who lifts a pairing of the short list can gain or lose a point.
pub demand_three : DemandThree
demand_three list slip h = (
  replay_writes list slip h,
  short_keeps list slip h,
  (λ pairing p. (lift_writes list slip h pairing p, lift_keeps list slip h pairing p)),
)
