-- What the answers tell. In order: the answer 0, by call (`zero_tells`); 8, 10 and 11, each just where its condition is
-- the first that holds (`refusals_tell`). Assumes nothing.
use mathlib.Core.Path.{◌≡◌, refl, sym, ap, ◌∙◌}
use mathlib.Core.Logic.{◌↔◌, ◌≢◌}
use mathlib.Core.Bool.{Bool, true, false, not, false≢true, true≢false}
use mathlib.Core.List.{List, [], ◌∷◌, ◌++◌, map}
use mathlib.Core.Option.{Option, some, none}
use Prim.Native.Nat.{ℕ, ◌≤◌}
use native.Mathlib.Omega.{arith}
use lib.ListN.{length, get_or}
use borrow.Author.Tests.{ltb-false}
use Rattle.matching.specs.Lists.{All}
use Rattle.matching.specs.Groups.{largest}
use Rattle.matching.specs.Steps.{Step}
use Rattle.matching.specs.Slip.{SomeStepNot}
use Rattle.matching.proofs.Tests.{holds, passes, not_test}
use Rattle.matching.proofs.Reduce.{replay_not}
use Rattle.cellfile.specs.Files.{cells_of, steps_of, pairs_of, as_name}
use Rattle.checks.specs.Refusals.{Row, first, too_few_words, rules, bad_slip, disallowed, no_pairing, crowded}
use Rattle.checks.specs.Refusals.{short_output}
use Rattle.cellfile.specs.Answers.{answer}
use Rattle.checks.proofs.Rows.{or_none}
use Rattle.checks.specs.Calls.{call_rows, form_row, hold_row, crowded_row, room_row}
use Rattle.checks.proofs.Layers.{call_sound, call_refused}
use Rattle.weighing.proofs.Weights.{weigh_sound}
use Rattle.starting.specs.Steps.{graph_in, steps_on, stand, slip_rows, reduce_steps}
use Rattle.reduction.specs.Calls.{replay_short}
use Rattle.starting.proofs.OnList.{list_graph}
use Rattle.lifting.specs.Calls.{graph_after, by_steps, largest_after, lift_rows, lift_file, lift_origins, solve_rows}
use Rattle.lifting.specs.Calls.{solve_file, pair_rows, pairing_file, pairing_origins}
use Rattle.claims.specs.Demand.{AcceptedList, Allowed}
use Rattle.claims.specs.Claims.{reduce_slip, reduce_short, Wrote, ZeroTells, Eight, RefusalsTell}
use Rattle.claims.proofs.Slips.{named}
use Rattle.claims.proofs.Demand.{with_room, with_rooms, stands, ten_just}
use Rattle.claims.proofs.Solved.{solve_crowded}
use Rattle.claims.proofs.Paired.{pair_crowded}

-- ---- the answer 0

room_there : (room : ℕ) (file : List ℕ) → short_output ((room, file) ∷ []) ≡ false → length file ≤ room
unfolding short_output
room_there room file e = ltb-false room (length file) (or_none _ _ e).0

rooms_there : (r s : ℕ) (f g : List ℕ) → short_output ((r, f) ∷ (s, g) ∷ []) ≡ false
    → (length f ≤ r) × (length g ≤ s)
unfolding short_output
rooms_there r s f g e =
    let a = or_none _ _ e in
    (ltb-false r (length f) a.0, ltb-false s (length g) (or_none _ _ a.1).0)

-- from the rows of a call with one output
pub wrote : {file lent : List ℕ} {room i : ℕ} → too_few_words lent ≡ false → short_output ((room, file) ∷ []) ≡ false
    → i ∷ [] ≡ length file ∷ [] → Wrote file lent room i
wrote {file} {lent} {room} few r v =
    record { words = few; fits = room_there room file r; value = ap (λ (vs : List ℕ). get_or vs 0 0) v }

-- and with two
wrote_both : {one two lent : List ℕ} {room further i j : ℕ} → too_few_words lent ≡ false
    → short_output ((room, one) ∷ (further, two) ∷ []) ≡ false → i ∷ j ∷ [] ≡ length one ∷ length two ∷ []
    → Wrote one lent room i × Wrote two lent further j
wrote_both {one} {two} {lent} {room} {further} few r v =
    let fit = rooms_there room further one two r in (
      record { words = few; fits = fit.0; value = ap (λ (vs : List ℕ). get_or vs 0 0) v },
      record { words = few; fits = fit.1; value = ap (λ (vs : List ℕ). get_or vs 1 0) v },
    )

steps_there : (list slip : List ℕ) → disallowed (stand list) slip ≡ false
    → (ss : List Step) × (steps_on list (steps_of slip) ≡ some ss)
steps_there list slip h = go (steps_on list (steps_of slip)) refl
  where
    go : (o : Option (List Step)) → steps_on list (steps_of slip) ≡ o
        → (ss : List Step) × (steps_on list (steps_of slip) ≡ some ss)
    go none e =
        absurd (true≢false
        (sym (ap (λ (o : Option (List Step)). not (elim o [ none ↦ false | some ss ↦ true ])) e) ∙ h))
    go (some ss) e = (ss, e)

allowed_of : (list slip : List ℕ) → AcceptedList list → bad_slip rules (cells_of list) slip ≡ false
    → disallowed (stand list) slip ≡ false → Allowed list slip
allowed_of list slip h f s =
    let t = steps_there list slip s in
    record { accepted = h; formed = f; steps = t.0; stand = (named list h slip t.0).0 t.1 }

pub zero_tells : ZeroTells
zero_tells = record {
  replay = λ list slip lent room i e. (
      let a =
      call_sound list lent (with_room (slip_rows list slip) room (replay_short list slip)) (i ∷ [])
      (length (replay_short list slip) ∷ []) (omega arith) e in
      (allowed_of list slip a.1 a.2.0 a.2.1.0, wrote a.0 a.2.1.1.0 a.3)
      );
  lift = λ list slip pairing lent room origin_room i j e. (
      let a =
      call_sound list lent
      (with_rooms (lift_rows list slip pairing) room origin_room (lift_file list slip pairing)
      (lift_origins list slip pairing)) (i ∷ j ∷ [])
      (length (lift_file list slip pairing) ∷ length (lift_origins list slip pairing) ∷ []) (omega arith) e in
      let h = allowed_of list slip a.1 a.2.0 a.2.1.0 in
      let both = wrote_both a.0 a.2.1.1.1.1.0 a.3 in (
        h,
        record { formed = a.2.1.1.0; pairs = (ten_just list slip h (pairs_of pairing)).0 a.2.1.1.1.0 },
        both.0,
        both.1,
      )
      );
  weigh = weigh_sound;
  reduce = λ list lent slip_room short_room i j e. (
      let a =
      call_sound list lent (with_rooms [] slip_room short_room (reduce_slip list) (reduce_short list)) (i ∷ j ∷ [])
      (length (reduce_slip list) ∷ length (reduce_short list) ∷ []) (omega arith) e in
      let both = wrote_both a.0 a.2.0 a.3 in
      (a.1, both.0, both.1)
      );
  solve = λ list slip lent room i e. (
      let a =
      call_sound list lent (with_room (solve_rows list slip) room (solve_file list slip)) (i ∷ [])
      (length (solve_file list slip) ∷ []) (omega arith) e in
      let h = allowed_of list slip a.1 a.2.0 a.2.1.0 in (
        h,
        holds (not_test (solve_crowded list slip h)) (ap not a.2.1.1.0),
        wrote a.0 a.2.1.1.1.0 a.3,
      )
      );
  pair = λ list lent room origin_room i j e. (
      let a =
      call_sound list lent (with_rooms (pair_rows list) room origin_room (pairing_file list) (pairing_origins list))
      (i ∷ j ∷ []) (length (pairing_file list) ∷ length (pairing_origins list) ∷ []) (omega arith) e in
      let both = wrote_both a.0 a.2.1.0 a.3 in (
        a.1,
        holds (not_test (pair_crowded list a.1)) (ap not a.2.0),
        both.0,
        both.1,
      )
      );
}

-- ---- the answers 8, 10 and 11

-- some step is not allowed where it stands just where the slip does not stand
some_not : (list slip : List ℕ) → AcceptedList list
    → (disallowed (stand list) slip ≡ true) ↔ SomeStepNot (cells_of list) (graph_in list) (map as_name (steps_of slip))
some_not list slip h = (
  (λ e. just.0 (none_there (steps_on list (steps_of slip)) e)),
  (λ p. ap (λ (o : Option (List Step)). not (elim o [ none ↦ false | some ss ↦ true ])) (just.1 p)),
)
  where
    just : (steps_on list (steps_of slip) ≡ none)
        ↔ SomeStepNot (cells_of list) (graph_in list) (map as_name (steps_of slip))
    just = replay_not (list_graph list h) (map as_name (steps_of slip))

    none_there : (o : Option (List Step)) → not (elim o [ none ↦ false | some ss ↦ true ]) ≡ true → o ≡ none
    none_there none e = refl
    none_there (some ss) e = absurd (false≢true e)

-- of a call whose rows after those of the list are 7, 8 and others
eight : (list slip : List ℕ) (more : ℕ → List Row) (values : List ℕ)
    → ((room : ℕ) → All (λ (r : Row). r.0 ≢ 8) (more room))
    → Eight list slip (λ lent room. answer (first
    (call_rows (too_few_words lent) list ++ (slip_rows list slip ++ more room)))
    values)
eight list slip more values p lent room = (
  (λ e. let s = just.0 e in (s.0, s.1, s.2.0, (some_not list slip s.1).0 s.3)),
  (λ s. just.1 (s.0, s.1, (s.2, tt), (some_not list slip s.1).1 s.3)),
)
  where
    just : (answer (first (call_rows (too_few_words lent) list ++ (slip_rows list slip ++ more room))) values ≡ (8, []))
        ↔ ((too_few_words lent ≡ false) × AcceptedList list × ((bad_slip rules (cells_of list) slip ≡ false) × Unit {0})
        × (disallowed (stand list) slip ≡ true))
    just =
        call_refused list lent ((7, bad_slip rules (cells_of list) slip) ∷ []) (more room) 8 (disallowed (stand list)
        slip)
        values (omega arith) ((λ e. omega arith), tt) (p room)

-- what holds just where a test fails does not hold just where it passes
otherwise : {P : Type 0} (t : Bool) → (t ≡ false) ↔ P → (t ≡ true) ↔ (P → ⊥)
otherwise true e = ((λ q p. true≢false (e.1 p)), λ n. refl)
otherwise false e = ((λ q. absurd (false≢true q)), λ n. absurd (n (e.0 refl)))

pub refusals_tell : RefusalsTell
refusals_tell = record {
  eight = λ list slip. (
    eight list slip (λ room. room_row ((room, replay_short list slip) ∷ []) ∷ []) (length (replay_short list slip) ∷ [])
        (λ room. ((λ e. omega arith), tt)),
    eight list slip (λ room. crowded_row (largest_after list slip) ∷ room_row ((room, solve_file list slip) ∷ []) ∷ [])
        (length (solve_file list slip) ∷ []) (λ room. ((λ e. omega arith), ((λ e. omega arith), tt))),
    (λ pairing origin_room. eight list slip (λ room. form_row (cells_of list) pairing
        ∷ hold_row (by_steps list slip (graph_in list) (graph_after list)) pairing
        ∷ room_row ((room, lift_file list slip pairing) ∷ (origin_room, lift_origins list slip pairing) ∷ []) ∷ [])
        (length (lift_file list slip pairing) ∷ length (lift_origins list slip pairing) ∷ [])
        (λ room. ((λ e. omega arith), ((λ e. omega arith), ((λ e. omega arith), tt))))),
  );
  ten_lift = λ list slip pairing lent room origin_room. (
      let just =
      call_refused list lent (slip_rows list slip ++ form_row (cells_of list) pairing ∷ [])
      (room_row ((room, lift_file list slip pairing) ∷ (origin_room, lift_origins list slip pairing) ∷ []) ∷ []) 10
      (no_pairing (by_steps list slip (graph_in list) (graph_after list)) (pairs_of pairing))
      (length (lift_file list slip pairing) ∷ length (lift_origins list slip pairing) ∷ []) (omega arith)
      ((λ e. omega arith), ((λ e. omega arith), ((λ e. omega arith), tt))) ((λ e. omega arith), tt) in (
        (λ e. (
            let s = just.0 e in
            let h = allowed_of list slip s.1 s.2.0 s.2.1.0 in
            (s.0, h, s.2.1.1.0, (otherwise _ (ten_just list slip h (pairs_of pairing))).0 s.3)
            )),
        (λ s. just.1 (
          s.0,
          s.1.accepted,
          (s.1.formed, (ap not (stands list slip s.1), (s.2, tt))),
          (otherwise _ (ten_just list slip s.1 (pairs_of pairing))).1 s.3,
        )),
      )
      );
  eleven_solve = λ list slip lent room. (
      let just =
      call_refused list lent (slip_rows list slip) (room_row ((room, solve_file list slip) ∷ []) ∷ []) 11
      (crowded (largest_after list slip)) (length (solve_file list slip) ∷ []) (omega arith)
      ((λ e. omega arith), ((λ e. omega arith), tt)) ((λ e. omega arith), tt) in (
        (λ e. (
            let s = just.0 e in
            let h = allowed_of list slip s.1 s.2.0 s.2.1.0 in
            (s.0, h, holds (solve_crowded list slip h) s.3)
            )),
        (λ s. just.1 (
          s.0,
          s.1.accepted,
          (s.1.formed, (ap not (stands list slip s.1), tt)),
          passes (solve_crowded list slip s.1) (λ f. f s.2),
        )),
      )
      );
  eleven_pair = λ list lent room origin_room. (
      let just =
      call_refused list lent [] (room_row ((room, pairing_file list) ∷ (origin_room, pairing_origins list) ∷ []) ∷ [])
      11
      (crowded (largest (cells_of list) (graph_after list (reduce_steps list))))
      (length (pairing_file list) ∷ length (pairing_origins list) ∷ []) (omega arith) tt ((λ e. omega arith), tt) in (
        (λ e. let s = just.0 e in (s.0, s.1, holds (pair_crowded list s.1) s.3)),
        (λ s. just.1 (s.0, s.1, tt, passes (pair_crowded list s.1) (λ f. f s.2))),
      )
      );
}
