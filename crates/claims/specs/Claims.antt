-- What the calls say together, of the files that they read and write, beside demand 3. In order: what the answers 0, 8,
-- 10 and 11 tell; the hypotheses of demand 3 are met, by every well-formed list, every sequence of steps that are
-- allowed and every pairing of the short list; the files of replay and lift, by the published rules and the ties;
-- reduce; solve; pair. Laws: proofs/Answers (`zero_tells`, `refusals_tell`), proofs/Claims (`met`, `replay_claim`,
-- `lift_claim`, `reduce_claim`), proofs/Solved (`solve_claim`), proofs/Paired (`pair_claim`).
use Rattle.std.specs.Prelude.{◌≡◌, ◌↔◌, false, List, [], ◌∷◌, map, ℕ, ◌+◌, ◌≤◌, ◌<◌, length}
use Rattle.matching.specs.Lists.{All, together}
use Rattle.matching.specs.Pairs.{Pair, Points, Each}
use Rattle.matching.specs.Pairing.{First}
use Rattle.matching.specs.Listed.{Entry, Accepted, listed, points, short_list, filed}
use Rattle.matching.specs.Graph.{degree}
use Rattle.matching.specs.Groups.{group, groups, solve_each}
use Rattle.matching.specs.Steps.{Rule, Step}
use Rattle.matching.specs.Ties.{Lifts}
use Rattle.matching.specs.Origin.{Origins, CameFrom}
use Rattle.matching.specs.Published.{Rule23, AllPublished}
use Rattle.matching.specs.Slip.{AreSteps, SomeStepNot, left, carries, InTurn}
use Rattle.cellfile.specs.Files.{store_list, largest, cells_of, entries_all, steps_of, pairs_of, carried_of, list_file}
use Rattle.cellfile.specs.Files.{origin_list, origin_fields, read_entries, as_name}
use Rattle.checks.specs.Refusals.{too_few_words, rules, bad_slip, bad_pairing}
use Rattle.cellfile.specs.Answers.{Answer}
use Rattle.weighing.specs.Weigh.{weighing}
use Rattle.starting.specs.Steps.{graph_in, reduce_steps}
use Rattle.reduction.specs.Calls.{short_file, slip_file, replay_short, replaying, reducing}
use Rattle.lifting.specs.Calls.{pair_file, solve_file, solving, lift_file, lift_origins, lifting, pairing_file}
use Rattle.lifting.specs.Calls.{pairing_origins, pairing}
use Rattle.claims.specs.Demand.{AcceptedList, store_of, short_of, PairingOf, HeaviestOf, Names, Writes, Allowed}
use Rattle.claims.specs.Demand.{WritesBoth, Liftable}

-- The slip and the short list that reduce writes.
abbrev pub reduce_slip : List ℕ → List ℕ
reduce_slip list = slip_file list (reduce_steps list)

abbrev pub reduce_short : List ℕ → List ℕ
reduce_short list = short_file list (reduce_steps list)

-- The points that the short list that replay writes gives two cells.
abbrev pub points_left : (list slip : List ℕ) → Points
points_left list slip = listed (short_of (replay_short list slip))

-- 'Some connected group of the remaining cells has more than 12': that of a cell which has pairs in the short list.
abbrev pub Crowded : (list slip : List ℕ) → Type 0
Crowded list slip =
    (c : ℕ) × (c < cells_of list) × (0 < degree (cells_of list) (points_left list slip) c)
    × (12 < length (group (cells_of list) (points_left list slip) c))

-- ---- what the answers 0, 8, 10 and 11 tell

-- A call answered the length i of a file: it had the buffers, and room for the file.
pub record Wrote (file lent : List ℕ) (room i : ℕ) : Type 0 where
  pub words : too_few_words lent ≡ false
  pub fits : length file ≤ room
  pub value : i ≡ length file

-- The answer 0, by call: nothing was refused.
pub record ZeroTells : Type 0 where
  pub replay : (list slip lent : List ℕ) (room i : ℕ) → replaying list slip lent room ≡ (0, i ∷ [])
      → Allowed list slip × Wrote (replay_short list slip) lent room i
  pub lift : (list slip pairing lent : List ℕ) (room origin_room i j : ℕ)
      → lifting list slip pairing lent room origin_room ≡ (0, i ∷ j ∷ [])
      → Allowed list slip × Liftable list slip pairing × Wrote (lift_file list slip pairing) lent room i
      × Wrote (lift_origins list slip pairing) lent origin_room j
  pub weigh : (list pairing lent : List ℕ) (p : ℕ) → weighing list pairing lent ≡ (0, p ∷ [])
      → AcceptedList list × (bad_pairing (cells_of list) pairing ≡ false)
      × PairingOf (entries_all list) (pairs_of pairing) × (p ≡ points (entries_all list) (pairs_of pairing))
  pub reduce : (list lent : List ℕ) (slip_room short_room i j : ℕ)
      → reducing list lent slip_room short_room ≡ (0, i ∷ j ∷ [])
      → AcceptedList list × Wrote (reduce_slip list) lent slip_room i × Wrote (reduce_short list) lent short_room j
  pub solve : (list slip lent : List ℕ) (room i : ℕ) → solving list slip lent room ≡ (0, i ∷ [])
      → Allowed list slip × (Crowded list slip → ⊥) × Wrote (solve_file list slip) lent room i
  pub pair : (list lent : List ℕ) (room origin_room i j : ℕ) → pairing list lent room origin_room ≡ (0, i ∷ j ∷ [])
      → AcceptedList list × (Crowded list (reduce_slip list) → ⊥) × Wrote (pairing_file list) lent room i
      × Wrote (pairing_origins list) lent origin_room j

-- 8 just where 'some step of the slip is not allowed where it stands', and nothing before it is refused.
abbrev pub Eight : (list slip : List ℕ) → (List ℕ → ℕ → Answer) → Type 0
Eight list slip call =
    (lent : List ℕ) (room : ℕ) → (call lent room ≡ (8, []))
    ↔ ((too_few_words lent ≡ false) × AcceptedList list × (bad_slip rules (cells_of list) slip ≡ false)
    × SomeStepNot (cells_of list) (graph_in list) (map as_name (steps_of slip)))

-- 10 just where the pairing is not one of the short list, 11 just where 'some connected group of the remaining cells
-- has more than 12', and nothing before it is refused.
pub record RefusalsTell : Type 0 where
  pub eight : (list slip : List ℕ) → Eight list slip (replaying list slip) × Eight list slip (solving list slip)
      × ((pairing : List ℕ) (origin_room : ℕ)
      → Eight list slip (λ lent room. lifting list slip pairing lent room origin_room))
  pub ten_lift : (list slip pairing lent : List ℕ) (room origin_room : ℕ)
      → (lifting list slip pairing lent room origin_room ≡ (10, []))
      ↔ ((too_few_words lent ≡ false) × Allowed list slip × (bad_pairing (cells_of list) pairing ≡ false)
      × (PairingOf (short_of (replay_short list slip)) (pairs_of pairing) → ⊥))
  pub eleven_solve : (list slip lent : List ℕ) (room : ℕ) → (solving list slip lent room ≡ (11, []))
      ↔ ((too_few_words lent ≡ false) × Allowed list slip × Crowded list slip)
  pub eleven_pair : (list lent : List ℕ) (room origin_room : ℕ) → (pairing list lent room origin_room ≡ (11, []))
      ↔ ((too_few_words lent ≡ false) × AcceptedList list × Crowded list (reduce_slip list))

-- ---- the hypotheses are met

-- A list of n cells in the format's words: 'a < b < n, entries strictly ascending by (a, b). n is 0 to 1,024, m is 0 to
-- 4,096', points of 20 bits. Its file is accepted and read as it.
pub record WellFormed (n : ℕ) (es : List Entry) : Type 0 where
  pub cells : n ≤ 1024
  pub count : length es ≤ 4096
  pub ascends : Accepted n es
  pub small : All (λ (e : Entry). e.2 ≤ largest store_list) es

pub record ListClaim (n : ℕ) (es : List Entry) : Type 0 where
  pub accepted : AcceptedList (list_file n es)
  pub cells : cells_of (list_file n es) ≡ n
  pub entries : store_of (list_file n es) ≡ es

-- Steps written as a slip, of at most 2,052 bytes: the slip is allowed and names them, and replay takes it.
pub record SlipClaim (list : List ℕ) (ss : List Step) : Type 0 where
  pub allowed : Allowed list (slip_file list ss)
  pub names : Names list (slip_file list ss) ss
  pub taken : Writes (replaying list (slip_file list ss)) (replay_short list (slip_file list ss))
  pub longest : length (slip_file list ss) ≤ 2052

-- Pairs written as a pairing, of at most 1,540 bytes: they are read in file order, and lift takes them.
pub record PairingClaim (list slip : List ℕ) (m : List Pair) : Type 0 where
  pub liftable : Liftable list slip (pair_file (cells_of list) m)
  pub pairs : pairs_of (pair_file (cells_of list) m) ≡ filed m
  pub taken : WritesBoth (lifting list slip (pair_file (cells_of list) m))
      (lift_file list slip (pair_file (cells_of list) m)) (lift_origins list slip (pair_file (cells_of list) m))
  pub longest : length (pair_file (cells_of list) m) ≤ 1540

-- Such a file is there for every list that is well-formed, every sequence of steps that are allowed, each where it
-- stands, and every pairing of the short list. So no hypothesis is empty: no step at all, and the empty pairing, always
-- serve.
pub record Met : Type 0 where
  pub lists : (n : ℕ) (es : List Entry) → WellFormed n es → ListClaim n es
  pub slips : (list : List ℕ) → AcceptedList list → (rs : List (Rule × ℕ)) (ss : List Step)
      → AreSteps (cells_of list) (graph_in list) rs ss → SlipClaim list ss
  pub pairings : (list slip : List ℕ) → Allowed list slip → (m : List Pair)
      → PairingOf (short_of (replay_short list slip)) m → PairingClaim list slip m
  pub no_step : (list : List ℕ) → AcceptedList list → SlipClaim list []
  pub no_pair : (list slip : List ℕ) → Allowed list slip → PairingClaim list slip []

-- ---- replay and lift

-- What replay writes, at most 32,780 bytes, by the steps of the slip: 'the pairs left after the last step, with their
-- points there', and 'the sum of what the slip's steps carry'; the graph that the first step stands on and each step
-- are by the published rules.
pub record ReplayClaim (list slip : List ℕ) (ss : List Step) : Type 0 where
  pub cells : cells_of (replay_short list slip) ≡ cells_of list
  pub entries : short_of (replay_short list slip) ≡ short_list (cells_of list) (left (graph_in list) ss)
  pub carried : carried_of (replay_short list slip) ≡ together (carries (graph_in list) ss)
  pub zero_pairs : Rule23 (store_of list) (graph_in list)
  pub rules : AllPublished (cells_of list) (graph_in list) ss
  pub longest : length (replay_short list slip) ≤ 32780

-- An origin list, at most 2,564 bytes, of the pairing that the way back through the steps makes of a short pairing:
-- 'the pairing's entries', each with where the pair came from, which is 'the step whose undoing last put the pair in',
-- or the short list where none did.
pub record OriginClaim (list pairing lifted origins : List ℕ) (ss : List Step) : Type 0 where
  pub cells : cells_of origins ≡ cells_of list
  pub from : Origins
  pub entries : read_entries origin_list origins ≡ map (origin_fields from) (pairs_of lifted)
  pub came : Each (λ a b. CameFrom (graph_in list) (pairs_of pairing) a b ss (from a b)) (pairs_of lifted)
  pub longest : length origins ≤ 2564

-- What lift writes, at most 1,540 bytes: what the way back makes of the short pairing, by the best of each chain and
-- ring, which of equals takes the pair at the first difference. Weigh answers its points. Beside it the origin list.
pub record LiftClaim (list slip pairing : List ℕ) (ss : List Step) : Type 0 where
  pub back : (up : List Pair) × Lifts (graph_in list) ss (pairs_of pairing) up
      × (pairs_of (lift_file list slip pairing) ≡ filed up)
  pub weighs : (lent : List ℕ) → too_few_words lent ≡ false → weighing list (lift_file list slip pairing) lent
      ≡ (0, (points (short_of (replay_short list slip)) (pairs_of pairing) + carried_of (replay_short list slip)) ∷ [])
  pub longest : length (lift_file list slip pairing) ≤ 1540
  pub origins : OriginClaim list pairing (lift_file list slip pairing) (lift_origins list slip pairing) ss

-- ---- reduce

-- The slip that reduce writes is allowed and names its steps, each the first that is allowed where it stands, and none
-- after them; replay of that slip writes the short list that reduce writes.
pub record ReduceClaim (list : List ℕ) : Type 0 where
  pub writes : WritesBoth (reducing list) (reduce_slip list) (reduce_short list)
  pub allowed : Allowed list (reduce_slip list)
  pub names : Names list (reduce_slip list) (reduce_steps list)
  pub in_turn : InTurn (cells_of list) (graph_in list) (reduce_steps list)
  pub replays : replay_short list (reduce_slip list) ≡ reduce_short list
  pub longest : (length (reduce_slip list) ≤ 2052) × (length (reduce_short list) ≤ 32780)

-- ---- solve

-- What solve writes where no connected group of the cells left has more than 12, at most 1,540 bytes: a heaviest
-- pairing of the short list, and of those the first by partners, which is that of the groups solved one by one, joined;
-- lift takes it.
pub record SolveClaim (list slip : List ℕ) : Type 0 where
  pub writes : (Crowded list slip → ⊥) → Writes (solving list slip) (solve_file list slip)
  pub liftable : Liftable list slip (solve_file list slip)
  pub heaviest : HeaviestOf (short_of (replay_short list slip)) (pairs_of (solve_file list slip))
  pub foremost : (m : List Pair) → HeaviestOf (short_of (replay_short list slip)) m
      → First (pairs_of (solve_file list slip)) m
  pub joined : pairs_of (solve_file list slip)
      ≡ filed (solve_each (points_left list slip) (groups (cells_of list) (points_left list slip)))
  pub longest : length (solve_file list slip) ≤ 1540

-- ---- pair

-- What pair writes where no connected group of the cells left after reduce has more than 12: what lift makes, with the
-- slip that reduce writes, of the pairing that solve writes with that slip, so with the ties of both. It is a heaviest
-- pairing of the store, and weigh answers the points of solve's pairing in the short list plus the carried points.
-- Beside it the origin list that lift makes, by the steps of reduce.
pub record PairClaim (list : List ℕ) : Type 0 where
  pub writes : (Crowded list (reduce_slip list) → ⊥)
      → WritesBoth (pairing list) (pairing_file list) (pairing_origins list)
  pub composed : (pairing_file list ≡ lift_file list (reduce_slip list) (solve_file list (reduce_slip list)))
      × (pairing_origins list ≡ lift_origins list (reduce_slip list) (solve_file list (reduce_slip list)))
  pub reduced : ReduceClaim list
  pub solved : SolveClaim list (reduce_slip list)
  pub lifted : LiftClaim list (reduce_slip list) (solve_file list (reduce_slip list)) (reduce_steps list)
  pub heaviest : HeaviestOf (store_of list) (pairs_of (pairing_file list))
  pub weighs : (lent : List ℕ) → too_few_words lent ≡ false → weighing list (pairing_file list) lent
      ≡ (
        0,
        (points (short_of (reduce_short list)) (pairs_of (solve_file list (reduce_slip list)))
            + carried_of (reduce_short list)) ∷ [],
      )
  pub longest : length (pairing_file list) ≤ 1540
  pub origins : OriginClaim list (solve_file list (reduce_slip list)) (pairing_file list) (pairing_origins list)
      (reduce_steps list)
