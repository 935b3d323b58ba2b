-- Demand 3, whole: 'Nobody who lifts a pairing of the short list can gain or lose a point on the way.' The statement is
-- `DemandThree`, at the end; law: `demand_three`, proofs/Demand. It speaks of the calls replay and lift and of the
-- files that they read and write: the store is the entries of the list, the short list and the carried points are read
-- from the file that replay writes, the pairs of a pairing from its file. What the calls answer and write is in the
-- crates `reduction` and `lifting`, specs/Calls; that a call which answers 0 has written its files is its promise
-- `output` or `outputs`. That an answer of 0 gives the hypotheses, and that they are met: see Claims.
use Rattle.std.specs.Prelude.{◌≡◌, false, List, [], ◌∷◌, map, ℕ, ◌+◌, ◌≤◌, length}
use Rattle.matching.specs.Pairs.{Pair}
use Rattle.matching.specs.Pairing.{Pairing, Heaviest}
use Rattle.matching.specs.Listed.{Entry, joined, listed, points}
use Rattle.matching.specs.Steps.{Step}
use Rattle.matching.specs.Slip.{AreSteps}
use Rattle.cellfile.specs.Files.{short_list as short_layout, cells_of, entries_of, steps_of, pairs_of, carried_of}
use Rattle.cellfile.specs.Files.{in_view}
use Rattle.cellfile.specs.Files.{as_name}
use Rattle.checks.specs.Refusals.{first, too_few_words, lists, list_rows, rules, bad_slip, bad_pairing}
use Rattle.cellfile.specs.Answers.{Answer}
use Rattle.starting.specs.Steps.{graph_in}
use Rattle.reduction.specs.Calls.{replay_short, replaying}
use Rattle.lifting.specs.Calls.{lift_file, lift_origins, lifting}

-- ---- the words

-- 'An accepted list passes refusals 2 to 6; it is the store.'
abbrev pub AcceptedList : List ℕ → Type 0
AcceptedList list = first (list_rows lists list) ≡ 0

abbrev pub store_of : List ℕ → List Entry
store_of list = in_view list

-- The entries of a short list's file.
abbrev pub short_of : List ℕ → List Entry
short_of file = entries_of short_layout file

-- A pairing of the entries of a list, and a heaviest one.
abbrev pub PairingOf : List Entry → List Pair → Type 0
PairingOf es m = Pairing (joined es) m

abbrev pub HeaviestOf : List Entry → List Pair → Type 0
HeaviestOf es m = Heaviest (joined es) (listed es) m

-- The steps that the slip names, 'each allowed where it stands'.
abbrev pub Names : (list slip : List ℕ) → List Step → Type 0
Names list slip ss = AreSteps (cells_of list) (graph_in list) (map as_name (steps_of slip)) ss

-- 'Given the buffers and room that refusals 1 and 12 ask' a call answers 0 and the length of its file: by its promise
-- it has then written the file. The call is its answer for the lengths of the work buffers and of the output.
abbrev pub Writes : (List ℕ → ℕ → Answer) → List ℕ → Type 0
Writes call file =
    (lent : List ℕ) (room : ℕ) → too_few_words lent ≡ false → length file ≤ room
    → call lent room ≡ (0, length file ∷ [])

-- The same of a call with two outputs.
abbrev pub WritesBoth : (List ℕ → ℕ → ℕ → Answer) → (one two : List ℕ) → Type 0
WritesBoth call one two =
    (lent : List ℕ) (room further : ℕ) → too_few_words lent ≡ false → length one ≤ room → length two ≤ further
    → call lent room further ≡ (0, length one ∷ length two ∷ [])

-- ---- the hypotheses

-- 'Take any accepted list, any slip whose steps, in whatever order and number, are each allowed where they stand':
-- refusals 2 to 8 say nothing.
pub record Allowed (list slip : List ℕ) : Type 0 where
  pub accepted : AcceptedList list
  pub formed : bad_slip rules (cells_of list) slip ≡ false
  pub steps : List Step
  pub stand : Names list slip steps

-- '.. and any pairing of the short list that replay makes from that list and slip': refusals 9 and 10 say nothing.
pub record Liftable (list slip pairing : List ℕ) : Type 0 where
  pub formed : bad_pairing (cells_of list) pairing ≡ false
  pub pairs : PairingOf (short_of (replay_short list slip)) (pairs_of pairing)

-- ---- what is claimed, of files

-- 'A heaviest pairing of the store has exactly the points of a heaviest pairing of that short list plus the carried
-- points'; there is one of each. 'Every such slip has at most as many steps as the list has cells.'
pub record ShortKeeps (list slip short : List ℕ) : Type 0 where
  pub equal : (a b : List Pair) → HeaviestOf (store_of list) a → HeaviestOf (short_of short) b
      → points (store_of list) a ≡ points (short_of short) b + carried_of short
  pub of_store : (a : List Pair) × HeaviestOf (store_of list) a
  pub of_short : (b : List Pair) × HeaviestOf (short_of short) b
  pub few_steps : length (steps_of slip) ≤ cells_of list

-- '.. a pairing of the store', which refusal 9 finds no fault with, 'whose points are exactly the short pairing's plus
-- the carried points'; 'if the short pairing is some points below the heaviest short one, the lifted is just as many
-- below the heaviest of the store'. So a heaviest one is lifted to a heaviest one.
pub record LiftKeeps (list short pairing lifted : List ℕ) : Type 0 where
  pub formed : bad_pairing (cells_of list) lifted ≡ false
  pub pairs : PairingOf (store_of list) (pairs_of lifted)
  pub exact : points (store_of list) (pairs_of lifted) ≡ points (short_of short) (pairs_of pairing) + carried_of short
  pub level : (a b : List Pair) (d : ℕ) → HeaviestOf (store_of list) a → HeaviestOf (short_of short) b
      → points (short_of short) b ≡ points (short_of short) (pairs_of pairing) + d
      → points (store_of list) a ≡ points (store_of list) (pairs_of lifted) + d
  pub heaviest : HeaviestOf (short_of short) (pairs_of pairing) → HeaviestOf (store_of list) (pairs_of lifted)

-- ---- demand 3

abbrev pub DemandThree : Type 0
DemandThree =
    (list slip : List ℕ) → Allowed list slip
    → Writes (replaying list slip) (replay_short list slip)
    × ShortKeeps list slip (replay_short list slip)
    × ((pairing : List ℕ) → Liftable list slip pairing
    → WritesBoth (lifting list slip pairing) (lift_file list slip pairing) (lift_origins list slip pairing)
    × LiftKeeps list (replay_short list slip) pairing (lift_file list slip pairing))
