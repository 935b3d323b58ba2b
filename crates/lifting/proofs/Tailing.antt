-- Pair after its steps. In order: what is left may be solved (`tail_left`), and its solution brought back
-- (`tail_returns`); the answers (`tail_crowded`, `tail_passed`); reduce leaves what this asks
-- (`reduce_tail`), and so it is what pair is to answer (`pair_passed`). Assumes nothing.
use mathlib.Core.Path.{◌≡◌, refl, subst}
use mathlib.Core.Bool.{Bool}
use mathlib.Core.List.{List, [], ◌∷◌, ◌++◌}
use mathlib.Core.Option.{some}
use Prim.Native.Nat.{ℕ, ◌<◌}
use native.Mathlib.Omega.{arith}
use lib.ListN.{length}
use borrow.Author.Tests.{lt-ltb, le-ltb}
use Rattle.matching.specs.Pairs.{Pair, Points}
use Rattle.matching.specs.Graph.{Graph}
use Rattle.matching.specs.Steps.{Step}
use Rattle.cellfile.specs.Files.{cells_of}
use Rattle.checks.specs.Refusals.{first}
use Rattle.cellfile.specs.Answers.{Answer}
use Rattle.slots.specs.Slots.{graph_of}
use Rattle.starting.specs.Steps.{graph_in, reduce_steps}
use Rattle.starting.specs.Starting.{StartDone}
use Rattle.starting.specs.declared.Started.{Started}
use Rattle.checks.specs.Calls.{call_rows, crowded_row}
use Rattle.checks.specs.declared.Refusal.TheVariants.{Crowded}
use Rattle.checks.specs.Answering.{Does}
use Rattle.checks.proofs.Answering.{refused_by, passed}
use Rattle.reduction.proofs.Reducing.{reduce_allowed, reduce_after}
use Rattle.matching.specs.Solve.{solution}
use Rattle.matching.specs.Groups.{largest}
use Rattle.lifting.specs.Calls.{graph_after, pair_rows, pairing_file, pairing_origins}
use Rattle.solving.specs.Left.{LeftThere, SolvedIn}
use Rattle.lifting.specs.Ending.{Change, back_to, ReturnThere, Returns}
use Rattle.lifting.specs.Tail.{after, TailThere, Tails}
use Rattle.lifting.proofs.After.{after_graph, after_small, return_there, tail_there}
use Rattle.matching.proofs.Solution.{solution_heaviest}

-- ---- the tail

module _ {n e t count : ℕ} {w1 w2 : List ℕ} (p : TailThere n e t count w1 w2) where
  -- What is left, and its solution.
  abbrev g : Points
  g = after p.on

  abbrev best : List Pair
  best = solution n g

  left_graph : Graph n g
  left_graph = after_graph p.on

  pub tail_left : LeftThere n e w1 w2
  tail_left = record {
    holds = p.holds;
    cells = p.on.cells;
    graph = rw p.left_is left_graph;
    small = λ a b. rw p.left_is (after_small p.on a b);
  }

  -- more than 12 cells
  pub tail_crowded : (out from : List ℕ) → 12 < largest n (graph_of e w1)
      → Does (crowded_row (largest n g) ∷ []) (back_to n p.on.w p.on.steps best (out, out) (from, from))
      (11, [])
  tail_crowded out from l =
      let k : 12 < largest n g = subst (λ (v : Points). 12 < largest n v) p.left_is l in
      refused_by (crowded_row (largest n g) ∷ []) [] Crowded (rw (lt-ltb 12 (largest n g) k)) (refl, (refl, tt))

  -- solved
  module _ {v : ℕ} {w2a : List ℕ} (s : SolvedIn n (graph_of e w1) w2 w2a v) where
    solved : SolvedIn n g w2 w2a v
    solved = subst (λ (u : Points). SolvedIn n u w2 w2a v) p.left_is s

    module _ {w1a : List ℕ} (same1 : length w1a ≡ length w1) (same2 : length w2a ≡ length w2) where
      abbrev back : ReturnThere n t count w1a w2a
      back =
          return_there p.on w1a w2a best (omega (arith, p.holds.room1)) p.holds.room2 same2 solved.aside
          (solution_heaviest n g left_graph).pairing solved.mates

      pub tail_returns : ReturnThere n t count w1a w2a
      tail_returns = back

      pub tail_passed : {out from : Change} {a : Answer} → Returns n t count w1a w2a out from a
          → Does (crowded_row (largest n g) ∷ []) (back_to n p.on.w p.on.steps best out from) a
      tail_passed d =
          passed (crowded_row (largest n g) ∷ []) [] (omega arith, tt) (rw (le-ltb 12 (largest n g) solved.few))
          (d back)

-- ---- on the steps of reduce

module _ (list : List ℕ) {at : Started} {w1 w2 : List ℕ}
    (d : StartDone list (some (reduce_steps list)) at w1 w2) where
  abbrev ss : List Step
  ss = reduce_steps list

  abbrev reduced : TailThere at.n at.slots at.trail at.steps w1 w2
  reduced = tail_there list d.accepted ss (reduce_allowed list d.accepted) d.cells (reduce_after list d)

  pub reduce_tail : TailThere at.n at.slots at.trail at.steps w1 w2
  reduce_tail = reduced

  pub pair_passed : (few : Bool) → 0 ≡ first (call_rows few list) → {out from : Change} {a : Answer}
      → Tails at.n at.slots at.trail at.steps w1 w2 out from a
      → Does (call_rows few list ++ pair_rows list)
      ((pairing_file list, out.0, out.1) ∷ (pairing_origins list, from.0, from.1) ∷ []) a
  pair_passed few z {out} {from} {a} p =
      passed (call_rows few list) (crowded_row (largest (cells_of list) (graph_after list ss)) ∷ []) (omega arith) z
      (subst Of d.cells (p reduced))
    where
      Of : ℕ → Type 0
      Of i =
          Does (crowded_row (largest i (graph_after list ss)) ∷ [])
          (back_to i (graph_in list) ss (solution i (graph_after list ss)) out from) a
