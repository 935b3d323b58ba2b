-- Solve. In order: of a graph in the slots, refusal 11 (`tail_crowded`), the table of its solution (`tail_table`), room
-- for the words that are listed of it (`tail_room`), and the file that they make (`tail_written`); what a slip leaves
-- may be solved (`solve_left`), and that is what solve is to write (`solve_passed`). Assumes nothing.
use mathlib.Core.Path.{◌≡◌, refl, sym, ap, subst, ◌∙◌}
use mathlib.Core.Bool.{Bool}
use mathlib.Core.List.{List, [], ◌∷◌, ◌++◌, map}
use mathlib.Core.Option.{Option, some, none}
use Prim.Native.Nat.{ℕ, ◌≤◌, ◌<◌}
use native.Mathlib.Omega.{arith}
use borrow.Author.Tests.{lt-ltb, le-ltb}
use lib.ListN.{length}
use Rattle.matching.specs.Pairs.{Pair, Points}
use Rattle.matching.specs.Steps.{Step}
use Rattle.matching.proofs.Sums.{each_map}
use Rattle.cellfile.specs.Files.{pairing as pairing_layout, write_file, cells_of, steps_of, as_name, pair_fields}
use Rattle.checks.specs.Refusals.{first}
use Rattle.cellfile.specs.Answers.{Answer}
use Rattle.slots.specs.Slots.{graph_of}
use Rattle.starting.specs.Steps.{steps_on, slip_rows}
use Rattle.checks.specs.Calls.{call_rows, crowded_row}
use Rattle.checks.specs.declared.Refusal.TheVariants.{Crowded}
use Rattle.checks.specs.Answering.{Does}
use Rattle.starting.specs.Starting.{StartDone}
use Rattle.starting.specs.declared.Started.{Started}
use Rattle.checks.proofs.Answering.{refused_by, passed}
use Rattle.starting.proofs.OnList.{left_there}
use Rattle.lifting.specs.Calls.{pair_file, graph_after, solved_file, largest_after, solve_rows, solve_file, by_steps}
use Rattle.matching.specs.Pairing.{Pairing}
use Rattle.matching.specs.Origin.{all_short}
use Rattle.matching.specs.Solve.{solution}
use Rattle.matching.specs.Groups.{largest}
use Rattle.matching.proofs.Put.{pair_below, pair_apart}
use Rattle.partners.specs.Table.{TableThere, Listed}
use Rattle.solving.specs.Left.{LeftThere, SolvedIn}
use Rattle.cellfile.specs.Words.{words_file, pair_word}
use Rattle.lifting.proofs.Pairs.{pairs_file}
use Rattle.matching.proofs.Solution.{solution_filed, solution_cells, solution_heaviest}

-- ---- a graph in the slots

module _ {n e : ℕ} {w1 w2 : List ℕ} (h : LeftThere n e w1 w2) where
  abbrev w : Points
  w = graph_of e w1

  abbrev file : List ℕ
  file = pair_file n (solution n w)

  pub tail_crowded : (out : List ℕ) → 12 < largest n w
      → Does (crowded_row (largest n w) ∷ []) ((file, out, out) ∷ []) (11, [])
  tail_crowded out l =
      refused_by (crowded_row (largest n w) ∷ []) [] Crowded (rw (lt-ltb 12 (largest n w) l)) (refl, tt)

  module _ {v : ℕ} {w2' : List ℕ} (s : SolvedIn n w w2 w2' v) where
    best : Pairing w (solution n w)
    best = (solution_heaviest n w h.graph).pairing

    pub tail_table : {w1' : List ℕ} → length w1' ≡ length w1
        → TableThere n w1' w2' all_short (solution n w)
    tail_table p = record {
      cells = h.cells;
      room1 = omega (arith, h.holds.room1);
      within = each_map
          (λ a b l. (let k = pair_below h.graph a b l in (k.0, k.1, pair_apart h.graph a b l)))
          (solution n w) best.held;
      once = best.once;
      few = λ a b. omega arith;
      mates = s.mates;
    }

    module _ {w1'' : List ℕ} {r : ℕ} (t : Listed all_short (solution n w) w1'' r) where
      pub tail_room : length w1'' ≡ length w1 → r ≤ length w1''
      tail_room q = omega (arith, h.holds.room1, t.most)

      words : words_file pairing_layout n r w1'' ≡ file
      words =
          pairs_file n r w1'' (solution n w) (t.pairs ∙ ap (map pair_word) (solution_filed n w))
          (each_map (λ a b p. (omega (arith, h.cells, p.0), omega (arith, h.cells, p.1))) (solution n w)
          (solution_cells n w))
          ∙ ap (λ (m : List Pair). write_file pairing_layout (record {
            cells = n;
            extra = [];
            entries = map pair_fields m;
          })) (sym (solution_filed n w))

      pub tail_written : (out : List ℕ) {out' : List ℕ} {a : Answer}
          → Does [] ((words_file pairing_layout n r w1'', out, out') ∷ []) a
          → Does (crowded_row (largest n w) ∷ []) ((file, out, out') ∷ []) a
      tail_written out {out'} {a} d =
          passed (crowded_row (largest n w) ∷ []) [] (omega arith, tt) (rw (le-ltb 12 (largest n w) s.few))
          (subst (λ f. Does [] ((f, out, out') ∷ []) a) words d)

-- ---- what a slip leaves

module _ (list slip : List ℕ) {at : Started} {w1' w2' : List ℕ}
    (d : StartDone list (steps_on list (steps_of slip)) at w1' w2') where
  pub solve_left : LeftThere at.n at.slots w1' w2'
  solve_left =
      let l =
      left_there list d.accepted (map as_name (steps_of slip)) d.taken d.steps_are d.cells d.after in
      record { holds = d.after.holds; cells = l.cells; graph = l.graph; small = l.small }

  -- by the steps taken
  by_steps_is : {A : Type 0} (x : A) (f : List Step → A) → f d.taken ≡ by_steps list slip x f
  by_steps_is x f = ap (λ (o : Option (List Step)). elim o [ none ↦ x | some ss ↦ f ss ]) (sym d.steps_are)

  graph_left : {A : Type 0} (f : ℕ → Points → A)
      → f at.n (graph_of at.slots w1') ≡ f (cells_of list) (graph_after list d.taken)
  graph_left f =
      ap (λ (i : ℕ). f i (graph_of at.slots w1')) d.cells ∙ ap (f (cells_of list)) d.after.graph

  pub solve_passed : (few : Bool) → 0 ≡ first (call_rows few list ++ slip_rows list slip) → (out : List ℕ)
      {out' : List ℕ} {a : Answer}
      → Does (crowded_row (largest at.n (graph_of at.slots w1')) ∷ [])
      ((pair_file at.n (solution at.n (graph_of at.slots w1')), out, out') ∷ []) a
      → Does (call_rows few list ++ solve_rows list slip) ((solve_file list slip, out, out') ∷ []) a
  solve_passed few z out {out'} {a} p =
      passed (call_rows few list ++ slip_rows list slip) (crowded_row (largest_after list slip) ∷ []) (omega arith) z
      (subst (λ k. Does (crowded_row k ∷ []) ((solve_file list slip, out, out') ∷ []) a) count
      (subst (λ file. Does (crowded_row (largest at.n (graph_of at.slots w1')) ∷ []) ((file, out, out') ∷ []) a) same
      p))
    where
      count : largest at.n (graph_of at.slots w1') ≡ largest_after list slip
      count = graph_left largest ∙ by_steps_is 0 (λ ss. largest (cells_of list) (graph_after list ss))

      same : pair_file at.n (solution at.n (graph_of at.slots w1')) ≡ solve_file list slip
      same = graph_left (λ i v. pair_file i (solution i v)) ∙ by_steps_is [] (solved_file list)
