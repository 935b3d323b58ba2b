-- The course of steps on an accepted list. In order: without more steps it is what the slip's names name
-- (`course_replay`); the cells of steps that stand; an accepted list
-- is a graph of its cells (`list_graph`) whose points, with what is carried, have 44 bits after any steps that are
-- allowed (`left_small`); so the loop may run on it (`run_asked`), and what the steps leave is a graph (`left_graph`)
-- that may be written (`left_there`); they are at most 1,024 (`steps_few`), with cells of 10 bits (`steps_below`).
-- Assumes nothing.
use mathlib.Core.Path.{◌≡◌, refl, ap}
use mathlib.Core.Bool.{Bool}
use mathlib.Core.List.{List, [], ◌∷◌}
use mathlib.Core.Option.{Option, some, none}
use Prim.Native.Nat.{ℕ, ◌+◌, ◌≤◌, ◌<◌}
use native.Mathlib.Omega.{arith}
use lib.ListN.{length}
use Rattle.cellfile.specs.Words.{points_room}
use Rattle.matching.specs.Lists.{All}
use Rattle.matching.specs.Pairs.{Points, Each}
use Rattle.matching.specs.Best.{walk}
use Rattle.matching.specs.Graph.{Graph}
use Rattle.matching.specs.Steps.{Rule, Step, leaf, ring, chain, apply, name}
use Rattle.matching.specs.Find.{step_at}
use Rattle.matching.specs.Slip.{replay, left, carried}
use Rattle.matching.proofs.Tests.{Test, pass, fail, lt_test}
use Rattle.matching.proofs.Alls.{all_mem}
use Rattle.matching.proofs.Entries.{listed_graph}
use Rattle.matching.proofs.Fits.{Fits, Stands}
use Rattle.matching.proofs.Exact.{step_graph}
use Rattle.matching.proofs.Reduce.{replay_fits}
use Rattle.matching.proofs.Demand.{slip_graph, left_bound, total_fits, no_gain_no_loss}
use Rattle.cellfile.specs.Files.{cells_of, in_view}
use Rattle.checks.specs.Refusals.{first, lists, list_rows}
use Rattle.cellfile.proofs.Walk.{entries_count}
use Rattle.cellfile.proofs.Lists.{view_all, view_small}
use Rattle.checks.proofs.Accepted.{list_fits, accepted_list}
use Rattle.slots.specs.Slots.{graph_of}
use Rattle.starting.specs.Steps.{graph_in}
use Rattle.running.specs.Course.{course}
use Rattle.running.specs.Running.{Asked, After}
use Rattle.running.specs.Pairs.{PairsLeft}
use Rattle.running.proofs.Listing.{holds_pairs}
use Rattle.matching.proofs.Behind.{behind}

-- The step, and the steps that follow it.
abbrev onward : Option Step → (Step → Option (List Step)) → Option (List Step)
onward o rest = elim o [ none ↦ none | some s ↦ behind (s ∷ []) (rest s) ]

pub course_replay : (n : ℕ) (w : Points) (rs : List (Rule × ℕ)) → course n w rs 0 ≡ replay n w rs
course_replay n w [] = refl
course_replay n w (r ∷ rs) = go (step_at n w r.0 r.1) (λ s. course_replay n (apply w s) rs)
  where
    go : (o : Option Step) → ((s : Step) → course n (apply w s) rs 0 ≡ replay n (apply w s) rs)
        → onward o (λ s. course n (apply w s) rs 0) ≡ onward o (λ s. replay n (apply w s) rs)
    go none i = refl
    go (some s) i = ap (behind (s ∷ [])) (i s)

-- ---- the cells of steps

pair_below : {n : ℕ} {w : Points} → Graph n w → (a b : ℕ) → 0 < w a b → b < n
pair_below {n} g a b p = go (lt_test b n)
  where
    go : {t : Bool} → Test (b < n) (n ≤ b) t → b < n
    go (pass l) = l
    go (fail l) = absurd (omega (arith, g.top a b l))

row_below : {n : ℕ} {w : Points} → Graph n w → (u : ℕ) (inner : List ℕ) (v : ℕ)
    → Each (λ a b. 0 < w a b) (walk u inner v) → All (λ (c : ℕ). c < n) inner
row_below g u [] v p = tt
row_below {n} {w} g u (c ∷ cs) v p = (pair_below g u c p.0, row_below g c cs v p.1)

step_below : {n : ℕ} {w : Points} → Graph n w → (s : Step) → Fits w s → (name s).1 < n
step_below g (leaf u v) f = pair_below g u v f.pair
step_below {n} g (ring u z inner) f =
    all_mem (λ (c : ℕ). c < n) inner (row_below g u inner u f.0.live) z f.1
step_below {n} g (chain u v z inner) f =
    all_mem (λ (c : ℕ). c < n) inner (row_below g u inner v f.0.live) z f.1

stands_below : {n : ℕ} {w : Points} → n ≤ 1024 → Graph n w → (ss : List Step) → Stands w ss
    → All (λ (s : Step). (name s).1 < 1024) ss
stands_below l g [] f = tt
stands_below {w = w} l g (s ∷ ss) f =
    (omega (arith, step_below g s f.0), stands_below {w = apply w s} l (step_graph g s f.0) ss f.1)

-- ---- an accepted list

module _ (list : List ℕ) (h : first (list_rows lists list) ≡ 0) where
  pub list_graph : Graph (cells_of list) (graph_in list)
  list_graph = listed_graph (cells_of list) (in_view list) (accepted_list list h).1

  pub list_few : length (in_view list) ≤ 4096
  list_few = omega (arith, list_fits list h, ap length (view_all list), entries_count list)

  pub left_small : (rs : List (Rule × ℕ)) (ss : List Step) → replay (cells_of list) (graph_in list) rs ≡ some ss
      → (a b : ℕ) → left (graph_in list) ss a b + carried (graph_in list) ss < points_room
  left_small rs ss allowed a b =
      omega (
        arith,
        left_bound (cells_of list) (in_view list) (accepted_list list h).1 rs ss allowed a b,
        total_fits 20 (in_view list) (view_small list) list_few,
      )

  pub run_asked : {n more : ℕ} {w : Points} {rs : List (Rule × ℕ)} → n ≡ cells_of list → w ≡ graph_in list
      → length rs < 8192 → more ≤ 1024 → Asked n w rs more
  run_asked en l c f = record {
    cells = omega (arith, en, (accepted_list list h).0);
    graph = rw (en, l) list_graph;
    small = rw (en, l) left_small;
    count = c;
    few = f;
  }

  module _ (rs : List (Rule × ℕ)) (ss : List Step) (allowed : replay (cells_of list) (graph_in list) rs ≡ some ss) where
    pub left_graph : Graph (cells_of list) (left (graph_in list) ss)
    left_graph = slip_graph list_graph ss (replay_fits list_graph rs ss allowed).0

    pub left_there : {n e t p k : ℕ} {w1 w2 : List ℕ} → n ≡ cells_of list
        → After (graph_in list) ss e t p k w1 w2 → PairsLeft n e w1
    left_there {e = e} {w1 = w1} en a = record {
      cells = omega (arith, en, (accepted_list list h).0);
      pairs = holds_pairs a.holds small;
      graph = rw (en, a.graph) left_graph;
      small = small;
    }
      where
        small : (x y : ℕ) → graph_of e w1 x y < points_room
        small x y = rw a.graph (omega (arith, left_small rs ss allowed x y))

    pub steps_few : length ss ≤ 1024
    steps_few =
        omega (
          arith,
          (no_gain_no_loss (cells_of list) (in_view list) (accepted_list list h).1 rs ss allowed).steps,
          (accepted_list list h).0,
        )

    pub steps_below : All (λ (s : Step). (name s).1 < 1024) ss
    steps_below = stands_below (accepted_list list h).0 list_graph ss (replay_fits list_graph rs ss allowed).0
