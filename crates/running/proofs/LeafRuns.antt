-- A run of leaf steps behind the steps so far. In order: the names of leaf steps as words (`leaf_names_is`); that there
-- is room for what was taken (`leaves_most`); that what a run carries fits (`leaves_carry`), and where the loop stands
-- after it (`after_leaves`). Assumes nothing.
use mathlib.Core.Path.{◌≡◌, refl, sym, ap, ap₂, subst, ◌∙◌}
use mathlib.Core.Logic.{◌⊎◌}
use mathlib.Core.Bool.{Bool, true}
use mathlib.Core.List.{List, [], ◌∷◌, ◌++◌, map}
use mathlib.Core.Option.{some}
use Prim.Native.Nat.{ℕ, ◌+◌, ◌≤◌, ◌<◌}
use native.Mathlib.Omega.{arith}
use lib.ListN.{length, take, drop, length-map}
use Rattle.matching.specs.Pairs.{Points}
use Rattle.matching.specs.Steps.{Rule, Step, leaf, name}
use Rattle.matching.specs.Slip.{replay, left, reduce}
use Rattle.matching.proofs.Tests.{Test, pass, fail, lt_test}
use Rattle.matching.proofs.Reduce.{reduce_replay}
use Rattle.matching.proofs.Behind.{behind}
use Rattle.buffers.specs.Map.{at_names, trail_room}
use Rattle.cellfile.specs.Fields.{packed}
use Rattle.cellfile.specs.Words.{name_word, points_room}
use Rattle.finding.specs.Finding.{RingQuiet}
use Rattle.bounds.specs.declared.Bounds.{Bounds}
use Rattle.slots.specs.declared.graph.WorkingGraph.{WorkingGraph}
use Rattle.trail.specs.Trail.{closing}
use Rattle.leaves.specs.Runs.{leaves_at, leaf_names, Taken}
use Rattle.leaves.specs.declared.LeafRun.{LeafRun}
use Rattle.leaves.specs.declared.places.Room.{Room}
use Rattle.leaves.proofs.Noting.{trail_leaves}
use Rattle.running.specs.Running.{course_from, Spare, Coursing}
use Rattle.running.specs.declared.Place.{Place}
use Rattle.running.specs.declared.Ran.{Ran}
use Rattle.running.proofs.Course.{course_more, behind_none}
use Rattle.running.proofs.Runs.{Went, here, run_graph, run_room, run_on, rings_stay}

-- the name of a leaf step as a word
leaf_names_is : (u : ℕ) (cells : List ℕ) → leaf_names cells ≡ map name_word (leaves_at u cells)
unfolding packed
leaf_names_is u [] = refl
leaf_names_is u (v ∷ vs) =
    let q : 1024 + v ≡ name_word (leaf u v) = omega arith in
    ap₂ ◌∷◌ q (leaf_names_is u vs)

-- what the steps left after a run
abbrev pub ran : Ran → LeafRun → Ran
ran at r = record {
  trail = at.trail + r.steps;
  carried = at.carried + r.carried;
  steps = at.steps + r.steps;
}

module _ {n : ℕ} {w : Points} {rs : List (Rule × ℕ)} {more : ℕ} {at : Place} {g : WorkingGraph}
    (h : Coursing n w rs more at g) where
  -- there is room for what was taken
  pub leaves_most : (at.taken.steps ≤ 1024) × (at.taken.trail ≤ trail_room)
  leaves_most = let r = run_room h [] refl in (omega arith, omega arith)

  module _ {m : ℕ} (many : m ≡ length rs) {room : Room} (sp : Spare m more at.taken room) {g' : WorkingGraph}
      {r : LeafRun} (t : Taken n room g g' r) where
    abbrev ss : List Step
    ss = leaves_at t.hub t.cells

    as_many : length ss ≡ r.steps
    as_many = omega (arith, t.count, length-map t.cells (leaf t.hub))

    as_reduced : reduce (length ss) n (here h) ≡ ss
    as_reduced = ap (λ i. reduce i n (here h)) (length-map t.cells (leaf t.hub)) ∙ t.first

    leaves_allowed : replay n (here h) (map name ss) ≡ some ss
    leaves_allowed =
        subst (λ xs. replay n (here h) (map name xs) ≡ some xs) as_reduced (reduce_replay (length ss) (run_graph h))

    pub leaves_carry : at.taken.carried + r.carried < points_room
    leaves_carry = omega (arith, (run_room h ss leaves_allowed).2, t.carries)

    went : Went (here h) at.taken g ss (ran at.taken r) g'
    went = record {
      graph = t.graph;
      carries = omega (arith, t.carries);
      words =
          omega (
            arith,
            ap length (trail_leaves (here h) t.hub t.cells),
            t.count,
            length-map t.cells (λ v. closing 1 t.hub v 0 0 0),
          );
      trail =
          ap (λ i. take (at.taken.trail + i) g'.w2.now) t.count
          ∙ ap (λ i. take (i + length t.cells) g'.w2.now) (sym sp.trail) ∙ t.words.trail
          ∙ ap₂ (λ i ws. take i g.w2.now ++ ws) sp.trail (sym (trail_leaves (here h) t.hub t.cells));
      count = omega (arith, as_many);
      names =
          ap (λ i. take (at.taken.steps + i) (drop at_names g'.w2.now)) t.count
          ∙ ap (λ i. take (i + length t.cells) (drop at_names g'.w2.now)) (sym sp.names) ∙ t.words.names
          ∙ ap₂ (λ i ws. take i (drop at_names g.w2.now) ++ ws) sp.names (leaf_names_is t.hub t.cells);
    }

    none_taken : r.steps ≡ 0 → ss ≡ []
    none_taken z = go t.cells (omega (arith, t.count))
      where
        go : (cs : List ℕ) → length cs ≡ 0 → leaves_at t.hub cs ≡ []
        go [] q = refl
        go (c ∷ cs) q = absurd (omega arith)

    -- after the run: the slip has no steps left, or none was taken
    pub after_leaves : {b : Bounds} {stay : Bool} → b.low ≡ r.low
        → (b.rings ≡ 0) ⊎ ((stay ≡ true) × (b.rings ≡ at.bounds.rings)) → (stay ≡ true → r.steps ≡ 0)
        → Coursing n w rs more (record { taken = ran at.taken r; bounds = b }) g'
    after_leaves {b} low stays when =
        run_on h ss leaves_allowed went (go (lt_test at.taken.steps m))
        (omega (arith, sp.course, t.few, many)) (rw low t.quiet)
        (rings_stay stays (λ l. subst (RingQuiet at.bounds.rings)
        (sym (t.graph ∙ ap (left (here h)) (none_taken (when l)))) h.rings))
      where
        go : {b : Bool} → Test (at.taken.steps < m) (m ≤ at.taken.steps) b
            → course_from n rs more at.taken.steps (here h)
            ≡ behind ss (course_from n rs more (at.taken.steps + r.steps) (left (here h) ss))
        go (pass l) =
            let z : r.steps ≡ 0 = omega (arith, sp.slip l, t.few) in
            let k : at.taken.steps ≡ at.taken.steps + r.steps = omega arith in
            sym (behind_none (course_from n rs more at.taken.steps (here h)))
            ∙ ap₂ (λ xs i. behind xs (course_from n rs more i (left (here h) xs))) (sym (none_taken z)) k
        go (fail l) =
            course_more n rs more at.taken.steps (here h) (omega arith) ss
            (omega (arith, as_many, sp.course, t.few, many)) as_reduced
            ∙ ap (λ i. behind ss (course_from n rs more (at.taken.steps + i) (left (here h) ss))) as_many
