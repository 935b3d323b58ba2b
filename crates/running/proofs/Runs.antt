-- The loop of replay and reduce. In order: the step that comes next, as it is found at one cell (`one_cell`); a step's
-- name is the word of a slip (`name_word_is`); where the loop stands, the step that comes next is found
-- (`next_scanned`, `next_first`), the loop ends (`run_out`, `run_refused`, `run_ends`), or steps were taken (`Went`)
-- that leave room (`run_room`) and from which it goes on (`run_on`); a bound for rings that stays (`rings_stay`); a
-- step that was found (`is_some`) is there to be taken (`found_there`, `step_there`), its name and what it carries fit
-- (`step_named`, `step_carried`), and the loop goes on from it (`after_step`). Assumes nothing.
use mathlib.Core.Path.{◌≡◌, sym, ap, ap₂, subst, ◌∙◌}
use mathlib.Core.Logic.{◌⊎◌, inl, inr, ◌≢◌}
use mathlib.Core.Bool.{Bool, true}
use mathlib.Core.List.{List, [], ◌∷◌, ◌++◌, map, map-append, append-nil}
use Rattle.std.specs.Prelude.{Option as Perhaps, Some, None}
use mathlib.Core.Option.{Option, some, none}
use Prim.Native.Nat.{ℕ, suc, ◌+◌, ◌*◌, ◌-◌, ◌≤◌, ◌<◌}
use native.Mathlib.Omega.{arith}
use native.Mathlib.Numerals.{add-one}
use lib.ListN.{length, take, drop, length-drop, length-append}
use lib.Seq.{drop-set-add, take-suc-set, take-set-le}
use Rattle.matching.specs.Pairs.{Points}
use Rattle.matching.specs.Graph.{Graph}
use Rattle.matching.specs.Steps.{Rule, by_ring, Step, name, inside}
use Rattle.matching.specs.Shapes.{IsStep, rank, NoLater}
use Rattle.matching.specs.Find.{step_at, first_step_of, search}
use Rattle.matching.specs.Slip.{replay, left, carried}
use Rattle.matching.proofs.Fits.{Stands}
use Rattle.matching.proofs.Find.{step_is, step_below, first_step_first}
use Rattle.matching.proofs.More.{graph_to, is_more, is_less, step_more}
use Rattle.matching.proofs.Tally.{cells_most}
use Rattle.matching.proofs.Reduce.{replay_fits, slip_count}
use Rattle.matching.proofs.Demand.{slip_graph}
use Rattle.matching.proofs.Behind.{behind, left_append, carried_append, replay_split}
use Rattle.buffers.specs.Map.{at_names, trail_room}
use Rattle.cellfile.specs.Fields.{packed}
use Rattle.cellfile.specs.Files.{rule_named, number_of}
use Rattle.cellfile.specs.Kinds.{as_rule}
use Rattle.cellfile.specs.Words.{name_word, points_room}
use Rattle.cellfile.specs.declared.decode.SlipStep.{SlipStep}
use Rattle.slots.specs.Working.{graph_in, WordSet}
use Rattle.slots.specs.declared.graph.WorkingGraph.{WorkingGraph}
use Rattle.slots.proofs.Holding.{holds_room}
use Rattle.finding.specs.Finding.{told, to_tell, as_step, Finds, MayFind, step_from, step_of, Quiet, RingQuiet}
use Rattle.finding.specs.declared.Found.{Found}
use Rattle.finding.specs.declared.Step as declared
use Rattle.finding.specs.declared.Step.TheVariants as found
use Rattle.finding.proofs.Told.{told_same}
use Rattle.finding.proofs.Scans.{told_some}
use Rattle.bounds.specs.Bounds.{Quieted, LowestRing, RingQuieted}
use Rattle.bounds.specs.declared.Bounds.{Bounds}
use Rattle.trail.specs.Trail.{step_words, trail}
use Rattle.trail.proofs.Trail.{trail_append, room_on_trail}
use Rattle.taking.specs.Applying.{StepThere, StepTaken}
use Rattle.taking.specs.declared.Taken.{Taken}
use Rattle.taking.proofs.Applied.{found_step}
use Rattle.leaves.proofs.Noting.{names_kept}
use Rattle.running.specs.Course.{course}
use Rattle.running.specs.Running.{next_step, next_step_of, course_from, name_in, NamedAt, RunDone}
use Rattle.running.specs.Running.{Coursing, FoundThere}
use Rattle.running.specs.declared.Place.{Place}
use Rattle.running.specs.declared.Ran.{Ran}
use Rattle.running.proofs.Course.{names_next, names_out, course_on_is, course_refused, course_ends}
use Rattle.running.proofs.Course.{course_out, behind_append, behind_nil, next_named}

-- ---- the step that comes next

one_cell : (n : ℕ) (w : Points) (r : Rule) (c : ℕ) → Graph n w → n ≤ 1024 → step_from w r c (c + 1) ≡ step_at n w r c
one_cell n w r c g le =
    let q : c + 1 - c ≡ 1 = omega arith in
    let z : c + 0 ≡ c = omega arith in
    ap (λ k. search (λ i. step_at 1024 w r (c + i)) k) q ∙ ap (step_at 1024 w r) z ∙ step_more g 1024 le r c

-- a name fits a word of a slip, and is that word
abbrev Named : declared.Step → Step → Type 0
Named x s =
    (name s).1 < 1024
    → ((name_in x).cell < 1024) × (number_of (as_rule (name_in x).rule) * 1024 + (name_in x).cell ≡ name_word s)

named_as : (x : declared.Step) (inner : ℕ → List ℕ) → Named x (as_step x inner)
unfolding packed
named_as (found.Leaf v u) inner l = (omega arith, omega arith)
named_as (found.Ring u z) inner l = (omega arith, omega arith)
named_as (found.Chain u v z) inner l = (omega arith, omega arith)

name_word_is : (x : declared.Step) (s : Step) → told x ≡ to_tell (some s) → Named x s
name_word_is x s q = subst (Named x) (told_same x s q) (named_as x (λ u. inside s))

-- ---- what holds between the steps

-- The steps ss were taken on the points p where the loop stood at `at`; it stands at r then.
pub record Went (p : Points) (at : Ran) (g : WorkingGraph) (ss : List Step) (r : Ran) (g' : WorkingGraph) : Type 0 where
  pub graph : graph_in g' ≡ left p ss
  pub carries : r.carried ≡ at.carried + carried p ss
  pub words : r.trail ≡ at.trail + length (trail p ss)
  pub trail : take r.trail g'.w2.now ≡ take at.trail g.w2.now ++ trail p ss
  pub count : r.steps ≡ at.steps + length ss
  pub names : take r.steps (drop at_names g'.w2.now) ≡ take at.steps (drop at_names g.w2.now) ++ map name_word ss

module _ {n : ℕ} {w : Points} {rs : List (Rule × ℕ)} {more : ℕ} {at : Place} {g : WorkingGraph}
    (h : Coursing n w rs more at g) where
  abbrev pub here : Points
  here = graph_in g

  abbrev k : ℕ
  k = at.taken.steps

  taken_stands : Stands w h.taken
  taken_stands = (replay_fits h.asked.graph (map name h.taken) h.taken h.allowed).0

  pub run_graph : Graph n here
  run_graph = subst (Graph n) (sym h.after.graph) (slip_graph h.asked.graph h.taken taken_stands)

  -- the step that comes next is found, or there is none
  pub next_scanned : (t : SlipStep) (x : Perhaps Found) → NamedAt rs k (Some t) → {r : Rule} → r ≡ rule_named t.rule
      → MayFind g.slots g.w1.now (step_from here r t.cell (t.cell + 1)) x
      → MayFind g.slots g.w1.now (next_step_of n here rs k) x
  next_scanned t x m {r} q f =
      subst (λ (o : Option Step). MayFind g.slots g.w1.now o x)
      (one_cell n here r t.cell run_graph h.asked.cells
      ∙ ap (λ (j : Rule). step_at n here j t.cell) q
      ∙ ap (λ (x : Rule × ℕ). step_at n here x.0 x.1) m.1
      ∙ ap (next_step n here) (sym (names_next rs k m.0))) f

  pub next_first : (x : Perhaps Found) → length rs ≤ k → MayFind g.slots g.w1.now (first_step_of n here) x
      → MayFind g.slots g.w1.now (next_step_of n here rs k) x
  next_first x l f =
      subst (λ xs. MayFind g.slots g.w1.now (next_step n here xs) x) (sym (names_out rs k l)) f

  -- the loop ends
  run_done : course_from n rs more k here ≡ some []
      → RunDone n w rs more g.slots at.taken.trail at.taken.carried k g.w1.now g.w2.now
  run_done q = record {
    taken = h.taken;
    course = h.rest ∙ ap (behind h.taken) q ∙ behind_nil h.taken;
    after = h.after;
  }

  pub run_out : length rs + more ≤ k
      → RunDone n w rs more g.slots at.taken.trail at.taken.carried k g.w1.now g.w2.now
  run_out l = run_done (course_out n rs more k here l)

  module _ (no : next_step_of n here rs k ≡ none) where
    pub run_refused : k < length rs → course n w rs more ≡ none
    run_refused l = h.rest ∙ ap (behind h.taken) (course_refused n rs more k here l no)

    pub run_ends : length rs ≤ k → k < length rs + more
        → RunDone n w rs more g.slots at.taken.trail at.taken.carried k g.w1.now g.w2.now
    run_ends l b = run_done (course_ends n rs more k here l b no)

  -- steps behind those that were taken, allowed on what those left
  module _ (ss : List Step) (ok : replay n here (map name ss) ≡ some ss) where
    abbrev all : List Step
    all = h.taken ++ ss

    all_allowed : replay n w (map name all) ≡ some all
    all_allowed =
        ap (replay n w) (map-append name h.taken ss)
        ∙ replay_split n w (map name h.taken) (map name ss) h.taken h.allowed
        ∙ ap (behind h.taken) (ap (λ (p : Points). replay n p (map name ss)) (sym h.after.graph) ∙ ok)

    all_stands : Stands w all
    all_stands = (replay_fits h.asked.graph (map name all) all all_allowed).0

    all_trail : length (trail w all) ≡ at.taken.trail + length (trail here ss)
    all_trail =
        ap length (trail_append w h.taken ss) ∙ length-append (trail w h.taken) (trail (left w h.taken) ss)
        ∙ ap₂ (λ t (p : Points). t + length (trail p ss)) (sym h.after.trail_length) (sym h.after.graph)

    all_carried : carried w all ≡ at.taken.carried + carried here ss
    all_carried =
        carried_append w h.taken ss
        ∙ ap₂ (λ c (p : Points). c + carried p ss) (sym h.after.carries) (sym h.after.graph)

    -- there is room for them, and what is carried fits
    pub run_room : (at.taken.steps + length ss ≤ 1024) × (at.taken.trail + length (trail here ss) ≤ trail_room)
        × (at.taken.carried + carried here ss < points_room)
    run_room =
        let le = h.asked.cells in (
          omega (
            arith,
            h.after.count,
            length-append h.taken ss,
            slip_count h.asked.graph all all_stands,
            cells_most n w,
          ),
          omega (arith, all_trail, room_on_trail h.asked.graph all all_stands, cells_most n w),
          omega (arith, all_carried, h.asked.small (map name all) all all_allowed 0 0),
        )

    pub run_on : {r : Place} {g' : WorkingGraph} → Went here at.taken g ss r.taken g'
        → course_from n rs more k here ≡ behind ss (course_from n rs more r.taken.steps (left here ss))
        → r.taken.steps ≤ length rs + more → Quiet r.bounds.low (graph_in g') → RingQuiet r.bounds.rings (graph_in g')
        → Coursing n w rs more r g'
    run_on {r} {g'} d q top quiet rings = record {
      asked = h.asked;
      taken = all;
      allowed = all_allowed;
      after = record {
        holds = g'.holds;
        graph = d.graph ∙ ap (λ (p : Points). left p ss) h.after.graph ∙ sym (left_append w h.taken ss);
        carries = d.carries ∙ sym all_carried;
        trail_length = d.words ∙ sym all_trail;
        trail =
            d.trail ∙ ap₂ (λ ws (p : Points). ws ++ trail p ss) h.after.trail h.after.graph
            ∙ sym (trail_append w h.taken ss);
        count = omega (arith, d.count, h.after.count, length-append h.taken ss);
        names =
            d.names ∙ ap (λ ws. ws ++ map name_word ss) h.after.names ∙ sym (map-append name_word h.taken ss);
      };
      rest =
          h.rest ∙ ap (behind h.taken) q
          ∙ behind_append h.taken ss (course_from n rs more r.taken.steps (left here ss))
          ∙ ap (λ (p : Points). behind all (course_from n rs more r.taken.steps p)) (sym d.graph);
      top = top;
      quiet = quiet;
      rings = rings;
    }

-- a bound for rings that stays where `stay` holds, or is 0
pub rings_stay : {stay : Bool} {rings b : ℕ} {p : Points} → (b ≡ 0) ⊎ ((stay ≡ true) × (b ≡ rings))
    → (stay ≡ true → RingQuiet rings p) → RingQuiet b p
rings_stay (inl z) q = λ c l. absurd (omega arith)
rings_stay (inr (l, e)) q = rw e (q l)

-- ---- the step that was found

-- it is not none where it is one of the three
pub is_some : {s : Perhaps declared.Step}
    → ((v : ℕ) × (u : ℕ) × (s ≡ Some (found.Leaf v u))) ⊎ (((u : ℕ) × (z : ℕ) × (s ≡ Some (found.Ring u z)))
    ⊎ ((u : ℕ) × (v : ℕ) × (z : ℕ) × (s ≡ Some (found.Chain u v z))))
    → s ≢ None
is_some (inl (v, u, e)) z = (let q = sym e ∙ z in let y : ◌≡◌ {A = ℕ} 0 1 = cc in omega arith)
is_some (inr (inl (u, z', e))) z = (let q = sym e ∙ z in let y : ◌≡◌ {A = ℕ} 0 1 = cc in omega arith)
is_some (inr (inr (u, v, z', e))) z = (let q = sym e ∙ z in let y : ◌≡◌ {A = ℕ} 0 1 = cc in omega arith)

-- it is there to be taken
abbrev pub found_there : {n m : ℕ} {w : Points} {rs : List (Rule × ℕ)} {more : ℕ} {at : Place} {g : WorkingGraph}
    {x : Found} → m ≡ length rs → Coursing n w rs more at g
    → Finds g.slots g.w1.now (next_step_of n (graph_in g) rs at.taken.steps) x → at.taken.steps < m + more
    → FoundThere m at x g
found_there {n} {m} {w} {rs} {more} {at} {g} {x} q h f l =
    let s = told_some x.step (next_step_of n (graph_in g) rs at.taken.steps) f.step in
    record {
      n = n;
      w = w;
      more = more;
      rs = rs;
      many = q;
      coursing = h;
      step = s.0;
      next = s.1;
      finds = subst (λ (o : Option Step). Finds g.slots g.w1.now o x) s.1 f;
      ahead = omega arith;
    }

module _ {m : ℕ} {at : Place} {x : Found} {g : WorkingGraph} (f : FoundThere m at x g) where
  abbrev h : Coursing f.n f.w f.rs f.more at g
  h = f.coursing

  abbrev one : List Step
  one = f.step ∷ []

  named : step_at f.n (here h) (name f.step).0 (name f.step).1 ≡ some f.step
  named = next_named (run_graph h) (drop at.taken.steps f.rs) f.step f.next

  allowed : replay f.n (here h) (map name one) ≡ some one
  allowed = ap one_step named
    where
      one_step : Option Step → Option (List Step)
      one_step o = elim o [ none ↦ none | some t ↦ some (t ∷ []) ]

  is : IsStep 1024 (here h) (name f.step).0 (name f.step).1 f.step
  is =
      is_more (run_graph h) 1024 h.asked.cells (name f.step).0 (name f.step).1 f.step
      (step_is (run_graph h) (name f.step).0 (name f.step).1 f.step named)

  wide : Graph 1024 (here h)
  wide = graph_to (run_graph h) 1024 h.asked.cells

  words : trail (here h) one ≡ step_words (here h) f.step
  words = append-nil (step_words (here h) f.step)

  step_word : ((name_in x.step).cell < 1024)
      × (number_of (as_rule (name_in x.step).rule) * 1024 + (name_in x.step).cell ≡ name_word f.step)
  step_word =
      name_word_is x.step f.step f.finds.step (step_below wide (name f.step).0 (name f.step).1 f.step is)

  pub step_there : StepThere g at.taken.trail x
  step_there = record {
    rule = (name f.step).0;
    cell = (name f.step).1;
    step = f.step;
    is = is;
    finds = f.finds;
    room = omega (arith, (run_room h one allowed).1, ap length words);
    fits = λ a b. (let q = ap (λ (p : Points). p a b) h.after.graph in
        omega (arith, q, h.asked.small (map name h.taken) h.taken h.allowed a b));
  }

  -- there is room for its name
  pub step_named : (at.taken.steps < 1024) × ((name_in x.step).cell < 1024)
  step_named = (omega (arith, run_room h one allowed), step_word.0)

  -- no ring step is named by a lower cell, where reduce takes the step
  lowest : length f.rs ≤ at.taken.steps → LowestRing (here h) f.step
  lowest l e c y p =
      go (first_step_first (run_graph h) f.step first by_ring c y
      (is_less (run_graph h) 1024 h.asked.cells by_ring c y p))
    where
      first : first_step_of f.n (here h) ≡ some f.step
      first =
          subst (λ rs. next_step f.n (here h) rs ≡ some f.step) (names_out f.rs at.taken.steps l) f.next

      go : NoLater (name f.step) (by_ring, c) → (name f.step).1 ≤ c
      go (inl b) = absurd (omega (arith, b, ap rank e))
      go (inr b) = b.1

  module _ {g' : WorkingGraph} {t : Taken} (taken : StepTaken g g' at.taken.trail (step_of (here h) x) t) where
    done : StepTaken g g' at.taken.trail f.step t
    done =
        subst (λ (s : Step). StepTaken g g' at.taken.trail s t)
        (found_step g.holds (name f.step).0 (name f.step).1 is f.finds) taken

    -- what it carries fits
    pub step_carried : at.taken.carried + t.carried < points_room
    step_carried = omega (arith, done.carried, run_room h one allowed)

    -- after it, with its name written
    module _ {g'' : WorkingGraph} {v : ℕ} (d : WordSet (at_names + at.taken.steps) v g' g'')
        (word : v ≡ number_of (as_rule (name_in x.step).rule) * 1024 + (name_in x.step).cell) where
      abbrev r : Ran
      r = record { trail = t.trail; carried = at.taken.carried + t.carried; steps = at.taken.steps + 1 }

      same : graph_in g'' ≡ left (here h) one
      same = rw (d.slots, d.first) done.graph

      went : Went (here h) at.taken g one r g''
      went = record {
        graph = same;
        carries = omega (arith, done.carried);
        words = omega (arith, done.words, ap length words);
        trail =
            ap (take t.trail) d.second
            ∙ take-set-le t.trail g'.w2.now (at_names + at.taken.steps) v
            (omega (arith, done.words, (run_room h one allowed).1, ap length words))
            ∙ done.trail ∙ ap (λ ws. take at.taken.trail g.w2.now ++ ws) (sym words);
        count = omega arith;
        names =
            rw (add-one)
            (ap (λ (ws : List ℕ). take (suc at.taken.steps) (drop at_names ws)) d.second
            ∙ ap (take (suc at.taken.steps)) (drop-set-add at_names g'.w2.now at.taken.steps v)
            ∙ take-suc-set (drop at_names g'.w2.now) at.taken.steps v
            (omega (arith, length-drop at_names g'.w2.now, run_room h one allowed, holds_room g'.holds))
            ∙ ap₂ (λ xs y. xs ++ y ∷ [])
            (names_kept g g' at.taken.steps (omega (arith, run_room h one allowed)) done.aside)
            (word ∙ step_word.1));
      }

      pub after_step : {b r' : Bounds} {stay : Bool} → Quieted (here h) x.step at.bounds.low b.low
          → RingQuieted (here h) x.step at.bounds.rings b.rings → r'.low ≡ b.low
          → (r'.rings ≡ 0) ⊎ ((stay ≡ true) × (r'.rings ≡ b.rings)) → (stay ≡ true → m ≤ at.taken.steps)
          → Coursing f.n f.w f.rs f.more (record { taken = r; bounds = r' }) g''
      after_step {b} {r'} {stay} quiet rung low stays when =
          run_on h one allowed went
          (course_on_is f.n f.rs f.more at.taken.steps (here h) f.ahead f.step f.next)
          (omega (arith, f.ahead))
          (rw low (subst (Quiet b.low) (sym same) (quiet f.step f.finds.step (name f.step) is wide h.quiet)))
          (rings_stay stays (λ l. subst (RingQuiet b.rings) (sym same)
          (rung f.step f.finds.step (name f.step) is wide (lowest (omega (arith, when l, f.many))) h.rings)))
