-- A run in the buffers. In order: what holds of it at a cell (`Running`); how it starts (`running_start`), passes a
-- leaf (`running_gone`), takes a step (`running_take`), and what it leaves (`running_end`); after the pairs at u have
-- lost what is owed (`run_taken`); no run (`run_none`). Assumes nothing.
use mathlib.Core.Path.{◌≡◌, refl, sym, ap, subst, ◌∙◌}
use mathlib.Core.Logic.{◌≢◌}
use mathlib.Core.Bool.{Bool}
use mathlib.Core.List.{List, [], ◌∷◌, ◌++◌}
use Prim.Native.Nat.{ℕ, ◌+◌, ◌≤◌, ◌<◌}
use native.Mathlib.Omega.{arith}
use lib.ListN.{length, set, length-append}
use Rattle.buffers.specs.Map.{at_names}
use Rattle.matching.specs.Pairs.{Points}
use Rattle.matching.specs.Graph.{degree}
use Rattle.matching.proofs.Tests.{Test, pass, fail, eq_test}
use Rattle.slots.specs.Slots.{less_all}
use Rattle.slots.specs.Working.{graph_in, SameBuffers, Changes}
use Rattle.slots.specs.declared.graph.WorkingGraph.{WorkingGraph}
use Rattle.slots.proofs.Holding.{holds_room}
use Rattle.slots.proofs.Working.{buffers_on}
use Rattle.finding.specs.Finding.{Quiet}
use Rattle.trail.specs.Trail.{closing}
use Rattle.leaves.specs.Runs.{LeafRunThere, Slack, LeafOf, Noted, Words, Owes, TakenInSlots}
use Rattle.leaves.specs.declared.LeafRun.{LeafRun}
use Rattle.leaves.specs.declared.places.Room.{Room}
use Rattle.leaves.proofs.Owing.{Owing, owing_start, owing_gone, owing_take, owing_quiet}
use Rattle.leaves.proofs.Noting.{words_start, words_on, words_kept}

-- At the cell c, with p carried and j steps noted in g, which was g₀.
pub record Running (n u bound : ℕ) (room : Room) (g₀ g : WorkingGraph) (c p j : ℕ) : Type 0 where
  pub cells : List ℕ
  pub slots : g.slots ≡ g₀.slots
  pub weights : g.w1.now ≡ g₀.w1.now
  pub slack : Slack (graph_in g₀) u bound
  pub owing : Owing n (graph_in g₀) u bound c p cells
  pub words : Words room.trail room.names u cells g₀.w2.now g.w2.now
  pub count : j ≡ length cells
  pub few : j ≤ room.most
  pub buffers : SameBuffers g₀ g

module _ {n u c₀ : ℕ} {room : Room} {g₀ : WorkingGraph} (h : LeafRunThere n u c₀ g₀) where
  pub running_start : {bound : ℕ} → Slack (graph_in g₀) u bound → Running n u bound room g₀ g₀ c₀ 0 0
  running_start s = record {
    cells = [];
    slots = refl;
    weights = refl;
    slack = s;
    owing = owing_start h.quiet;
    words = words_start room.trail room.names u g₀.w2.now;
    count = refl;
    few = omega arith;
    buffers = record { first = refl; second = refl };
  }

  module _ {bound : ℕ} {g : WorkingGraph} {c p j : ℕ} (s : Running n u bound room g₀ g c p j) where
    same : graph_in g ≡ graph_in g₀
    same = rw (s.slots, s.weights)

    module _ {q : ℕ} (leaf : LeafOf (graph_in g) u c q) where
      pub running_gone : q ≤ p → Running n u bound room g₀ g (c + 1) p j
      running_gone l = record {
        cells = s.cells;
        slots = s.slots;
        weights = s.weights;
        slack = s.slack;
        owing = owing_gone h.graph h.cells s.slack s.owing (rw same at leaf) l;
        words = s.words;
        count = s.count;
        few = s.few;
        buffers = s.buffers;
      }

      pub running_take : q < bound → p < q → j < room.most → {g' : WorkingGraph}
          → Noted (room.trail + j) (room.names + j) u c g g' → Running n u bound room g₀ g' (c + 1) q (j + 1)
      running_take few l m {g'} d = record {
        cells = s.cells ++ c ∷ [];
        slots = d.slots ∙ s.slots;
        weights = d.first ∙ s.weights;
        slack = s.slack;
        owing = owing_take h.graph h.cells s.slack s.owing (rw same at leaf) few l;
        words =
            subst (Words room.trail room.names u (s.cells ++ c ∷ []) g₀.w2.now)
            (ap (λ i. set (set g.w2.now (room.trail + i) (closing 1 u c 0 0 0)) (at_names + (room.names + i))
            (1024 + c)) (sym s.count)
            ∙ sym d.second)
            (words_on s.words (holds_room g.holds).1 (omega (arith, s.count, room.on_trail))
            (omega (arith, s.count, room.in_names)) c);
        count = omega (arith, s.count, length-append s.cells (c ∷ []));
        few = omega arith;
        buffers = buffers_on s.buffers d.buffers;
      }

    pub running_end : {low : ℕ} → low ≤ c → Owes n u room g₀ g (record { steps = j; carried = p; low = low })
    running_end l = record {
      cells = s.cells;
      slots = s.slots;
      weights = s.weights;
      words = s.words;
      first = s.owing.first;
      count = s.count;
      few = s.few;
      graph = s.owing.graph;
      carries = s.owing.carries;
      quiet = λ x m. owing_quiet h.graph h.cells s.slack s.owing x (omega arith);
      buffers = s.buffers;
    }

  -- no cell but u below that of the run is a leaf
  module _ {g g' : WorkingGraph} {r : LeafRun} (s : Owes n u room g₀ g r)
      (d : Changes g.slots (less_all u r.carried (graph_in g)) g g') where
    after : graph_in g' ≡ less_all u r.carried (graph_in g₀)
    after = d.graph ∙ rw (s.slots, s.weights)

    pub run_quiet : degree 1024 (graph_in g') u ≢ 1 → Quiet r.low (graph_in g')
    run_quiet n x l = go (eq_test x u)
      where
        go : {t : Bool} → Test (x ≡ u) (x ≢ u) t → degree 1024 (graph_in g') x ≢ 1
        go (pass q) = rw q n
        go (fail m) = rw after (s.quiet x l m)

    pub run_taken : {low : ℕ} → Quiet low (graph_in g')
        → TakenInSlots n room g₀ g' (record { steps = r.steps; carried = r.carried; low = low })
    run_taken q = record {
      slots = d.slots ∙ s.slots;
      taken = record {
        hub = u;
        cells = s.cells;
        words =
            words_kept g g' s.words d.aside (omega (arith, s.count, s.few, room.on_trail))
            (omega (arith, s.count, s.few, room.in_names));
        first = s.first;
        count = s.count;
        few = s.few;
        graph = after ∙ s.graph;
        carries = s.carries;
        quiet = q;
        buffers = buffers_on s.buffers d.buffers;
      };
    }

pub run_none : {n low : ℕ} {room : Room} {g : WorkingGraph} → Quiet low (graph_in g)
    → TakenInSlots n room g g (record { steps = 0; carried = 0; low = low })
run_none {room = room} {g = g} q = record {
  slots = refl;
  taken = record {
    hub = 0;
    cells = [];
    words = words_start room.trail room.names 0 g.w2.now;
    first = refl;
    count = refl;
    few = omega arith;
    graph = refl;
    carries = refl;
    quiet = q;
    buffers = record { first = refl; second = refl };
  };
}

-- below 0 there is no cell
pub quiet_zero : (w : Points) → Quiet 0 w
quiet_zero w x l = absurd (omega arith)
