-- A call after its steps. In order: what they leave is a graph (`after_graph`) of points below the short list's
-- (`after_small`); steps that are allowed on the list leave a trail and a tail (`tail_there`); a pairing of what they
-- leave may be brought back (`return_there`). Assumes nothing.
use mathlib.Core.Path.{◌≡◌, refl, ap, ◌∙◌}
use mathlib.Core.List.{List, map}
use mathlib.Core.Option.{some}
use Prim.Native.Nat.{ℕ, ◌≤◌, ◌<◌}
use native.Mathlib.Omega.{arith}
use lib.ListN.{length}
use Rattle.cellfile.specs.Words.{points_room}
use Rattle.matching.specs.Pairs.{Pair}
use Rattle.matching.specs.Pairing.{Pairing}
use Rattle.matching.specs.Graph.{Graph}
use Rattle.matching.specs.Steps.{Step, name}
use Rattle.matching.specs.Slip.{replay}
use Rattle.matching.specs.Origin.{all_short}
use Rattle.matching.proofs.Tally.{cells_most}
use Rattle.matching.proofs.Reduce.{replay_fits}
use Rattle.matching.proofs.Demand.{slip_graph}
use Rattle.cellfile.specs.Files.{cells_of}
use Rattle.checks.specs.Refusals.{first, lists, list_rows}
use Rattle.starting.specs.Steps.{graph_in}
use Rattle.running.specs.Running.{After}
use Rattle.trail.specs.Trail.{Small}
use Rattle.checks.proofs.Accepted.{accepted_list}
use Rattle.starting.proofs.OnList.{list_graph, left_small, steps_few}
use Rattle.trail.proofs.Trail.{room_on_trail}
use Rattle.partners.specs.Table.{Mates, TrailKept}
use Rattle.undoing.proofs.Marking.{words_same}
use Rattle.lifting.specs.Ending.{ReturnThere}
use Rattle.lifting.specs.Tail.{TrailThere, after, TailThere}

module _ {n t count : ℕ} {w2 : List ℕ} (h : TrailThere n t count w2) where
  pub after_graph : Graph n (after h)
  after_graph =
      slip_graph h.graph h.steps (replay_fits h.graph (map name h.steps) h.steps h.allowed).0

  pub after_small : (a b : ℕ) → after h a b < points_room
  after_small a b = omega (arith, h.small (map name h.steps) h.steps h.allowed a b)

  -- The pairing m in the table, the trail as it was.
  abbrev pub return_there : (w1 v2 : List ℕ) (m : List Pair) → 8192 ≤ length w1 → 8192 ≤ length w2
      → length v2 ≡ length w2 → TrailKept w2 v2 → Pairing (after h) m → Mates v2 all_short m
      → ReturnThere n t count w1 v2
  return_there w1 v2 m room1 room2 same kept is mates = record {
    room2 = omega (arith, room2, same);
    back = record {
      room1 = room1;
      most = h.most;
      n = n;
      w = h.w;
      steps = h.steps;
      from = all_short;
      pairs = m;
      count_is = h.count_is;
      few = omega (arith, h.few);
      cells = h.cells;
      graph = h.graph;
      allowed = h.allowed;
      small = h.small;
      trail = words_same 0 t w2 v2 kept (omega (arith, h.most)) room2 (omega (arith, room2, same)) ∙ h.trail;
      pairing = is;
      mates = mates;
    };
    cells_are = refl;
    from_short = refl;
  }

module _ (list : List ℕ) (ok : first (list_rows lists list) ≡ 0) (ss : List Step)
    (stand : replay (cells_of list) (graph_in list) (map name ss) ≡ some ss)
    {n slots on_trail points steps : ℕ} {w1 w2 : List ℕ} (cells : n ≡ cells_of list)
    (a : After (graph_in list) ss slots on_trail points steps w1 w2) where
  pub few : n ≤ 1024
  few = omega (arith, cells, (accepted_list list ok).0)

  pub graph : Graph n (graph_in list)
  graph = rw cells (list_graph list ok)

  pub allowed : replay n (graph_in list) (map name ss) ≡ some ss
  allowed = ap (λ (i : ℕ). replay i (graph_in list) (map name ss)) cells ∙ stand

  pub small : Small n (graph_in list)
  small = rw cells (left_small list ok)

  pub most : on_trail ≤ 4096
  most =
      omega (
        arith,
        a.trail_length,
        room_on_trail graph ss (replay_fits graph (map name ss) ss allowed).0,
        cells_most n (graph_in list),
        few,
      )

  abbrev pub tail_there : TailThere n slots on_trail steps w1 w2
  tail_there = record {
    on = record {
      w = graph_in list;
      steps = ss;
      count_is = a.count;
      few = omega (arith, a.count, steps_few list ok (map name ss) ss stand);
      cells = few;
      graph = graph;
      allowed = allowed;
      small = small;
      most = most;
      trail = a.trail;
    };
    holds = a.holds;
    left_is = a.graph;
  }
