-- The pairs left in the slots. Inner contracts cite this.
use Rattle.std.specs.Prelude.{◌≡◌, List, ℕ, ◌≤◌, ◌<◌, length, get_or}
use Rattle.cellfile.specs.Words.{points_room}
use Rattle.buffers.specs.Map.{unit}
use Rattle.slots.specs.Slots.{graph_of, low_of, high_of}
use Rattle.matching.specs.Graph.{Graph}

-- What the first buffer alone says of e slots: their cells, that at most one slot of a pair is live, points that fit a
-- row word.
pub record Pairs (e : ℕ) (w1 : List ℕ) : Type 0 where
  pub room : 8192 ≤ length w1
  pub most : e ≤ 4096
  pub cells : (i : ℕ) → i < e → (low_of w1 i < high_of w1 i) × (high_of w1 i < 1024)
  pub once : (i : ℕ) → i < e → graph_of i w1 (low_of w1 i) (high_of w1 i) ≡ 0
  pub fits : (i : ℕ) → i < e → get_or w1 i 0 < unit

-- e slots hold a graph of n cells, with points that fit a short list.
pub record PairsLeft (n e : ℕ) (w1 : List ℕ) : Type 0 where
  pub cells : n ≤ 1024
  pub pairs : Pairs e w1
  pub graph : Graph n (graph_of e w1)
  pub small : (a b : ℕ) → graph_of e w1 a b < points_room
