-- What a step and a slip must do: nothing is gained or lost on the way back, and nothing is out of reach on the way
-- down. Laws: proofs/Exact (`step_exact`), proofs/Demand (`no_gain_no_loss`).
use Rattle.std.specs.Prelude.{◌≡◌, List, ℕ, ◌+◌, ◌≤◌, ◌<◌, length}
use Rattle.matching.specs.Pairs.{Pair, Points, sum}
use Rattle.matching.specs.Pairing.{Pairing, Heaviest}
use Rattle.matching.specs.Listed.{Entry, joined, listed, points, short_list, filed}
use Rattle.matching.specs.Graph.{Graph, cells_left}
use Rattle.matching.specs.Steps.{Step}
use Rattle.matching.specs.Slip.{left, carried, lift}

-- An exact step from the graph w to w' that carries k: the way back `up` of any pairing is a pairing with exactly k
-- points more; the way down of any pairing has at most k points less; w' is a graph, in which fewer cells have pairs,
-- and there are no more pairs.
pub record Exact (n : ℕ) (w w' : Points) (k : ℕ) (up down : List Pair → List Pair) : Type 0 where
  pub graph : Graph n w'
  pub lifted : (m : List Pair) → Pairing w' m → Pairing w (up m) × (sum w (up m) ≡ sum w' m + k)
  pub brought : (m : List Pair) → Pairing w m → Pairing w' (down m) × (sum w m ≤ sum w' (down m) + k)
  pub fewer : cells_left n w' < cells_left n w
  pub no_more : length (short_list n w') ≤ length (short_list n w)

-- Demand 3 over graphs (of files: crate `claims`, specs/Demand), of the accepted list `store` of n cells and the steps
-- of a slip that is allowed on it. The lifted pairing is a pairing of the store's entries with exactly the short
-- pairing's points and the carried points; a heaviest pairing of the store has exactly the points of a heaviest one of
-- the short list and the carried points; a pairing that is d points below the heaviest short one is lifted to one that
-- is d points below the heaviest of the store; the slip has at most n steps.
module _ (n : ℕ) (store : List Entry) (ss : List Step) where
  abbrev pub short : Points
  short = left (listed store) ss

  abbrev pub back : List Pair → List Pair
  back m = filed (lift (listed store) ss m)

  pub record NoGainNoLoss : Type 0 where
    pub exact : (m : List Pair) → Pairing short m
        → Pairing (joined store) (back m) × (points store (back m) ≡ sum short m + carried (listed store) ss)
    pub heaviest : (a b : List Pair) → Heaviest (joined store) (listed store) a → Heaviest short short b
        → points store a ≡ sum short b + carried (listed store) ss
    pub level : (a b m : List Pair) (d : ℕ) → Heaviest (joined store) (listed store) a → Heaviest short short b
        → Pairing short m → sum short b ≡ sum short m + d → points store a ≡ points store (back m) + d
    pub steps : length ss ≤ n
