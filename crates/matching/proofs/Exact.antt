-- A step that fits is exact (`step_exact`): it leaves a graph (`step_graph`), its way back puts in just what it carries
-- (`step_lifted`), and its way down loses at most that (`step_brought`); fewer cells have pairs after it, and there are
-- no more pairs.
use mathlib.Core.Path.{◌≡◌}
use mathlib.Core.List.{List}
use Prim.Native.Nat.{ℕ, ◌+◌, ◌≤◌}
use Rattle.matching.specs.Pairs.{Pair, Points, sum}
use Rattle.matching.specs.Pairing.{Pairing}
use Rattle.matching.specs.Graph.{Graph}
use Rattle.matching.specs.Steps.{Step, leaf, ring, chain, apply, carry, undo, down}
use Rattle.matching.specs.Demand.{Exact}
use Rattle.matching.proofs.Fits.{Fits}
use Rattle.matching.proofs.Leaf.{leaf_graph, leaf_lifted, leaf_brought}
use Rattle.matching.proofs.Ring.{ring_graph, ring_lifted, ring_brought}
use Rattle.matching.proofs.Chain.{chain_graph, chain_lifted, chain_brought}
use Rattle.matching.proofs.Count.{step_fewer, step_no_more}

module _ {n : ℕ} {w : Points} (g : Graph n w) where
  pub step_graph : (s : Step) → Fits w s → Graph n (apply w s)
  step_graph (leaf u v) f = leaf_graph g f
  step_graph (ring u z inner) f = ring_graph g f.0 z f.1
  step_graph (chain u v z inner) f = chain_graph g f.0 z f.1 f.2

  pub step_lifted : (s : Step) → Fits w s → (m : List Pair) → Pairing (apply w s) m
      → Pairing w (undo w s m) × (sum w (undo w s m) ≡ sum (apply w s) m + carry w s)
  step_lifted (leaf u v) f = leaf_lifted g f
  step_lifted (ring u z inner) f = ring_lifted g f.0 z f.1
  step_lifted (chain u v z inner) f = chain_lifted g f.0 z f.1 f.2

  pub step_brought : (s : Step) → Fits w s → (m : List Pair) → Pairing w m
      → Pairing (apply w s) (down w s m) × (sum w m ≤ sum (apply w s) (down w s m) + carry w s)
  step_brought (leaf u v) f = leaf_brought g f
  step_brought (ring u z inner) f = ring_brought g f.0 z f.1
  step_brought (chain u v z inner) f = chain_brought g f.0 z f.1 f.2

  pub step_exact : (s : Step) → Fits w s → Exact n w (apply w s) (carry w s) (undo w s) (down w s)
  step_exact s f = record {
    graph = step_graph s f;
    lifted = step_lifted s f;
    brought = step_brought s f;
    fewer = step_fewer g s f;
    no_more = step_no_more g s f;
  }
