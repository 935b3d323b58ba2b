-- The end of a call that brings a pairing back. In order: what the way back leaves in the table (`lifted_there`), which
-- is written with where its pairs came from (`lifted_asks`, `lifted_files`). Assumes nothing.
use mathlib.Core.Path.{◌≡◌, sym, subst, ◌∙◌}
use mathlib.Core.List.{List, [], ◌∷◌, map}
use Prim.Native.Nat.{ℕ, ◌+◌, ◌-◌, ◌≤◌, ◌<◌}
use native.Mathlib.Omega.{arith}
use lib.ListN.{length, take, drop, length-drop}
use lib.Seq.{length-take-le}
use Rattle.buffers.specs.Map.{at_origins}
use Rattle.matching.specs.Pairs.{Pair, Each}
use Rattle.matching.specs.Pairing.{Pairing}
use Rattle.matching.specs.Listed.{filed}
use Rattle.matching.specs.Graph.{Graph}
use Rattle.matching.specs.Steps.{name}
use Rattle.matching.specs.Slip.{lift}
use Rattle.matching.specs.Origin.{Origins, origins_by, origins}
use Rattle.matching.proofs.Sums.{each_map}
use Rattle.matching.proofs.Put.{pair_apart, pair_below}
use Rattle.matching.proofs.Filed.{filed_pairing}
use Rattle.matching.proofs.Reduce.{replay_fits}
use Rattle.matching.proofs.Demand.{slip_lifted}
use Rattle.cellfile.specs.Files.{pairing as pairing_layout, origin_list, write_file}
use Rattle.cellfile.specs.Answers.{Answer}
use Rattle.checks.specs.Answering.{Does}
use Rattle.lifting.specs.Calls.{pair_file}
use Rattle.undoing.specs.Back.{BackThere, Lifted}
use Rattle.partners.specs.Table.{Mates, TableThere, Listed}
use Rattle.cellfile.specs.Words.{file_of, words_file}
use Rattle.lifting.specs.Ending.{Change, back_to, ReturnThere}
use Rattle.lifting.proofs.Pairs.{Eleven, origins_eleven, pairs_file, origins_file}

as_many : {r : ℕ} → at_origins + r - at_origins ≡ r
as_many = omega arith

module _ {n t count : ℕ} {w1 w2 : List ℕ} (h : ReturnThere n t count w1 w2) where
  abbrev b : BackThere t count w1 w2
  b = h.back

  -- The pairing brought back, and where its pairs came from.
  abbrev pub up : List Pair
  up = lift b.w b.steps b.pairs

  abbrev pub from : Origins
  from = origins b.w b.steps b.pairs

  few : n ≤ 1024
  few = omega (arith, h.cells_are, b.cells)

  graph : Graph n b.w
  graph = subst (λ (k : ℕ). Graph k b.w) h.cells_are b.graph

  pairing : Pairing b.w up
  pairing =
      (slip_lifted b.graph b.steps (replay_fits b.graph (map name b.steps) b.steps b.allowed).0
      b.pairs b.pairing).0

  numbers : Eleven (origins b.w b.steps b.pairs)
  numbers = origins_eleven b.w b.steps b.pairs (omega (arith, b.count_is, b.few))

  pub lifted_there : {v1 v2 : List ℕ} → length v1 ≡ length w1 → Lifted t count w1 w2 v2 b
      → TableThere n v1 v2 from up
  lifted_there {v1} {v2} k1 l = record {
    cells = few;
    room1 = omega (arith, b.room1);
    within = each_map (λ x y p. ((pair_below graph x y p).0, (pair_below graph x y p).1, pair_apart graph x y p)) up
        pairing.held;
    once = pairing.once;
    few = numbers;
    mates = subst (λ (o : Origins). Mates v2 (origins_by o b.w 1 b.steps b.pairs) up) h.from_short l;
  }

  -- the words of the pairs and of the records
  module _ {v1 : List ℕ} {r : ℕ} (k : length v1 ≡ length w1) (l : Listed from up v1 r) where
    pub lifted_fit : at_origins + r ≤ length v1
    lifted_fit = omega (arith, b.room1, l.most)

    pub pairs_many : length (take r v1) ≡ r
    pairs_many = length-take-le r v1 (omega (arith, lifted_fit))

    pub records_many : length (take (at_origins + r - at_origins) (drop at_origins v1)) ≡ r
    records_many =
        length-take-le (at_origins + r - at_origins) (drop at_origins v1)
        (omega (arith, lifted_fit, length-drop at_origins v1))
        ∙ as_many

    pub lifted_asks : (n ≤ 1024) × (length (take r v1) ≤ 512)
        × (length (take (at_origins + r - at_origins) (drop at_origins v1)) ≡ length (take r v1))
    lifted_asks = (few, omega (arith, l.most, pairs_many), records_many ∙ sym pairs_many)

  below : Each (λ x y. (x < 1024) × (y < 1024)) (filed up)
  below =
      each_map
      (λ x y p. let q = pair_below graph x y p in (omega (arith, q.0, few), omega (arith, q.1, few)))
      (filed up) (filed_pairing b.w graph.turned up pairing).held

  pub lifted_files : {v1 : List ℕ} {r : ℕ} → Listed from up v1 r → {out orig : Change} {a : Answer}
      → Does []
      ((write_file pairing_layout (file_of pairing_layout n [] (take r v1)), out.0, out.1)
      ∷ (
        write_file origin_list
            (file_of origin_list n [] (take (at_origins + r - at_origins) (drop at_origins v1))),
        orig.0,
        orig.1,
      ) ∷ []) a
      → Does [] (back_to n b.w b.steps b.pairs out orig) a
  lifted_files {v1} {r} l {out} {orig} {a} d =
      subst (λ (file : List ℕ). Does [] ((pair_file n up, out.0, out.1) ∷ (file, orig.0, orig.1) ∷ []) a)
      (origins_file n r (drop at_origins v1) from (filed up) numbers l.origins below)
      (subst (λ (file : List ℕ). Does []
      ((file, out.0, out.1) ∷ (words_file origin_list n r (drop at_origins v1), orig.0, orig.1) ∷ []) a)
      (pairs_file n r v1 (filed up) l.pairs below)
      (subst (λ (k : ℕ). Does []
      ((words_file pairing_layout n r v1, out.0, out.1)
      ∷ (words_file origin_list n k (drop at_origins v1), orig.0, orig.1) ∷ []) a) as_many d))
