-- The merge of a list's entries and a pairing's pairs from places i and j on, as the loop over the pairs meets them.
use Prim.Native.Nat.{ℕ, ◌+◌, ◌<◌, ◌≤◌}
use mathlib.Core.Path.{◌≡◌}
use mathlib.Core.List.{List}
use native.Mathlib.Omega.{arith}
use lib.ListN.{drop, drop_of_length-le}
use Rattle.cellfile.specs.Files.{count_of, entries_all, pairs_of}
use Rattle.cellfile.specs.Reads.{PairRead}
use Rattle.cellfile.specs.declared.decode.PairEntry.{PairEntry}
use Rattle.cellfile.proofs.Walk.{pairs_count, pair_next}
use Rattle.checks.specs.Merging.{merge, Seeks}
use Rattle.checks.specs.declared.Match.{Match}
use Rattle.weighing.specs.Merging.{merged}
use Rattle.std.specs.Prelude.{Result, Ok, Err, None, Some}
use Rattle.checks.specs.declared.Refusal.{Refusal}
use Rattle.checks.specs.declared.Refusal.TheVariants.{NoPairing}

abbrev pub merged_from : List ℕ → List ℕ → ℕ → ℕ → ℕ → Result ℕ Refusal
merged_from list other i j had = merged (drop i (entries_all list)) (drop j (pairs_of other)) had

module _ (list other : List ℕ) (i j had : ℕ) where
  pub merged_end : count_of other ≤ j → merged_from list other i j had ≡ Ok had
  merged_end l = rw (drop_of_length-le (pairs_of other) {i = j} (omega (arith, pairs_count other)))

  module _ (l : j < count_of other) (p : PairEntry) (r : PairRead other j p) where
    pub merged_out : Seeks list i (p.a, p.b) None → merged_from list other i j had ≡ Err NoPairing
    merged_out s = rw (pair_next other j p l r, s.is, merge)

    pub merged_next : (f : Match) → Seeks list i (p.a, p.b) (Some f)
        → merged_from list other i j had ≡ merged_from list other f.next (j + 1) (had + f.points)
    merged_next f s = rw (pair_next other j p l r, s.is, merge)
