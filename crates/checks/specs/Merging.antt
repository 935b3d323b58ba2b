-- Pairs looked up among entries, both ascending, so that each is passed once. Inner contracts cite this; laws:
-- proofs/Merge.
use Rattle.std.specs.Prelude.{Option, Some, None, IfSome, ℕ, ◌+◌, ◌<◌, ◌≤◌, ◌≡◌, cond, List, [], ◌∷◌, ltb, eqb, drop}
use Rattle.std.proofs.Math.Option as Maybe
use Rattle.std.proofs.Math.Option.{some, none}
use Rattle.matching.specs.Pairs.{Pair}
use Rattle.matching.specs.Listed.{Entry}
use Rattle.cellfile.specs.Files.{entry_key, pair_key, count_of, entries_all}
use Rattle.cellfile.specs.Reads.{points_top}
use Rattle.checks.specs.declared.Match.{Match}

-- The points of the pair and the entries behind its own; none where it is not among the entries.
abbrev pub sought : List Entry → Pair → Maybe.Option (ℕ × List Entry)
sought [] p = none
sought (e ∷ es) p =
    cond (ltb (pair_key p) (entry_key e)) none (cond (eqb (entry_key e) (pair_key p)) (some (e.2, es)) (sought es p))

-- The points of all the pairs, added to what was had before; none where a pair is missing. Law: `merge_is`.
abbrev pub merge : List Entry → List Pair → ℕ → Maybe.Option ℕ
merge es [] had = some had
merge es (p ∷ ps) had = elim (sought es p) [ none ↦ none | some x ↦ merge x.1 ps (had + x.0) ]

-- What is found, as `sought` says it.
abbrev pub found_in : List Entry → Option Match → Maybe.Option (ℕ × List Entry)
found_in es None = none
found_in es (Some found) = some (found.points, drop found.next es)

-- What a search in a list from place i on answers.
pub record Seeks (s : List ℕ) (i : ℕ) (p : Pair) (r : Option Match) : Type 0 where
  pub is : sought (drop i (entries_all s)) p ≡ found_in (entries_all s) r
  pub fits : IfSome r (λ found. (found.points < points_top) × (found.next ≤ count_of s))
