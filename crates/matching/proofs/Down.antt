-- The way down: a part stands in for the pairs of a pairing that touch the inner cells of a row (`segment_brought`).
-- Assumes nothing.
use mathlib.Core.Path.{◌≡◌}
use mathlib.Core.Logic.{inl, inr, ◌≢◌}
use mathlib.Core.Bool.{true, not, ◌||◌}
use mathlib.Core.List.{List, ◌++◌}
use Prim.Native.Nat.{ℕ, ◌+◌, ◌≤◌, ◌<◌}
use native.Mathlib.Omega.{arith}
use Rattle.matching.specs.Lists.{mem}
use Rattle.matching.specs.Pairs.{Pair, Points, sum, Each, keep, hit}
use Rattle.matching.specs.Pairing.{Once, Pairing}
use Rattle.matching.specs.Graph.{Graph}
use Rattle.matching.specs.Best.{H, walk}
use Rattle.matching.specs.Steps.{outside}
use Rattle.matching.proofs.Tests.{not_test, holds}
use Rattle.matching.proofs.Members.{Meets, Away, meets_test}
use Rattle.matching.proofs.Sums.{In, sum_append, sum_le, sum_keep, each_keep, in_turned}
use Rattle.matching.proofs.Pairing.{present, trimmed}
use Rattle.matching.proofs.Best.{best_most}
use Rattle.matching.proofs.Fits.{Segment}
use Rattle.matching.proofs.Segment.{away_off}

module _ {n : ℕ} {w : Points} (g : Graph n w) {u : ℕ} {inner : List ℕ} {v : ℕ} (s : Segment w u inner v)
    (m : List Pair) (p : Pairing w m) where
  abbrev row : List Pair
  row = walk u inner v

  -- the pairs that touch inner cells, and the others
  abbrev in_part : List Pair
  in_part = keep (λ a b. mem a inner || mem b inner) m

  abbrev rest : List Pair
  rest = outside inner m

  parts : (f : Points) → sum f in_part + sum f rest ≡ sum f m
  parts f = sum_keep (λ a b. mem a inner || mem b inner) f m

  rest_away : Each (Away inner) rest
  rest_away =
      each_keep (λ a b. not (mem a inner || mem b inner)) (λ a b q. holds (not_test (meets_test inner a b))) m p.held

  pub outside_once : Once rest
  outside_once c = omega (arith, parts (hit c), p.once c)

  pub outside_off : (c : ℕ) → mem c inner ≡ true → sum (hit c) rest ≡ 0
  outside_off = away_off inner rest rest_away

  -- The first are pairs of the row: they have no more points than its best that leaves those cells free that the
  -- others touch.
  in_most : (off : List ℕ) → ((c : ℕ) → mem c off ≡ true → sum (hit c) rest ≢ 0) → sum w in_part ≤ H w off row
  in_most off taken = best_most w g.turned row off in_part record {
    among = each_keep (λ a b. mem a inner || mem b inner) in_row m p.held;
    once = λ c. omega (arith, parts (hit c), p.once c);
    unpaired = λ c h. omega (arith, taken c h, parts (hit c), p.once c);
  }
    where
      at : (a b : ℕ) → 0 < w a b → Meets inner a b → In row a b
      at a b h (inl q) = s.closed a b q h
      at a b h (inr q) = in_turned row b a (s.closed b a q (omega (arith, g.turned a b)))

      in_row : (a b : ℕ) → 0 < w a b → mem a inner || mem b inner ≡ true → In row a b
      in_row a b h k = at a b h (holds (meets_test inner a b) k)

  -- The way down to the graph `after` a step that carries k, by which no pair away from the inner cells loses points.
  pub segment_brought : (after : Points) → ((a b : ℕ) → Away inner a b → w a b ≤ after a b)
      → (part : List Pair) → Once (part ++ rest)
      → (off : List ℕ) → ((c : ℕ) → mem c off ≡ true → sum (hit c) rest ≢ 0)
      → (k : ℕ) → H w off row ≤ sum after part + k
      → Pairing after (present after (part ++ rest)) × (sum w m ≤ sum after (present after (part ++ rest)) + k)
  segment_brought after grown part once off taken k worth =
      let t = trimmed after (part ++ rest) once in
      let others = sum_le w after grown rest rest_away in
      (t.0, omega (arith, t.1, parts w, sum_append after part rest, in_most off taken, others))
