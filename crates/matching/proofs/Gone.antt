-- After a ring or a chain step that fits, all its inner cells but one have no pair left (`step_gone`); a leaf has no
-- inner cells. In order: the cells of a list but one; a row whose inner cells lose all their pairs, for new pairs
-- between its ends and one inner cell; the steps. Assumes nothing.
use mathlib.Core.Path.{◌≡◌, refl, sym}
use mathlib.Core.Logic.{◌≢◌}
use mathlib.Core.Bool.{Bool, true, false, not, ◌&&◌}
use mathlib.Core.List.{List}
use Prim.Native.Nat.{ℕ, ◌+◌, ◌≤◌, ◌<◌}
use native.Mathlib.Omega.{arith}
use lib.Dec.{eqb}
use lib.ListN.{length}
use Rattle.matching.specs.Lists.{mem, distinct}
use Rattle.matching.specs.Pairs.{Points, ι}
use Rattle.matching.specs.Graph.{Graph, dropped, cells_left}
use Rattle.matching.specs.Steps.{Step, leaf, ring, chain, ringed, chained, apply, inside}
use Rattle.matching.proofs.Tests.{Test, pass, fail, is_test, eq_test, not_test, and_test, holds}
use Rattle.matching.proofs.Lists.{count, mem_test, distinct_test}
use Rattle.matching.proofs.Members.{mem_apart}
use Rattle.matching.proofs.Sums.{ι_not}
use Rattle.matching.proofs.Upto.{sum_to, sum_to_le, sum_to_add, sum_to_most, sum_to_count}
use Rattle.matching.proofs.Fits.{Segment, Fits}
use Rattle.matching.proofs.Put.{pair_below}
use Rattle.matching.proofs.Tally.{ι_most, Live, there, times, cells_gone}
use Rattle.matching.proofs.Count.{walk_live, new, after_cell, ring_after, chain_after, step_fewer}

-- Whether the cell is one of some cells, but not z; they are all of the cells but one.
abbrev others : ℕ → List ℕ → ℕ → Bool
others z cs c = mem c cs && not (eqb z c)

others_most : (n z : ℕ) (cs : List ℕ) → distinct cs ≡ true → ((c : ℕ) → mem c cs ≡ true → c < n)
    → length cs ≤ sum_to n (λ i. ι (others z cs i)) + 1
others_most n z cs d low =
    omega (
      arith,
      sum_to_count n cs low,
      sum_to_le n (λ i. count i cs) (λ i. ι (others z cs i) + ι (eqb z i)) (λ i. at i (mem_test i cs) (eqb z i)),
      sum_to_add n (λ i. ι (others z cs i)) (λ i. ι (eqb z i)),
      sum_to_most z (λ i. ι (eqb z i)) (λ i e. ι_not z i (λ q. e (sym q))) n,
      ι_most (eqb z z),
    )
  where
    at : (i : ℕ) → {s : Bool} → Test (0 < count i cs) (count i cs ≡ 0) s → (t : Bool)
        → count i cs ≤ ι (s && not t) + ι t
    at i (pass h) true = omega (arith, holds (distinct_test cs) d i)
    at i (pass h) false = omega (arith, holds (distinct_test cs) d i)
    at i (fail h) t = omega arith

-- The inner cells lose their pairs, and there are new ones only between the ends and z.
module _ {n : ℕ} {w : Points} (g : Graph n w) {u v : ℕ} {inner : List ℕ} (s : Segment w u inner v)
    (z : ℕ) (zin : mem z inner ≡ true)
    (w' : Points) (after : (a b : ℕ) → there w' a b ≤ times (new u v z) a b + there (dropped inner w) a b) where
  row_gone : length inner + cells_left n w' ≤ cells_left n w + 1
  row_gone =
      omega (
        arith,
        others_most n z inner s.apart (λ c m. (pair_below g c (live.2 c m).0 (live.2 c m).1).0),
        cells_gone g w'
            (after_cell g s z zin w' after (Live w) live.0 live.1 (live.2 z zin) (λ a b o h. (b, h)))
            (others z inner) (λ c h. lost c (holds (and_test (is_test (mem c inner)) (not_test (eq_test z c))) h)),
      )
    where
      live : Live w u × Live w v × ((c : ℕ) → mem c inner ≡ true → Live w c)
      live = walk_live g u inner v s.live

      lost : (c : ℕ) → (mem c inner ≡ true) × (z ≢ c) → Live w c × ((x : ℕ) → 0 < w' c x → ⊥)
      lost c (m, d) = (
        live.2 c m,
        λ x h. after_cell g s z zin w' after (λ y. y ≢ c) (away u s.first_off) (away v s.last_off) d
            (λ a b o k. away a o) c x h refl,
      )
        where
          away : (a : ℕ) → mem a inner ≡ false → a ≢ c
          away a o e = mem_apart c a inner m o (sym e)

pub step_gone : {n : ℕ} {w : Points} → Graph n w → (s : Step) → Fits w s
    → length (inside s) + cells_left n (apply w s) ≤ cells_left n w + 1
step_gone g (leaf u v) f = omega (arith, step_fewer g (leaf u v) f)
step_gone {w = w} g (ring u z inner) f = row_gone g f.0 z f.1 (ringed w u z inner) (ring_after w u z inner)
step_gone {w = w} g (chain u v z inner) f =
    row_gone g f.0 z f.1 (chained w u v z inner) (chain_after w u v z inner)
