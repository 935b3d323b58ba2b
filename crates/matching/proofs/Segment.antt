-- What ring and chain share: a row of inner cells between u and v all of whose pairs are in the row. In order: pairs
-- away from the inner cells; the row's cells are below n; the best of the row as a part of a pairing; the way back, by
-- which a best of the row stands in for the pairs that go (`segment_lifted`). The way down is in proofs/Down.
-- Assumes nothing.
use mathlib.Core.Path.{◌≡◌, sym, subst}
use mathlib.Core.Logic.{◌⊎◌, inl, inr, ◌≢◌}
use mathlib.Core.Bool.{Bool, true, false}
use mathlib.Core.List.{List, [], ◌∷◌, ◌++◌}
use Prim.Native.Nat.{ℕ, ◌+◌, ◌≤◌, ◌<◌}
use native.Mathlib.Omega.{arith}
use Rattle.matching.specs.Lists.{mem}
use Rattle.matching.specs.Pairs.{Pair, Points, sum, Each, hit, same}
use Rattle.matching.specs.Pairing.{Once, Pairing}
use Rattle.matching.specs.Graph.{Graph}
use Rattle.matching.specs.Best.{H, best, tie, walk}
use Rattle.matching.proofs.Tests.{Test, pass, fail, is_test, eq_test, or_test, fails}
use Rattle.matching.proofs.Members.{Away, no_mem, mem_apart, mem_more}
use Rattle.matching.proofs.Pairs.{Same, same_test}
use Rattle.matching.proofs.Sums.{Turned, sum_append, sum_eq, sum_none, each_append, each_map, hit_none}
use Rattle.matching.proofs.Sums.{hit_turned}
use Rattle.matching.proofs.Best.{best_h, best_each, best_off, best_once}
use Rattle.matching.proofs.Path.{walk_each}
use Rattle.matching.proofs.Fits.{Segment}
use Rattle.matching.proofs.Put.{pair_apart, pair_below}

-- ---- pairs away from some cells

-- They do not hit the cells.
pub away_off : (cs : List ℕ) (m : List Pair) → Each (Away cs) m → (c : ℕ) → mem c cs ≡ true → sum (hit c) m ≡ 0
away_off cs m p c h = sum_none (hit c) (λ a b q. hit_none c a b (past a q.0) (past b q.1)) m p
  where
    past : (x : ℕ) → mem x cs ≡ false → x ≢ c
    past x k e = mem_apart c x cs h k (sym e)

-- None is the pair x, z, where z is one of the cells.
pub away_pair : (x z : ℕ) (cs : List ℕ) → mem z cs ≡ true → (a b : ℕ) → Away cs a b → same x z a b ≡ false
away_pair x z cs h a b p = fails (same_test x z a b) clash
  where
    clash : Same x z a b → ⊥
    clash (inl e) = mem_apart z b cs h p.1 (sym e.1)
    clash (inr e) = mem_apart z a cs h p.0 (sym e.0)

-- ---- the row

-- What holds of both cells of each pair of a walk holds of its cells.
walk_cells : (P : ℕ → Type 0) (cs : List ℕ) (u v : ℕ) → Each (λ a b. P a × P b) (walk u cs v)
    → P u × P v × ((c : ℕ) → mem c cs ≡ true → P c)
walk_cells P [] u v p = (p.0.0, p.0.1, λ c. no_mem c)
walk_cells P (x ∷ cs) u v p = let r = walk_cells P cs x v p.1 in (p.0.0, r.1, mem_more P x cs r.0 r.2)

-- A pair that a step leaves as it was.
abbrev pub Kept : List ℕ → Points → Points → ℕ → ℕ → Type 0
Kept inner w after a b = Away inner a b × (w a b ≡ after a b) × (0 < after a b)

-- The part put in leaves the cell free, or the pairs that go touch it.
abbrev pub Settled : List ℕ → (Points → ℕ) → ℕ → Type 0
Settled off gone c = (mem c off ≡ true) ⊎ (1 ≤ gone (hit c))

module _ {n : ℕ} {w : Points} (g : Graph n w) {u : ℕ} {inner : List ℕ} {v : ℕ} (s : Segment w u inner v) where
  abbrev row : List Pair
  row = walk u inner v

  pub row_below : (u < n) × (v < n) × ((c : ℕ) → mem c inner ≡ true → c < n)
  row_below = walk_cells (λ c. c < n) inner u v (each_map (pair_below g) row s.live)

  part_once : (off : List ℕ) → Once (best tie w off row)
  part_once off = best_once tie w off row (each_map (pair_apart g) row s.live)

  part_off : (off : List ℕ) (c : ℕ) → mem c inner ≡ false → (u ≢ c) × (v ≢ c) → sum (hit c) (best tie w off row) ≡ 0
  part_off off c h e =
      sum_none (hit c) (λ a b q. hit_none c a b q.0 q.1) (best tie w off row)
      (best_each (λ a b. (a ≢ c) × (b ≢ c)) tie w off row
      (walk_each (λ x. x ≢ c) inner u v e.0 e.1 (λ x k. mem_apart x c inner k h)))

  -- The way back of a pairing m of the graph `after` the step, which carries k. `gone` sums over the pairs of m that
  -- go, whatever is summed.
  pub segment_lifted : (after : Points) → Turned after → (m rest : List Pair) → Once m → Each (Kept inner w after) rest
      → (gone : Points → ℕ) → ((f : Points) → Turned f → sum f m ≡ gone f + sum f rest)
      → (off : List ℕ) → Settled off gone u → Settled off gone v
      → (k : ℕ) → H w off row ≡ gone after + k
      → Pairing w (best tie w off row ++ rest) × (sum w (best tie w off row ++ rest) ≡ sum after m + k)
  segment_lifted after turned m rest o kept gone parts off at_u at_v k worth = (
    record { held = each_append (λ a b. 0 < w a b) part rest part_live rest_live; once = once },
    omega (arith, sum_append w part rest, best_h tie w off row, same_points, parts after turned),
  )
    where
      part : List Pair
      part = best tie w off row

      part_live : Each (λ a b. 0 < w a b) part
      part_live = best_each (λ a b. 0 < w a b) tie w off row s.live

      rest_live : Each (λ a b. 0 < w a b) rest
      rest_live = each_map (λ a b q. omega arith) rest kept

      same_points : sum w rest ≡ sum after rest
      same_points = sum_eq w after (λ a b q. q.1) rest kept

      once : Once (part ++ rest)
      once c = go (is_test (mem c inner)) (or_test (eq_test u c) (eq_test v c))
        where
          both : sum (hit c) (part ++ rest) ≡ sum (hit c) part + sum (hit c) rest
          both = sum_append (hit c) part rest

          few : gone (hit c) + sum (hit c) rest ≤ 1
          few = omega (arith, parts (hit c) (hit_turned c), o c)

          end : (u ≡ c) ⊎ (v ≡ c) → Settled off gone c
          end (inl e) = subst (Settled off gone) e at_u
          end (inr e) = subst (Settled off gone) e at_v

          at_end : Settled off gone c → sum (hit c) (part ++ rest) ≤ 1
          at_end (inl h) = omega (arith, both, few, best_off tie w off row c h)
          at_end (inr h) = omega (arith, both, few, part_once off c)

          go : {i e : Bool} → Test (mem c inner ≡ true) (mem c inner ≡ false) i
              → Test ((u ≡ c) ⊎ (v ≡ c)) ((u ≢ c) × (v ≢ c)) e → sum (hit c) (part ++ rest) ≤ 1
          go (pass h) y =
              omega (arith, both, part_once off c, away_off inner rest (each_map (λ a b q. q.0) rest kept) c h)
          go (fail h) (pass e) = at_end (end e)
          go (fail h) (fail e) = omega (arith, both, few, part_off off c h e)
