-- The leaf step at v with partner u is exact: what it leaves is a graph (`leaf_graph`), its way back puts in just its
-- points (`leaf_lifted`), and its way down loses at most those (`leaf_brought`). Assumes nothing.
use mathlib.Core.Path.{◌≡◌}
use mathlib.Core.Logic.{◌⊎◌, inl, inr, ◌≢◌}
use mathlib.Core.Bool.{Bool, true, false, cond}
use mathlib.Core.List.{List, [], ◌∷◌, ◌++◌}
use Prim.Native.Nat.{ℕ, ◌+◌, ◌*◌, ◌-◌, ◌≤◌, ◌<◌}
use native.Mathlib.Omega.{arith}
use lib.Dec.{eqb}
use Rattle.matching.specs.Pairs.{Pair, Points, sum, Each, touches, hit}
use Rattle.matching.specs.Pairing.{Pairing}
use Rattle.matching.specs.Graph.{Graph}
use Rattle.matching.specs.Steps.{leaf, leafed, undo, down}
use Rattle.matching.proofs.Tests.{Test, pass, fail, eq_test}
use Rattle.matching.proofs.Sums.{times_le, times_one, times_none, sum_add, sum_scale, sum_le_all, sum_eq}
use Rattle.matching.proofs.Sums.{sum_none, each_map, or_turn, touches_test, hit_none, hit_one, hit_some, hit_turned}
use Rattle.matching.proofs.Sums.{once_cons, keep_all}
use Rattle.matching.proofs.Fits.{FitsLeaf}
use Rattle.matching.proofs.Put.{pair_apart}
use Rattle.matching.proofs.Pairing.{trimmed}

-- What the test tells whether a pair a, b touches a cell.
abbrev Touch : ℕ → ℕ → ℕ → Bool → Type 0
Touch c a b t = Test ((a ≡ c) ⊎ (b ≡ c)) ((a ≢ c) × (b ≢ c)) t

module _ {n : ℕ} {w : Points} (g : Graph n w) {u v : ℕ} (fits : FitsLeaf w u v) where
  abbrev after : Points
  after = leafed w u v

  -- ---- the graph after the step

  after_most : (a b : ℕ) → after a b ≤ w a b
  unfolding leafed
  after_most a b = go (touches v a b) (touches u a b)
    where
      go : (s t : Bool) → cond s 0 (cond t (w a b - w u v) (w a b)) ≤ w a b
      go true t = omega arith
      go false true = omega arith
      go false false = omega arith

  pub leaf_graph : Graph n after
  unfolding leafed
  leaf_graph = record {
    turned = λ a b. cc (or_turn (eqb a v) (eqb b v), or_turn (eqb a u) (eqb b u), g.turned a b);
    loop = λ a. omega (arith, after_most a a, g.loop a);
    top = λ a b h. omega (arith, after_most a b, g.top a b h);
  }

  -- ---- what the pairs lose

  -- At most the leaf's points for a cell that is u, ..
  at_leaf : (c : ℕ) → w v c ≤ w u v * hit u v c
  at_leaf c = go (eq_test c u)
    where
      go : {t : Bool} → Test (c ≡ u) (c ≢ u) t → w v c ≤ w u v * hit u v c
      go (pass q) =
          let z : w v c ≡ w u v = cc (g.turned v u) in omega (arith, times_le (w u v) (hit_some u v c (inr q)))
      go (fail k) = omega (arith, fits.alone c k)

  pair_le : (a b : ℕ) → w a b ≤ after a b + w u v * hit u a b
  unfolding leafed
  pair_le a b = go (touches_test v a b) (touches_test u a b)
    where
      lost : (a ≡ v) ⊎ (b ≡ v) → w a b ≤ w u v * hit u a b
      lost (inl e) = rw e (at_leaf b)
      lost (inr e) = rw (e, g.turned a v, hit_turned u a v) (at_leaf a)

      go : {s t : Bool} → Touch v a b s → Touch u a b t
          → w a b ≤ cond s 0 (cond t (w a b - w u v) (w a b)) + w u v * hit u a b
      go (pass p) y = omega (arith, lost p)
      go (fail k) (pass p) = omega (arith, times_le (w u v) (hit_some u a b p))
      go (fail k) (fail l) = omega arith

  -- .. and just those, of a pair that is there after the step; it does not touch v.
  pair_eq : (a b : ℕ) → 0 < after a b → (hit v a b ≡ 0) × (w a b ≡ after a b + w u v * hit u a b)
  unfolding leafed
  pair_eq a b h = go (touches_test v a b) (touches_test u a b) h
    where
      apart : a ≢ b
      apart = pair_apart g a b (omega (arith, after_most a b))

      go : {s t : Bool} → Touch v a b s → Touch u a b t → 0 < cond s 0 (cond t (w a b - w u v) (w a b))
          → (hit v a b ≡ 0) × (w a b ≡ cond s 0 (cond t (w a b - w u v) (w a b)) + w u v * hit u a b)
      go (pass p) y k = let z : ⊥ = omega arith in absurd z
      go (fail f) (pass p) k =
          (hit_none v a b f.0 f.1, omega (arith, times_one (w u v) (hit u a b) (hit_one u a b p apart)))
      go (fail f) (fail l) k =
          (hit_none v a b f.0 f.1, omega (arith, times_none (w u v) (hit u a b) (hit_none u a b l.0 l.1)))

  -- ---- the way down

  pub leaf_brought : (m : List Pair) → Pairing w m
      → Pairing after (down w (leaf u v) m) × (sum w m ≤ sum after (down w (leaf u v) m) + w u v)
  unfolding down
  leaf_brought m p = rw (keep_all m) (let t = trimmed after m p.once in (t.0, omega (arith, t.1, lost)))
    where
      lost : sum w m ≤ sum after m + w u v
      lost =
          omega (
            arith,
            sum_le_all w (λ a b. after a b + w u v * hit u a b) pair_le m,
            sum_add after (λ a b. w u v * hit u a b) m,
            sum_scale (w u v) (hit u) m,
            times_le (w u v) (p.once u),
          )

  -- ---- the way back

  pub leaf_lifted : (m : List Pair) → Pairing after m
      → Pairing w (undo w (leaf u v) m) × (sum w (undo w (leaf u v) m) ≡ sum after m + w u v)
  leaf_lifted m p = rw (keep_all m) (go (eq_test (sum (hit u) m) 0))
    where
      held : Each (λ a b. 0 < w a b) m
      held = each_map (λ a b h. omega (arith, after_most a b)) m p.held

      points : sum w m ≡ sum after m + w u v * sum (hit u) m
      points =
          omega (
            arith,
            sum_eq w (λ a b. after a b + w u v * hit u a b) (λ a b h. (pair_eq a b h).1) m p.held,
            sum_add after (λ a b. w u v * hit u a b) m,
            sum_scale (w u v) (hit u) m,
          )

      go : {t : Bool} → Test (sum (hit u) m ≡ 0) (sum (hit u) m ≢ 0) t
          → Pairing w (cond t ((u, v) ∷ []) [] ++ m) × (sum w (cond t ((u, v) ∷ []) [] ++ m) ≡ sum after m + w u v)
      go (pass z) = (
        record {
          held = (fits.pair, held);
          once = once_cons u v m fits.apart z (sum_none (hit v) (λ a b h. (pair_eq a b h).0) m p.held) p.once;
        },
        omega (arith, points, times_none (w u v) (sum (hit u) m) z),
      )
      go (fail k) = (
        record { held = held; once = p.once },
        omega (arith, points, times_one (w u v) (sum (hit u) m) (omega (arith, p.once u))),
      )
