-- The partner of a cell in a pairing, as a number. In order: 0 for none and what is said of the partner otherwise
-- (`seen_none`, `seen_of`), so the partner's number and 1 (`partner_none`, `partner_of`); a pair that is held, and the
-- others; which of two pairings comes first by its partners, with the same pairs put in (`first_more`). Assumes
-- nothing.
use mathlib.Core.Path.{◌≡◌, refl, ap, ap₂, ◌∙◌}
use mathlib.Core.Logic.{◌⊎◌, inl, inr, ◌≢◌}
use mathlib.Core.Bool.{Bool, true, false, cond}
use mathlib.Core.List.{List, [], ◌∷◌}
use Prim.Native.Nat.{ℕ, suc, ◌+◌, ◌≤◌, ◌<◌}
use native.Mathlib.Omega.{arith}
use lib.Dec.{eqb}
use borrow.Author.Tests.{eq-eqb, ne_eqb}
use Rattle.matching.specs.Pairs.{Pair, Points, ι, sum, Each, hit, like, without}
use Rattle.matching.specs.Pairing.{Once, seen, partner, First}
use Rattle.matching.proofs.Tests.{Test, pass, fail, eq_test}
use Rattle.matching.proofs.Pairs.{Same, Apart, same_test}
use Rattle.matching.proofs.Sums.{times_one, sum_apart, sum_none, each_zero, hit_none, like_self, like_turned}
use Rattle.matching.proofs.Sums.{like_once, like_hit}

-- ---- what is seen of the partner of a cell

module _ (f : ℕ → ℕ) (c : ℕ) where
  pub seen_left : (b : ℕ) → seen f c c b ≡ f b
  unfolding seen
  seen_left b = rw (eq-eqb c c refl)

  pub seen_turned : (a b : ℕ) → seen f c a b ≡ seen f c b a
  unfolding seen
  seen_turned a b = go (eq_test a c) (eq_test b c)
    where
      go : {s t : Bool} → Test (a ≡ c) (a ≢ c) s → Test (b ≡ c) (b ≢ c) t
          → cond s (f b) (cond t (f a) 0) ≡ cond t (f a) (cond s (f b) 0)
      go (pass p) (pass q) = rw (p, q)
      go (pass p) (fail q) = refl
      go (fail p) (pass q) = refl
      go (fail p) (fail q) = refl

  pub seen_right : (a : ℕ) → seen f c a c ≡ f a
  seen_right a = seen_turned a c ∙ seen_left a

  pub seen_off : (a b : ℕ) → a ≢ c → b ≢ c → seen f c a b ≡ 0
  unfolding seen
  seen_off a b p q = rw (ne_eqb a c p, ne_eqb b c q)

  missed : (a b : ℕ) → hit c a b ≡ 0 → seen f c a b ≡ 0
  unfolding seen hit
  missed a b = go (eqb a c) (eqb b c)
    where
      go : (s t : Bool) → ι s + ι t ≡ 0 → cond s (f b) (cond t (f a) 0) ≡ 0
      go true t h = (let z : ⊥ = omega arith in absurd z)
      go false true h = (let z : ⊥ = omega arith in absurd z)
      go false false h = refl

  pub seen_none : (m : List Pair) → sum (hit c) m ≡ 0 → sum (seen f c) m ≡ 0
  seen_none m h = sum_none (seen f c) missed m (each_zero (hit c) m h)

pub partner_none : (c : ℕ) (m : List Pair) → sum (hit c) m ≡ 0 → partner c m ≡ 0
partner_none c m h = seen_none suc c m h

-- A cell is free, or in a pair.
pub partner_view : (c : ℕ) (m : List Pair) → (sum (hit c) m ≡ 0) ⊎ ((b : ℕ) × (1 ≤ sum (like c b) m))
partner_view c [] = inl refl
partner_view c (e ∷ m) = go (eq_test e.0 c) (eq_test e.1 c) (partner_view c m)
  where
    go : {s t : Bool} → Test (e.0 ≡ c) (e.0 ≢ c) s → Test (e.1 ≡ c) (e.1 ≢ c) t
        → (sum (hit c) m ≡ 0) ⊎ ((b : ℕ) × (1 ≤ sum (like c b) m))
        → (sum (hit c) (e ∷ m) ≡ 0) ⊎ ((b : ℕ) × (1 ≤ sum (like c b) (e ∷ m)))
    go (pass p) y i = inr (e.1, omega (arith, ap (λ x. like c e.1 x e.1) p, like_self c e.1))
    go (fail p) (pass q) i = inr (e.0, omega (arith, like_turned c e.0 e.0 e.1, at, like_self c e.0))
      where
        at : like c e.0 e.1 e.0 ≡ like c e.0 c e.0
        at = ap (λ x. like c e.0 x e.0) q
    go (fail p) (fail q) (inl i) = inl (omega (arith, hit_none c e.0 e.1 p q))
    go (fail p) (fail q) (inr i) = inr (i.0, omega (arith, i.1))

-- A pairing that holds c, b: its sums are those of the pair and of the others, and the others leave c and b free.
module _ (c b : ℕ) (m : List Pair) (o : Once m) (h : 1 ≤ sum (like c b) m) where
  pub held_sum : (f : Points) → ((x y : ℕ) → f x y ≡ f y x) → sum f m ≡ f c b + sum f (without c b m)
  held_sum f t =
      (let k : sum (like c b) m ≡ 1 = omega (arith, like_once c b m o) in
      omega (arith, sum_apart f t c b m, times_one (f c b) (sum (like c b) m) k))

  pub held_free : (d : ℕ) → (c ≡ d) ⊎ (b ≡ d) → sum (hit d) (without c b m) ≡ 0
  held_free d q = omega (arith, o d, like_hit c b m d q)

  pub seen_of : (f : ℕ → ℕ) → sum (seen f c) m ≡ f b
  seen_of f =
      (let z = seen_none f c (without c b m) (held_free c (inl refl)) in
      omega (arith, held_sum (seen f c) (seen_turned f c), seen_left f c b))

  pub partner_of : partner c m ≡ suc b
  partner_of = seen_of suc

-- A pair that is held has points.
pub held_points : (w : Points) → ((a b : ℕ) → w a b ≡ w b a) → (x y : ℕ) (m : List Pair) → Each (λ a b. 0 < w a b) m
    → 1 ≤ sum (like x y) m → 0 < w x y
unfolding like
held_points w t x y [] p h = (let z : ⊥ = omega arith in absurd z)
held_points w t x y (e ∷ m) p h = go (same_test x y e.0 e.1) h (held_points w t x y m p.1)
  where
    go : {s : Bool} → Test (Same x y e.0 e.1) (Apart x y e.0 e.1) s → 1 ≤ ι s + sum (like x y) m
        → (1 ≤ sum (like x y) m → 0 < w x y) → 0 < w x y
    go (pass (inl q)) h i = omega (arith, p.0, ap₂ w q.0 q.1)
    go (pass (inr q)) h i = omega (arith, p.0, ap₂ w q.0 q.1, t x y)
    go (fail n) h i = i (omega arith)

-- ---- which pairing comes first

-- with the same pairs put in
pub first_more : (f : ℕ → ℕ) (s m s' m' : List Pair) → ((d : ℕ) → partner d s' ≡ f d + partner d s)
    → ((d : ℕ) → partner d m' ≡ f d + partner d m) → First s m → First s' m'
first_more f s m s' m' p q (inl h) = inl (λ d. omega (arith, h d, p d, q d))
first_more f s m s' m' p q (inr (c, h, k)) =
    inr (c, (λ d l. omega (arith, h d l, p d, q d)), omega (arith, k, p c, q c))
