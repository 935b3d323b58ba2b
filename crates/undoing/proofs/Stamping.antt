-- Where a step's pairs are from. In order: the table by other origins that are the same on its pairs (`mates_agree`);
-- the pairs that a step puts in are from its origin (`stamped_new`), and the others from where they were
-- (`stamped_old`).
-- Assumes nothing.
use mathlib.Core.Path.{◌≡◌, refl, ap₂, ◌∙◌}
use mathlib.Core.Logic.{inl, inr, ◌≢◌}
use mathlib.Core.Bool.{Bool, true, false, cond}
use mathlib.Core.List.{List, [], ◌∷◌, ◌++◌}
use Prim.Native.Nat.{ℕ, ◌+◌, ◌≤◌}
use native.Mathlib.Omega.{arith}
use Rattle.matching.specs.Pairs.{Pair, sum, Each, hit, like, held}
use Rattle.matching.specs.Pairing.{Once, seen}
use Rattle.matching.specs.Origin.{Origin, Origins}
use Rattle.matching.proofs.Tests.{Test, pass, fail, eq_test, lt_test, fails}
use Rattle.matching.proofs.Sums.{sum_append, like_hit, hit_some}
use Rattle.matching.proofs.Origin.{each_held}
use Rattle.partners.specs.Table.{tag, IsFrom, Mates}
use Rattle.undoing.specs.Unwinding.{stamped_with}

-- ---- other origins

-- The same origin for the pair, from either of its cells.
abbrev pub Agree : Origins → Origins → ℕ → ℕ → Type 0
Agree o q a b = (o a b ≡ q a b) × (o b a ≡ q b a)

pub mates_agree : (w2 : List ℕ) (o q : Origins) (m : List Pair) → Each (Agree o q) m → Mates w2 o m → Mates w2 q m
unfolding seen
mates_agree w2 o q m e h c l = h c l ∙ all m e
  where
    one : (a b : ℕ) → Agree o q a b → seen (tag o c) c a b ≡ seen (tag q c) c a b
    one a b i = go (eq_test a c) (eq_test b c)
      where
        go : {s t : Bool} → Test (a ≡ c) (a ≢ c) s → Test (b ≡ c) (b ≢ c) t
            → cond s (tag o c b) (cond t (tag o c a) 0) ≡ cond s (tag q c b) (cond t (tag q c a) 0)
        go (pass x) y = rw (← x, i.0)
        go (fail x) (pass y) = rw (← y, i.1)
        go (fail x) (fail y) = refl

    all : (m : List Pair) → Each (Agree o q) m → sum (seen (tag o c) c) m ≡ sum (seen (tag q c) c) m
    all [] e = refl
    all (x ∷ m) e = ap₂ (λ (i j : ℕ). i + j) (one x.0 x.1 e.0) (all m e.1)

-- ---- the pairs that a step puts in

abbrev Both : List Pair → Bool → ℕ → ℕ → Type 0
Both new t a b = (held a b new ≡ t) × (held b a new ≡ t)

old_unheld : (new old : List Pair) → ((c : ℕ) → sum (hit c) new + sum (hit c) old ≤ 1) → Each (Both new false) old
old_unheld new [] h = tt
old_unheld new ((a, b) ∷ old) h = (
  (
    fails (lt_test 0 (sum (like a b) new))
        (λ k. omega (arith, h a, hit_some a a b (inl refl), like_hit a b new a (inl refl))),
    fails (lt_test 0 (sum (like b a) new))
        (λ k. omega (arith, h a, hit_some a a b (inl refl), like_hit b a new a (inr refl))),
  ),
  old_unheld new old (λ c. omega (arith, h c)),
)

module _ (origin : Origin) (from : Origins) (new : List Pair) where
  abbrev after : Origins
  after = stamped_with origin new from

  pub stamped_new : Each (IsFrom after origin) new
  stamped_new = go new (each_held new new (λ a b. omega arith))
    where
      go : (l : List Pair) → Each (Both new true) l → Each (IsFrom after origin) l
      go [] h = tt
      go (e ∷ l) h = ((rw h.0.0, rw h.0.1), go l h.1)

  pub stamped_old : (old : List Pair) → Once (new ++ old) → Each (Agree from after) old
  stamped_old old once = go old (old_unheld new old (λ c. omega (arith, once c, sum_append (hit c) new old)))
    where
      go : (l : List Pair) → Each (Both new false) l → Each (Agree from after) l
      go [] h = tt
      go (e ∷ l) h = ((rw h.0.0, rw h.0.1), go l h.1)
