-- Changes of a graph. In order: a pair of a graph has two different cells below n; a pair put at some points (`put`);
-- the pairs of some cells dropped (`dropped`). After both it is a graph still. Assumes nothing.
use mathlib.Core.Path.{◌≡◌, refl, ◌∙◌}
use mathlib.Core.Logic.{inl, inr, ◌≢◌}
use mathlib.Core.Bool.{Bool, true, false, cond, ◌||◌}
use mathlib.Core.List.{List}
use Prim.Native.Nat.{ℕ, ◌≤◌, ◌<◌}
use native.Mathlib.Omega.{arith}
use borrow.Author.Tests.{eq-eqb, ltb-true}
use Rattle.matching.specs.Lists.{mem}
use Rattle.matching.specs.Pairs.{Points, same}
use Rattle.matching.specs.Graph.{Graph, put, dropped}
use Rattle.matching.proofs.Tests.{Test, pass, fail, lt_test, passes, fails}
use Rattle.matching.proofs.Members.{Meets, Away, meets_test}
use Rattle.matching.proofs.Pairs.{Same, same_test}
use Rattle.matching.proofs.Sums.{or_turn, same_turned}

module _ {n : ℕ} {w : Points} (g : Graph n w) where
  pub pair_apart : (a b : ℕ) → 0 < w a b → a ≢ b
  pair_apart a b h e = let z : w a b ≡ 0 = cc (g.loop a) in omega arith

  pub pair_below : (a b : ℕ) → 0 < w a b → (a < n) × (b < n)
  pair_below a b h = (at b a (omega (arith, g.turned a b)), at a b h)
    where
      at : (a b : ℕ) → 0 < w a b → b < n
      at a b h = ltb-true b n (passes (lt_test b n) (λ q. omega (arith, g.top a b q)))

-- ---- a pair put

module _ (x y k : ℕ) (w : Points) where
  pub put_at : put x y k w x y ≡ k
  unfolding put
  put_at = rw (eq-eqb x x refl, eq-eqb y y refl)

  pub put_else : (a b : ℕ) → same x y a b ≡ false → put x y k w a b ≡ w a b
  unfolding put
  put_else a b h = rw h

pub put_graph : {n : ℕ} {w : Points} (x y k : ℕ) → x ≢ y → x < n → y < n → Graph n w → Graph n (put x y k w)
unfolding put
put_graph {n} {w} x y k apart hx hy g = record {
  turned = λ a b. cc (same_turned x y a b, g.turned a b);
  loop = λ a. put_else x y k w a a (fails (same_test x y a a) (λ s. apart (same_cells a s))) ∙ g.loop a;
  top = λ a b h. put_else x y k w a b (fails (same_test x y a b) (low a b h)) ∙ g.top a b h;
}
  where
    same_cells : (a : ℕ) → Same x y a a → x ≡ y
    same_cells a (inl q) = cc
    same_cells a (inr q) = cc

    low : (a b : ℕ) → n ≤ b → Same x y a b → ⊥
    low a b h (inl q) = omega arith
    low a b h (inr q) = omega arith

-- ---- the pairs of some cells dropped

module _ (cs : List ℕ) (w : Points) (a b : ℕ) where
  pub dropped_out : Away cs a b → dropped cs w a b ≡ w a b
  unfolding dropped
  dropped_out h = rw (h.0, h.1)

  pub dropped_held : 0 < dropped cs w a b → Away cs a b
  unfolding dropped
  dropped_held = go (meets_test cs a b)
    where
      go : {t : Bool} → Test (Meets cs a b) (Away cs a b) t → 0 < cond t 0 (w a b) → Away cs a b
      go (pass p) h = let z : ⊥ = omega arith in absurd z
      go (fail n) h = n

  pub dropped_most : dropped cs w a b ≤ w a b
  unfolding dropped
  dropped_most = go (mem a cs || mem b cs)
    where
      go : (t : Bool) → cond t 0 (w a b) ≤ w a b
      go true = omega arith
      go false = omega arith

pub dropped_graph : {n : ℕ} {w : Points} (cs : List ℕ) → Graph n w → Graph n (dropped cs w)
unfolding dropped
dropped_graph {n} {w} cs g = record {
  turned = λ a b. cc (or_turn (mem a cs) (mem b cs), g.turned a b);
  loop = λ a. omega (arith, dropped_most cs w a a, g.loop a);
  top = λ a b h. omega (arith, dropped_most cs w a b, g.top a b h);
}
