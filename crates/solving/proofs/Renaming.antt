-- Solving goes through a renaming of cells, as from their places in a list to the cells. In order: the set less a cell,
-- the partners tried, the whole (`solve_alike`); fuel beyond the number of cells changes nothing (`solve_fuel`).
-- Assumes nothing.
use mathlib.Core.Path.{◌≡◌, refl, sym, ap, ◌∙◌}
use mathlib.Core.Bool.{Bool, true, false, cond, ◌&&◌}
use mathlib.Core.List.{List, [], ◌∷◌, map}
use Prim.Native.Nat.{ℕ, zero, suc, ◌+◌, ◌-◌, ◌≤◌, ◌<◌}
use native.Mathlib.Omega.{arith}
use lib.Dec.{eqb, ltb}
use lib.ListN.{length}
use Rattle.matching.specs.Lists.{mem, All, Ascends}
use Rattle.matching.specs.Pairs.{Pair, Points, sum}
use Rattle.matching.specs.Solve.{less, tries, solve}
use Rattle.matching.proofs.Members.{mem_head, mem_on}
use Rattle.matching.proofs.Solve.{less_mem, less_ascends}
use Rattle.sets.proofs.Heaviest.{solve_more}

-- ---- the renaming

-- The points from a place below k to a higher one are those of their cells, and no two places have the same cell.
pub record Renames (k : ℕ) (f : ℕ → ℕ) (v w : Points) : Type 0 where
  pub points : (i j : ℕ) → i < j → j < k → v i j ≡ w (f i) (f j)
  pub apart : (i j : ℕ) → i < k → j < k → eqb (f i) (f j) ≡ eqb i j

abbrev pub both : (ℕ → ℕ) → Pair → Pair
both f e = (f e.0, f e.1)

abbrev pub Below : ℕ → List ℕ → Type 0
Below k ps = (i : ℕ) → mem i ps ≡ true → i < k

module _ {k : ℕ} {f : ℕ → ℕ} {v w : Points} (r : Renames k f v w) where
  less_renamed : (p : ℕ) (cs : List ℕ) → p < k → Below k cs → less (f p) (map f cs) ≡ map f (less p cs)
  less_renamed p [] l b = refl
  less_renamed p (c ∷ cs) l b =
      ap (λ t. cond t (less (f p) (map f cs)) (f c ∷ less (f p) (map f cs)))
      (r.apart c p (b c (mem_head c c cs refl)) l)
      ∙ go (eqb c p) (less_renamed p cs l (λ i h. b i (mem_on i c cs h)))
    where
      go : (t : Bool) → less (f p) (map f cs) ≡ map f (less p cs)
          → cond t (less (f p) (map f cs)) (f c ∷ less (f p) (map f cs)) ≡ map f (cond t (less p cs) (c ∷ less p cs))
      go true e = e
      go false e = ap (λ zs. f c ∷ zs) e

  -- a pairing of cells and one of their places
  abbrev pub Alike : List Pair → List Pair → Type 0
  Alike a b = (a ≡ map (both f) b) × (sum w a ≡ sum v b)

  tries_renamed : (c : ℕ) (R S : ℕ → List Pair) (ps : List ℕ) → All (λ p. c < p) ps → Below k ps
      → ((p : ℕ) → mem p ps ≡ true → Alike (R (f p)) (S p)) → (a b : List Pair) → Alike a b
      → Alike (tries R w (f c) (map f ps) a) (tries S v c ps b)
  tries_renamed c R S [] l m h a b e = e
  tries_renamed c R S (p ∷ ps) l m h a b e =
      tries_renamed c R S ps l.1 (λ i q. m i (mem_on i p ps q)) (λ i q. h i (mem_on i p ps q)) _ _ step
    where
      better : ℕ → ℕ → ℕ → Bool
      better x s t = ltb 0 x && ltb s (x + t)

      here : Alike (R (f p)) (S p)
      here = h p (mem_head p p ps refl)

      x_is : w (f c) (f p) ≡ v c p
      x_is = sym (r.points c p l.0 (m p (mem_head p p ps refl)))

      go : (t : Bool) → Alike (cond t ((f c, f p) ∷ R (f p)) a) (cond t ((c, p) ∷ S p) b)
      go true = (ap (λ zs. (f c, f p) ∷ zs) here.0, omega (arith, here.1, x_is))
      go false = e

      test : better (w (f c) (f p)) (sum w a) (sum w (R (f p))) ≡ better (v c p) (sum v b) (sum v (S p))
      test = rw (x_is, e.1, here.1)

      step : Alike (cond (better (w (f c) (f p)) (sum w a) (sum w (R (f p)))) ((f c, f p) ∷ R (f p)) a)
          (cond (better (v c p) (sum v b) (sum v (S p))) ((c, p) ∷ S p) b)
      step = rw test (go (better (v c p) (sum v b) (sum v (S p))))

  pub solve_alike : (j : ℕ) (ps : List ℕ) → Ascends (λ a b. a < b) ps → Below k ps
      → Alike (solve j w (map f ps)) (solve j v ps)
  solve_alike zero ps a b = (refl, refl)
  solve_alike (suc j) [] a b = (refl, refl)
  solve_alike (suc j) (c ∷ cs) a b =
      tries_renamed c (λ p. solve j w (less p (map f cs))) (λ p. solve j v (less p cs)) cs a.0 on
      (λ p h. rw (less_renamed p cs (on p h) on)
      (solve_alike j (less p cs) (less_ascends p cs a.1) (λ i q. on i (less_mem p i cs q).0)))
      (solve j w (map f cs)) (solve j v cs) (solve_alike j cs a.1 on)
    where
      on : Below k cs
      on i h = b i (mem_on i c cs h)

-- ---- fuel

more_fuel : (d k : ℕ) (w : Points) (cs : List ℕ) → length cs ≤ k → solve (d + k) w cs ≡ solve k w cs
more_fuel zero k w cs l = (let z : 0 + k ≡ k = omega arith in rw z)
more_fuel (suc d) k w cs l =
    let z : suc d + k ≡ suc (d + k) = omega arith in
    rw z (solve_more (d + k) w cs (omega arith) ∙ more_fuel d k w cs l)

pub solve_fuel : (j k : ℕ) (w : Points) (cs : List ℕ) → length cs ≤ j → length cs ≤ k → solve j w cs ≡ solve k w cs
solve_fuel j k w cs a b = enough j a ∙ sym (enough k b)
  where
    enough : (i : ℕ) → length cs ≤ i → solve i w cs ≡ solve (length cs) w cs
    enough i l =
        let z : i ≡ i - length cs + length cs = omega arith in
        ap (λ m. solve m w cs) z ∙ more_fuel (i - length cs) (length cs) w cs (omega arith)
