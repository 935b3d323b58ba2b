-- The cells by their places. In order: the set of the first k places (`first_places`); a list by its places; what crate
-- sets finds for the cells at their places solves the set of the cells (`places_solved`). Assumes nothing.
use mathlib.Core.Path.{◌≡◌, refl, sym, ap, ap₂, ◌∙◌}
use mathlib.Core.Logic.{◌≢◌}
use mathlib.Core.Bool.{Bool}
use mathlib.Core.List.{List, [], ◌∷◌, ◌++◌, map, map-append, append-nil}
use Prim.Native.Nat.{ℕ, zero, suc, ◌+◌, ◌*◌, ◌-◌, ◌/◌, ◌%◌, ◌^◌, ◌≤◌, ◌<◌}
use native.Mathlib.Omega.{arith}
use native.Mathlib.Nat.{pow-suc, div-eq_of_lt}
use lib.Dec.{eqb}
use lib.ListN.{length, get_or, take}
use lib.Seq.{take-suc, take_all}
use lib.Pow.{pow_pos, pow_mono, ones_split, ones_lt, high}
use borrow.Author.Tests.{eq-eqb, ne_eqb}
use Rattle.matching.specs.Lists.{All, Ascends}
use Rattle.matching.specs.Pairs.{Points, sum}
use Rattle.matching.specs.Solve.{solve}
use Rattle.matching.proofs.Tests.{Test, pass, fail, eq_test, lt_test}
use Rattle.matching.proofs.Alls.{all_map, all_append, all_mem, ascends_append}
use Rattle.matching.proofs.Where.{rises_place}
use Rattle.sets.specs.Sets.{places, in_set, between, heaviest}
use Rattle.solving.proofs.Renaming.{Renames, both, solve_alike, solve_fuel}

-- ---- the set of the first k places

abbrev ones : ℕ → ℕ
ones k = 2 ^ k - 1

ones_in : (k p : ℕ) → p < k → ones k / 2 ^ p % 2 ≡ 1
ones_in k p l =
    let e : k ≡ suc d + p = omega arith in
    let s : ones k ≡ ones (suc d) * 2 ^ p + ones p = ap ones e ∙ ones_split (suc d) p in
    let q : ones k / 2 ^ p ≡ ones (suc d) = ap (λ (x : ℕ). x / 2 ^ p) s ∙ high (ones (suc d)) p (ones_lt p) in
    omega (arith, pow-suc 2 d, pow_pos d)
  where
    d : ℕ
    d = k - p - 1

ones_out : (k p : ℕ) → k ≤ p → ones k / 2 ^ p % 2 ≢ 1
ones_out k p l q =
    (let m : 2 ^ k ≤ 2 ^ p = pow_mono l in
    let z : ones k / 2 ^ p ≡ 0 = div-eq_of_lt (omega (arith, ones_lt k)) in
    omega arith)

-- The numbers numbers_below k, ascending.
abbrev numbers_below : ℕ → List ℕ
numbers_below zero = []
numbers_below (suc k) = numbers_below k ++ k ∷ []

places_in : (k j : ℕ) → j ≤ k → places j (ones k) ≡ numbers_below j
unfolding places
places_in k zero l = refl
places_in k (suc j) l =
    rw (places_in k j (omega arith), eq-eqb (ones k / 2 ^ j % 2) 1 (ones_in k j (omega arith)))

places_past : (k d : ℕ) → places (d + k) (ones k) ≡ numbers_below k
unfolding places
places_past k zero = (let z : 0 + k ≡ k = omega arith in rw z (places_in k k (omega arith)))
places_past k (suc d) =
    let z : suc d + k ≡ suc (d + k) = omega arith in
    rw (z, places_past k d, ne_eqb (ones k / 2 ^ (d + k) % 2) 1 (ones_out k (d + k) (omega arith)))
    (append-nil (numbers_below k))

first_places : (k : ℕ) → k ≤ 12 → in_set (ones k) ≡ numbers_below k
first_places k l =
    (let z : 12 ≡ 12 - k + k = omega arith in ap (λ j. places j (ones k)) z ∙ places_past k (12 - k))

below_all : (k : ℕ) → All (λ i. i < k) (numbers_below k)
below_all zero = tt
below_all (suc k) =
    all_append (λ i. i < suc k) (numbers_below k) (k ∷ [])
    (all_map (λ i l. omega arith) (numbers_below k) (below_all k)) (omega arith, tt)

below_rises : (k : ℕ) → Ascends (λ a b. a < b) (numbers_below k)
below_rises zero = tt
below_rises (suc k) =
    ascends_append (λ x y l (e : y ≡ k). omega arith) (numbers_below k) (k ∷ []) (below_all k) (refl, tt)
    (below_rises k) (tt, tt)

-- ---- a list by its places

map_below : (f : ℕ → ℕ) (cs : List ℕ) (k : ℕ) → k ≤ length cs → ((i : ℕ) → i < k → f i ≡ get_or cs i 0)
    → map f (numbers_below k) ≡ take k cs
map_below f cs zero l h = refl
map_below f cs (suc k) l h =
    map-append f (numbers_below k) (k ∷ [])
    ∙ ap₂ (λ xs x. xs ++ x ∷ []) (map_below f cs k (omega arith) (λ i m. h i (omega arith))) (h k (omega arith))
    ∙ sym (take-suc cs k 0 (omega arith))

-- ---- a set of cells

module _ (k : ℕ) (w : Points) (cs : List ℕ) (rise : Ascends (λ a b. a < b) cs) (f : ℕ → ℕ) (ws : List ℕ) (few : k ≤ 12)
    (count : k ≡ length cs) (cells : (i : ℕ) → i < k → f i ≡ get_or cs i 0)
    (points : (i j : ℕ) → i < j → j < k → between ws i j ≡ w (get_or cs i 0) (get_or cs j 0)) where
  rising : (i j : ℕ) → i < j → j < k → f i < f j
  rising i j l m = omega (arith, cells i (omega arith), cells j m, rises_place cs rise i j l (omega (arith, count)))

  renames : Renames k f (between ws) w
  renames = record {
    points = λ i j l m. points i j l m ∙ ap₂ w (sym (cells i (omega arith))) (sym (cells j m));
    apart = λ i j l m. go i j l m (eq_test i j);
  }
    where
      go : (i j : ℕ) → i < k → j < k → {t : Bool} → Test (i ≡ j) (i ≢ j) t → eqb (f i) (f j) ≡ t
      go i j l m (pass e) = eq-eqb (f i) (f j) (ap f e)
      go i j l m (fail d) = ne_eqb (f i) (f j) (other (lt_test i j))
        where
          other : {t : Bool} → Test (i < j) (j ≤ i) t → f i ≢ f j
          other (pass b) q = omega (arith, rising i j b m)
          other (fail b) q = omega (arith, rising j i (omega (arith, d)) l)

  all_cells : map f (numbers_below k) ≡ cs
  all_cells = map_below f cs k (omega (arith, count)) cells ∙ take_all k cs (omega (arith, count))

  -- what crate sets finds for all places solves the set
  pub places_solved : (solve (length cs) w cs ≡ map (both f) (heaviest ws (2 ^ k - 1)))
      × (sum w (solve (length cs) w cs) ≡ sum (between ws) (heaviest ws (2 ^ k - 1)))
  places_solved =
      rw (
        ap (solve 12 (between ws)) (first_places k few),
        solve_fuel (length cs) 12 w cs (omega arith) (omega (arith, count)),
        ← all_cells,
      ) (solve_alike renames 12 (numbers_below k) (below_rises k)
      (all_mem (λ i. i < k) (numbers_below k) (below_all k)))
