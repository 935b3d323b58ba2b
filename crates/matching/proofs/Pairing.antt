-- Pairings: the test `is_pairing` and the statement `Pairing` agree (`is_pairing_is`, `pairing_is`); of pairs that hold
-- no cell twice, those that a graph has are a pairing of it with the same points (`trimmed`).
use mathlib.Core.Path.{◌≡◌, refl}
use mathlib.Core.Logic.{◌⊎◌, inl, inr}
use mathlib.Core.Bool.{true, not}
use mathlib.Core.List.{List, [], ◌∷◌}
use Prim.Native.Nat.{ℕ, ◌≤◌, ◌<◌}
use native.Mathlib.Omega.{arith}
use lib.Dec.{ltb}
use Rattle.matching.specs.Pairs.{Pair, Points, sum, Each, keep, hit}
use Rattle.matching.specs.Pairing.{Once, Pairing, cells, is_pairing}
use Rattle.matching.proofs.Tests.{Test, lt_test, not_test, and_test, map_test, holds, passes}
use Rattle.matching.proofs.Lists.{count, Twice, distinct_test}
use Rattle.matching.proofs.Pairs.{each_test}
use Rattle.matching.proofs.Sums.{sum_none, sum_keep, each_all, each_keep}

-- The pairs hit a cell as often as it stands among their cells.
pub hit_cells : (c : ℕ) (m : List Pair) → sum (hit c) m ≡ count c (cells m)
unfolding hit
hit_cells c [] = refl
hit_cells c (e ∷ m) = omega (arith, hit_cells c m)

-- What the test tells.
pub pairing_test : (there : Points) (m : List Pair) → Test (Pairing there m) (Pairing there m → ⊥) (is_pairing there m)
unfolding is_pairing
pairing_test there m = map_test is isn't (and_test (distinct_test (cells m)) (each_test held_test m))
  where
    held_test : (a b : ℕ) → Test (0 < there a b) (0 < there a b → ⊥) (ltb 0 (there a b))
    held_test a b = map_test (λ h. h) (λ h. omega arith) (lt_test 0 (there a b))

    is : ((c : ℕ) → count c (cells m) ≤ 1) × Each (λ a b. 0 < there a b) m → Pairing there m
    is h = record { held = h.1; once = λ c. omega (arith, hit_cells c m, h.0 c) }

    isn't : Twice (cells m) ⊎ (Each (λ a b. 0 < there a b) m → ⊥) → Pairing there m → ⊥
    isn't (inl h) p = omega (arith, hit_cells h.0 m, p.once h.0)
    isn't (inr n) p = n p.held

pub is_pairing_is : (there : Points) (m : List Pair) → is_pairing there m ≡ true → Pairing there m
is_pairing_is there m e = holds (pairing_test there m) e

pub pairing_is : (there : Points) (m : List Pair) → Pairing there m → is_pairing there m ≡ true
pairing_is there m p = passes (pairing_test there m) (λ n. n p)

-- The pairs that the graph has.
abbrev pub present : Points → List Pair → List Pair
present w m = keep (λ a b. ltb 0 (w a b)) m

pub trimmed : (w : Points) (m : List Pair) → Once m → Pairing w (present w m) × (sum w (present w m) ≡ sum w m)
trimmed w m o = (
  record {
    held = each_keep (λ a b. ltb 0 (w a b)) (λ a b h. holds (lt_test 0 (w a b))) m any;
    once = λ c. omega (arith, sum_keep (λ a b. ltb 0 (w a b)) (hit c) m, o c);
  },
  omega (arith, sum_keep (λ a b. ltb 0 (w a b)) w m, lost),
)
  where
    any : Each (λ a b. Unit {0}) m
    any = each_all (λ a b. tt) m

    lost : sum w (keep (λ a b. not (ltb 0 (w a b))) m) ≡ 0
    lost =
        sum_none {P = λ a b. w a b ≤ 0} w (λ a b h. omega arith) (keep (λ a b. not (ltb 0 (w a b))) m)
        (each_keep (λ a b. not (ltb 0 (w a b))) (λ a b h. holds (not_test (lt_test 0 (w a b)))) m any)
