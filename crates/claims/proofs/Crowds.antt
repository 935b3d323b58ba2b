-- Refusal 11 in words. In order: the largest group has more than k cells just where the group of some cell that has
-- pairs does (`crowd_just`), and so the row of a largest group tells it (`crowd_test`); the largest group of the short
-- list (`largest_left`), whose row tells `Crowded` (`crowded_test`). Assumes nothing.
use mathlib.Core.Path.{◌≡◌, refl}
use mathlib.Core.Logic.{◌↔◌}
use mathlib.Core.Bool.{Bool, true}
use mathlib.Core.List.{List, [], ◌∷◌, map}
use Prim.Native.Nat.{ℕ, ◌<◌, ◌≤◌}
use native.Mathlib.Omega.{arith}
use lib.Dec.{ltb}
use lib.ListN.{length}
use Rattle.matching.specs.Lists.{mem}
use Rattle.matching.specs.Pairs.{Points}
use Rattle.matching.specs.Listed.{listed}
use Rattle.matching.specs.Graph.{degree}
use Rattle.matching.specs.Solve.{with_pairs}
use Rattle.matching.specs.Groups.{group, greatest, largest}
use Rattle.matching.proofs.Tests.{Test, pass, fail, lt_test, map_test, holds, passes}
use Rattle.matching.proofs.Members.{mem_head, mem_on}
use Rattle.matching.proofs.Solution.{with_test}
use Rattle.matching.proofs.Reached.{largest_least}
use Rattle.cellfile.specs.Files.{cells_of}
use Rattle.checks.specs.Refusals.{crowded}
use Rattle.reduction.specs.Calls.{replay_short}
use Rattle.claims.specs.Demand.{short_of}
use Rattle.claims.specs.Claims.{Crowded}

-- ---- some group of more than k cells

-- what the greatest exceeds, one exceeds
greatest_some : (k : ℕ) (f : ℕ → ℕ) (xs : List ℕ) → k < greatest (map f xs)
    → (x : ℕ) × (mem x xs ≡ true) × (k < f x)
greatest_some k f [] l = absurd (omega arith)
greatest_some k f (x ∷ xs) l = go (lt_test k (f x)) (greatest_some k f xs)
  where
    go : {t : Bool} → Test (k < f x) (f x ≤ k) t
        → (k < greatest (map f xs) → (y : ℕ) × (mem y xs ≡ true) × (k < f y))
        → (y : ℕ) × (mem y (x ∷ xs) ≡ true) × (k < f y)
    go (pass p) i = (x, mem_head x x xs refl, p)
    go (fail q) i = let r = i (omega (arith, l, q)) in (r.0, mem_on r.0 x xs r.1, r.2)

module _ (k n : ℕ) (w : Points) where
  -- Some cell that has pairs has a group of more than k cells.
  abbrev pub Crowd : Type 0
  Crowd = (c : ℕ) × (c < n) × (0 < degree n w c) × (k < length (group n w c))

  crowd_there : k < largest n w → Crowd
  unfolding largest
  crowd_there l =
      let r = greatest_some k (λ c. length (group n w c)) (with_pairs n w) l in
      let p = holds (with_test n w r.0) r.1 in
      (r.0, p.0, p.1, r.2)

  pub crowd_just : (k < largest n w) ↔ Crowd
  crowd_just = (crowd_there, λ s. omega (arith, s.3, largest_least n w s.0 (with_pairs_is s)))
    where
      with_pairs_is : (s : Crowd) → mem s.0 (with_pairs n w) ≡ true
      with_pairs_is s = passes (with_test n w s.0) (λ f. omega (arith, s.2, f s.1))

  crowd_test : Test Crowd (Crowd → ⊥) (ltb k (largest n w))
  crowd_test = map_test crowd_just.0 (λ m s. omega (arith, m, crowd_just.1 s)) (lt_test k (largest n w))

-- ---- refusal 11

module _ (list slip : List ℕ) where
  -- How many cells the largest group of the short list that replay writes has.
  abbrev pub largest_left : ℕ
  largest_left = largest (cells_of list) (listed (short_of (replay_short list slip)))

  pub crowded_test : Test (Crowded list slip) (Crowded list slip → ⊥) (crowded largest_left)
  crowded_test = crowd_test 12 (cells_of list) (listed (short_of (replay_short list slip)))
