-- Entries and pairs in file order, by their keys. The cells of an entry and of a pair are in their order and below
-- 1,024, so the two are the same where their keys are equal (`key_test`). In order: keys; what ascends
-- (`entries_above_is`, `pairs_above`); what an entry says of a pair, by their keys (`not_joined`). Assumes nothing.
use mathlib.Core.Path.{◌≡◌, refl, ◌∙◌}
use mathlib.Core.Logic.{◌⊎◌, inl, inr, ◌≢◌}
use mathlib.Core.Bool.{true}
use mathlib.Core.List.{List, [], ◌∷◌, map}
use Prim.Native.Nat.{ℕ, suc, ◌≤◌, ◌<◌}
use native.Mathlib.Omega.{arith}
use Rattle.matching.specs.Lists.{All, Ascends}
use Rattle.matching.specs.Pairs.{Pair, same}
use Rattle.matching.specs.Listed.{Entry, joined, listed}
use Rattle.matching.proofs.Tests.{Test, test, le_test, and_test, map_test, holds, fails}
use Rattle.matching.proofs.Pairs.{Same, same_test}
use Rattle.matching.proofs.Listed.{joined_apart, listed_apart}
use Rattle.cellfile.specs.Files.{key, entry_key, pair_key}
use Rattle.checks.specs.Refusals.{ascending_from}

-- Two cells in their order, of 10 bits; such are the cells of every entry, of every pair.
abbrev pub Ordered : ℕ → ℕ → Type 0
Ordered a b = (a < b) × (b < 1024)

abbrev pub OrderedEntries : List Entry → Type 0
OrderedEntries es = All (λ (e : Entry). Ordered e.0 e.1) es

abbrev pub OrderedPairs : List Pair → Type 0
OrderedPairs ps = All (λ (p : Pair). Ordered p.0 p.1) ps

-- Cells in their order are the same where their keys are equal.
pub key_test : (x y a b : ℕ) → Ordered x y → Ordered a b → Test (key x y ≡ key a b) (key x y ≢ key a b) (same x y a b)
key_test x y a b p q = map_test one (λ h. two h.0) (same_test x y a b)
  where
    one : Same x y a b → key x y ≡ key a b
    one (inl h) = omega arith
    one (inr h) = omega arith

    two : (a ≢ x) ⊎ (b ≢ y) → key x y ≢ key a b
    two (inl n) = omega arith
    two (inr n) = omega arith

-- What ascends: the first is not below the bound, and the others are above the first.
pub ascending_cons : (low k : ℕ) (ks : List ℕ) → ascending_from low (k ∷ ks) ≡ true
    → (low ≤ k) × (ascending_from (suc k) ks ≡ true)
ascending_cons low k ks h = holds (and_test (le_test low k) (test (ascending_from (suc k) ks) (λ e. e) (λ e. e))) h

-- What ascends from a bound holds no number below it.
pub ascending_all : {A : Type 0} (f : A → ℕ) (P : A → Type 0) (low : ℕ) (xs : List A) → ((x : A) → low ≤ f x → P x)
    → ascending_from low (map f xs) ≡ true → All P xs
ascending_all f P low [] g s = tt
ascending_all f P low (x ∷ xs) g s =
    let t = ascending_cons low (f x) (map f xs) s in
    (g x t.0, ascending_all f P (suc (f x)) xs (λ y h. g y (omega arith)) t.1)

-- What ascends stands in the order of its numbers.
pub ascending_ascends : {A : Type 0} (f : A → ℕ) (low : ℕ) (xs : List A) → ascending_from low (map f xs) ≡ true
    → Ascends (λ (x y : A). f x < f y) xs
ascending_ascends f low [] s = tt
ascending_ascends f low (x ∷ xs) s =
    let t = ascending_cons low (f x) (map f xs) s in (
      ascending_all f (λ y. f x < f y) (suc (f x)) xs (λ y h. omega arith) t.1,
      ascending_ascends f (suc (f x)) xs t.1,
    )

-- After an entry whose key is not below the pair's all entries are above the pair; after a pair whose key is not below
-- the entry's all pairs are above the entry.
pub entries_above_is : (e : Entry) (es : List Entry) (p : Pair)
    → ascending_from (suc (entry_key e)) (map entry_key es) ≡ true
    → pair_key p ≤ entry_key e → All (λ (x : Entry). pair_key p < entry_key x) es
entries_above_is e es p s h =
    ascending_all entry_key (λ x. pair_key p < entry_key x) (suc (entry_key e)) es (λ x k. omega arith) s

pub pairs_above : (e : Entry) (p : Pair) (ps : List Pair) → Ordered p.0 p.1
    → ascending_from (suc p.0) (map (λ (x : Pair). x.0) ps) ≡ true → entry_key e ≤ pair_key p
    → All (λ (x : Pair). entry_key e < pair_key x) ps
pairs_above e p ps o s h =
    ascending_all (λ x. x.0) (λ x. entry_key e < pair_key x) (suc p.0) ps (λ x k. omega arith) s

-- Entries whose keys are above the pair's say nothing of it.
pub not_joined : (es : List Entry) (p : Pair) → OrderedEntries es → Ordered p.0 p.1
    → All (λ (e : Entry). pair_key p < entry_key e) es
    → (joined es p.0 p.1 ≡ 0) × (listed es p.0 p.1 ≡ 0)
unfolding joined listed
not_joined [] p o q h = (refl, refl)
not_joined (e ∷ es) p o q h =
    let n = fails (key_test e.0 e.1 p.0 p.1 o.0 q) (omega arith) in
    let i = not_joined es p o.1 q h.1 in
    (joined_apart e es p.0 p.1 n ∙ i.0, listed_apart e es p.0 p.1 n ∙ i.1)
