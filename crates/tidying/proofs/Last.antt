-- The entries written that join two cells are the last of those of the raw list that do, lower cell first
-- (`tidied_joining`). In order: the last of some; elements in the order of their keys, of which those that pass a test
-- have one key (`passing_sorted`); entries with their lower cell first; the law. Assumes nothing.
use mathlib.Core.Path.{◌≡◌, refl, ap, ◌∙◌}
use mathlib.Core.Logic.{inl, inr}
use mathlib.Core.Bool.{Bool, true, false, cond, or_comm, ◌&&◌}
use mathlib.Core.List.{List, [], ◌∷◌, map}
use Prim.Native.Nat.{ℕ, ◌≤◌, ◌<◌, min, max}
use native.Mathlib.Omega.{arith}
use lib.Dec.{eqb}
use Rattle.matching.specs.Lists.{All, Ascends}
use Rattle.matching.specs.Pairs.{same}
use Rattle.matching.specs.Listed.{Entry}
use Rattle.matching.proofs.Tests.{Test, pass, fail, is_test, lt_test, holds}
use Rattle.matching.proofs.Pairs.{Same, same_test}
use Rattle.matching.proofs.Alls.{all_map}
use Rattle.matching.proofs.Entries.{Fit}
use Rattle.cellfile.specs.Files.{entry_key}
use Rattle.sorting.specs.Sorted.{Lower, sorted_in, sorted}
use Rattle.sorting.proofs.Sorted.{Cmp, below, equal, above, cmp, in_none, in_below, in_same, in_above, onto_none}
use Rattle.sorting.proofs.Sorted.{onto_cons}
use Rattle.sorting.proofs.Sorted.{all_onto, ascends_sorted}
use Rattle.tidying.specs.Calls.{low_first, tidied}
use Rattle.tidying.specs.Said.{passing, last_of, joins, joining}

-- ---- the last of some

-- them, or x where there is none
abbrev or_else : {A : Type 0} → List A → A → List A
or_else [] x = x ∷ []
or_else (y ∷ ys) x = y ∷ ys

last_cons : {A : Type 0} (x : A) (xs : List A) → or_else (last_of xs) x ≡ last_of (x ∷ xs)
last_cons x [] = refl
last_cons x (y ∷ ys) = go y ys
  where
    go : (y : _) (ys : List _) → or_else (last_of (y ∷ ys)) x ≡ last_of (y ∷ ys)
    go y [] = refl
    go y (z ∷ zs) = go z zs

last_map : {A B : Type 0} (f : A → B) (xs : List A) → last_of (map f xs) ≡ map f (last_of xs)
last_map f [] = refl
last_map f (x ∷ []) = refl
last_map f (x ∷ y ∷ ys) = last_map f (y ∷ ys)

-- ---- elements that pass a test have one key

module _ {A : Type 0} (k : A → ℕ) (t : A → Bool) (P : A → Type 0)
    (like : (x y : A) → P x → P y → k x ≡ k y → t x ≡ t y)
    (one : (x y : A) → P x → P y → t x ≡ true → t y ≡ true → k x ≡ k y) where
  -- an element that does not pass changes nothing
  in_failing : (x : A) (ys : List A) → t x ≡ false → passing t (sorted_in k x ys) ≡ passing t ys
  in_failing x [] e = rw (in_none k x, e)
  in_failing x (y ∷ ys) e = go (cmp (k x) (k y)) (in_failing x ys e)
    where
      go : Cmp (k x) (k y) → passing t (sorted_in k x ys) ≡ passing t ys
          → passing t (sorted_in k x (y ∷ ys)) ≡ passing t (y ∷ ys)
      go (below l) i = rw (in_below k x y ys l, e)
      go (equal l) i = rw (in_same k x y ys l)
      go (above l) i = rw (in_above k x y ys l, i)

  -- where x passes none of another key does
  fails : (x y : A) → P x → P y → t x ≡ true → (k x ≡ k y → ⊥) → t y ≡ false
  fails x y p q e n = go (is_test (t y))
    where
      go : {s : Bool} → Test (t y ≡ true) (t y ≡ false) s → t y ≡ false
      go (pass f) = absurd (n (one x y p q e f))
      go (fail f) = f

  none_pass : (x : A) (ys : List A) → P x → t x ≡ true → All P ys → All (Lower k x) ys → passing t ys ≡ []
  none_pass x [] p e h l = refl
  none_pass x (y ∷ ys) p e h l =
      rw (fails x y p h.0 e (λ f. omega (arith, l.0)), none_pass x ys p e h.1 l.1)

  -- one that passes stands where no other does
  in_passing : (x : A) (ys : List A) → P x → t x ≡ true → All P ys → Ascends (Lower k) ys
      → passing t (sorted_in k x ys) ≡ or_else (passing t ys) x
  in_passing x [] p e h a = rw (in_none k x, e)
  in_passing x (y ∷ ys) p e h a = go (cmp (k x) (k y)) (in_passing x ys p e h.1 a.1)
    where
      go : Cmp (k x) (k y) → passing t (sorted_in k x ys) ≡ or_else (passing t ys) x
          → passing t (sorted_in k x (y ∷ ys)) ≡ or_else (passing t (y ∷ ys)) x
      go (below l) i =
          rw (
            in_below k x y ys l,
            e,
            none_pass x (y ∷ ys) p e h (l, all_map (λ z m. omega arith) ys a.0),
          )
      go (equal l) i = rw (in_same k x y ys l, ← like x y p h.0 l, e)
      go (above l) i = rw (in_above k x y ys l, fails x y p h.0 e (λ f. omega arith)) i

  pub passing_sorted : (xs : List A) → All P xs → passing t (sorted k xs) ≡ last_of (passing t xs)
  passing_sorted [] h = rw (onto_none k [])
  passing_sorted (x ∷ xs) h = rw (onto_cons k x xs []) (go (is_test (t x)) (passing_sorted xs h.1))
    where
      go : {s : Bool} → Test (t x ≡ true) (t x ≡ false) s → passing t (sorted k xs) ≡ last_of (passing t xs)
          → passing t (sorted_in k x (sorted k xs)) ≡ last_of (passing t (x ∷ xs))
      go (pass e) i =
          in_passing x (sorted k xs) h.0 e (all_onto k P xs [] h.1 tt) (ascends_sorted k xs)
          ∙ rw (e, i) (last_cons x (passing t xs))
      go (fail e) i = in_failing x (sorted k xs) e ∙ rw e i

-- ---- entries

-- entries of one key join the same cells, and those that join the same cells have one key
like_key : (a b : ℕ) (x y : Entry) → Fit 1024 x → Fit 1024 y → entry_key x ≡ entry_key y → joins a b x ≡ joins a b y
like_key a b x y p q e =
    let f : x.0 ≡ y.0 = omega arith in
    let g : x.1 ≡ y.1 = omega arith in
    rw (f, g)

one_key : (a b : ℕ) (x y : Entry) → Fit 1024 x → Fit 1024 y → joins a b x ≡ true → joins a b y ≡ true
    → entry_key x ≡ entry_key y
one_key a b x y p q e f = go (holds (same_test x.0 x.1 a b) e) (holds (same_test y.0 y.1 a b) f)
  where
    go : Same x.0 x.1 a b → Same y.0 y.1 a b → entry_key x ≡ entry_key y
    go (inl g) (inl h) = omega arith
    go (inl g) (inr h) = omega arith
    go (inr g) (inl h) = omega arith
    go (inr g) (inr h) = omega arith

-- whichever cell stands first
low_joins : (a b : ℕ) (e : Entry) → joins a b (low_first e) ≡ joins a b e
low_joins a b (x, y, p) = go (lt_test y x)
  where
    go : {t : Bool} → Test (y < x) (x ≤ y) t → same (min x y) (max x y) a b ≡ same x y a b
    go (pass l) =
        let e : min x y ≡ y = omega arith in
        let f : max x y ≡ x = omega arith in
        rw (e, f) (or_comm (eqb a y && eqb b x) (eqb a x && eqb b y))
    go (fail l) =
        let e : min x y ≡ x = omega arith in
        let f : max x y ≡ y = omega arith in
        rw (e, f)

joining_low : (a b : ℕ) (es : List Entry) → joining a b (map low_first es) ≡ map low_first (joining a b es)
joining_low a b [] = refl
joining_low a b (e ∷ es) = rw (low_joins a b e, joining_low a b es) (go (joins a b e))
  where
    go : (t : Bool) → cond t (low_first e ∷ map low_first (joining a b es)) (map low_first (joining a b es))
        ≡ map low_first (cond t (e ∷ joining a b es) (joining a b es))
    go true = refl
    go false = refl

pub tidied_joining : (n : ℕ) (es : List Entry) → n ≤ 1024 → All (Fit n) (map low_first es) → (a b : ℕ)
    → joining a b (tidied es) ≡ map low_first (last_of (joining a b es))
unfolding tidied
tidied_joining n es l h a b =
    passing_sorted entry_key (joins a b) (Fit 1024) (like_key a b) (one_key a b) (map low_first es)
    (all_map (λ (e : Entry) (f : Fit n e). (f.0, omega (arith, f.1))) (map low_first es) h)
    ∙ ap last_of (joining_low a b es) ∙ last_map low_first (joining a b es)
