-- What `any` over the places of a list answers, for the functions that look for a record of a file: whether the list
-- has an element with the test. At the end: what a closure holds stays. Assumes nothing.
use Prim.Native.Nat.{ℕ, zero, suc, ◌+◌}
use mathlib.Core.Path.{◌≡◌, refl, ap, ◌∙◌}
use mathlib.Core.Bool.{Bool, ◌||◌}
use mathlib.Core.List.{List}
use native.Mathlib.Omega.{arith}
use denote.Param.Members.{Mut}
use lib.ListN.{drop, drop_of_length-le, get_or, length}
use Rattle.std.specs.Fn.{Called}
use Rattle.std.specs.Iterator.{ChecksAny}
use Rattle.std.specs.List.{list_any, range_with_len}
use Rattle.std.specs.declared.ops.Range.{Range}
use Rattle.std.proofs.iter.Yields.{nat_range_steps}
use Rattle.std.proofs.lemmas.Iterator.{YieldsList-from_range}
use Rattle.std.proofs.lemmas.Iterator.Search.{any_from_yields_List}
use Rattle.matching.specs.Lists.{any}
use Rattle.cellfile.proofs.Walk.{next}

module _ {A : Type 0} (test : A → Bool) (xs : List A) (d : A) where
  abbrev at_place : ℕ → Bool
  at_place i = test (get_or xs i d)

  places_from : (n i : ℕ) → i + n ≡ length xs → list_any at_place (range_with_len i n) ≡ any test (drop i xs)
  places_from zero i l = rw (drop_of_length-le xs {i = i} (omega arith))
  places_from (suc n) i l =
      rw (next xs i d (get_or xs i d) (omega arith) refl)
      (ap (λ (b : Bool). at_place i || b) (places_from n (i + 1) (omega arith)))

  pub any_from_places : {F : Type 0} {g : Mut F (ℕ × Unit {0}) Bool} (m : ℕ) (u : Range ℕ) (f : F) (r : Bool)
      → ChecksAny nat_range_steps g record { start = 0; end = m } f r u → m ≡ length xs
      → ((i : ℕ) (b : Bool) (q : F) → Called g f (i, tt) b q → (q ≡ f) × (b ≡ at_place i)) → r ≡ any test xs
  any_from_places m u f r ran l tells =
      any_from_yields_List at_place u f r ran (YieldsList-from_range 0 m m refl (omega arith)) tells
      ∙ places_from m 0 (omega arith)

-- a closure that holds two or three values stays
pub same_two : {A B : Type 0} {q : A × B} {a : A} {b : B} → q.0 ≡ a → q.1 ≡ b → q ≡ (a, b)
same_two e f = rw (e, f)

pub same_three : {A B C : Type 0} {q : A × B × C} {a : A} {b : B} {c : C} → q.0 ≡ a → q.1 ≡ b → q.2 ≡ c → q ≡ (a, b, c)
same_three e f g = rw (e, f, g)
