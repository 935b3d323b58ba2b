-- Laws of `All`, that every element of a list is as P says: of the end of a list, of one element, of the values of a
-- function.
use Prim.Native.Nat.{ℕ, zero, suc}
use mathlib.Core.List.{List, [], ◌∷◌, map}
use lib.ListN.{get_or, drop}
use Rattle.matching.specs.Lists.{All}

module _ {A : Type 0} (P : A → Type 0) where
  pub all_drop : (n : ℕ) (s : List A) → All P s → All P (drop n s)
  all_drop zero s a = a
  all_drop (suc n) [] a = a
  all_drop (suc n) (x ∷ s) a = all_drop n s a.1

  -- at any place, where it holds of what stands for a missing element
  pub all_get_or : (s : List A) (i : ℕ) (d : A) → P d → All P s → P (get_or s i d)
  all_get_or [] i d p a = p
  all_get_or (x ∷ s) zero d p a = a.0
  all_get_or (x ∷ s) (suc i) d p a = all_get_or s i d p a.1

pub all_values : {A B : Type 0} (f : A → B) (P : B → Type 0) (s : List A) → All (λ (x : A). P (f x)) s → All P (map f s)
all_values f P [] a = tt
all_values f P (x ∷ s) a = (a.0, all_values f P s a.1)
