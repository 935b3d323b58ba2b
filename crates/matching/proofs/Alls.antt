-- What holds of every element of a list. In order: laws of `All`; two maps that agree; lists that ascend in an order,
-- of which two with the same elements are the same list. Assumes nothing.
use mathlib.Core.Path.{◌≡◌, refl, sym, ap₂, ◌∙◌}
use mathlib.Core.Logic.{◌⊎◌, inl, inr}
use mathlib.Core.Bool.{true}
use mathlib.Core.List.{List, [], ◌∷◌, ◌++◌, map}
use Prim.Native.Nat.{ℕ}
use Rattle.matching.specs.Lists.{mem, All, Ascends}
use Rattle.matching.specs.Pairs.{Pair, Each}
use Rattle.matching.proofs.Members.{mem_head, mem_on, mem_none, mem_more}

pub all_map : {A : Type 0} {P Q : A → Type 0} → ((x : A) → P x → Q x) → (xs : List A) → All P xs → All Q xs
all_map h [] p = tt
all_map h (x ∷ xs) p = (h x p.0, all_map h xs p.1)

pub all_append : {A : Type 0} (P : A → Type 0) (xs ys : List A) → All P xs → All P ys → All P (xs ++ ys)
all_append P [] ys p q = q
all_append P (x ∷ xs) ys p q = (p.0, all_append P xs ys p.1 q)

pub each_is_all : (P : ℕ → ℕ → Type 0) (m : List Pair) → Each P m → All (λ (e : Pair). P e.0 e.1) m
each_is_all P [] p = tt
each_is_all P (e ∷ m) p = (p.0, each_is_all P m p.1)

pub all_mem : (P : ℕ → Type 0) (xs : List ℕ) → All P xs → (x : ℕ) → mem x xs ≡ true → P x
all_mem P [] p = mem_none P
all_mem P (y ∷ ys) p = mem_more P y ys p.0 (all_mem P ys p.1)

pub all_members : (xs : List ℕ) → All (λ x. mem x xs ≡ true) xs
all_members [] = tt
all_members (x ∷ xs) = (mem_head x x xs refl, all_map (λ y h. mem_on y x xs h) xs (all_members xs))

-- Two maps of a list that agree, agree at each element.
pub map_agree : {A B : Type 0} (f g : A → B) (xs : List A) → map f xs ≡ map g xs → All (λ x. f x ≡ g x) xs
map_agree f g [] e = tt
map_agree f g (x ∷ xs) e = (cc, map_agree f g xs (cc))

-- The element is in the list; then what holds of all holds of it.
abbrev pub Has : {A : Type 0} → List A → A → Type 0
Has [] x = ⊥
Has (y ∷ ys) x = (x ≡ y) ⊎ Has ys x

pub all_at : {A : Type 0} (P : A → Type 0) (xs : List A) (x : A) → All P xs → Has xs x → P x
all_at P [] x p h = absurd h
all_at P (y ∷ ys) x p (inl e) = rw e p.0
all_at P (y ∷ ys) x p (inr h) = all_at P ys x p.1 h

pub all_has : {A : Type 0} (xs : List A) → All (Has xs) xs
all_has [] = tt
all_has (x ∷ xs) = (inl refl, all_map (λ y h. inr h) xs (all_has xs))

pub has_left : {A : Type 0} (xs ys : List A) (x : A) → Has xs x → Has (xs ++ ys) x
has_left [] ys x h = absurd h
has_left (y ∷ xs) ys x (inl e) = inl e
has_left (y ∷ xs) ys x (inr h) = inr (has_left xs ys x h)

pub has_right : {A : Type 0} (xs ys : List A) (x : A) → Has ys x → Has (xs ++ ys) x
has_right [] ys x h = h
has_right (y ∷ xs) ys x h = inr (has_right xs ys x h)

pub ascends_append : {A : Type 0} {R : A → A → Type 0} {P Q : A → Type 0} → ((x y : A) → P x → Q y → R x y)
    → (xs ys : List A) → All P xs → All Q ys → Ascends R xs → Ascends R ys → Ascends R (xs ++ ys)
ascends_append h [] ys p q a b = b
ascends_append {R} h (x ∷ xs) ys p q a b = (
  all_append (R x) xs ys a.0 (all_map (λ y r. h x y p.0 r) ys q),
  ascends_append h xs ys p.1 q a.1 b,
)

-- The same elements, the same list.
module _ {A : Type 0} (R : A → A → Type 0) (strict : (x y : A) → R x y → R y x → ⊥) where
  head_same : (x y : A) (xs ys : List A) → All (R x) xs → All (R y) ys → Has (y ∷ ys) x → Has (x ∷ xs) y → x ≡ y
  head_same x y xs ys p q (inl e) h = e
  head_same x y xs ys p q (inr k) (inl e) = sym e
  head_same x y xs ys p q (inr k) (inr h) = absurd (strict x y (all_at (R x) xs y p h) (all_at (R y) ys x q k))

  tail_has : (x y : A) (xs ys : List A) → x ≡ y → All (R x) xs → ((z : A) → Has (x ∷ xs) z → Has (y ∷ ys) z)
      → (z : A) → Has xs z → Has ys z
  tail_has x y xs ys e p h z k = go (h z (inr k))
    where
      go : Has (y ∷ ys) z → Has ys z
      go (inl f) = (let r : R x x = rw (f ∙ sym e) at (all_at (R x) xs z p k) in absurd (strict x x r r))
      go (inr l) = l

  pub ascends_same : (xs ys : List A) → Ascends R xs → Ascends R ys → ((z : A) → Has xs z → Has ys z)
      → ((z : A) → Has ys z → Has xs z) → xs ≡ ys
  ascends_same [] [] a b f g = refl
  ascends_same [] (y ∷ ys) a b f g = absurd (g y (inl refl))
  ascends_same (x ∷ xs) [] a b f g = absurd (f x (inl refl))
  ascends_same (x ∷ xs) (y ∷ ys) a b f g =
      (let e = head_same x y xs ys a.0 b.0 (f x (inl refl)) (g y (inl refl)) in
      ap₂ (λ z zs. z ∷ zs) e (ascends_same xs ys a.1 b.1 (tail_has x y xs ys e a.0 f)
      (tail_has y x ys xs (sym e) b.0 g)))
