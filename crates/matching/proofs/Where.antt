-- Ascending numbers. In order: the cells below n that pass a test are those (`where_test`), below n, and ascend;
-- numbers by their places (`rises_place`); ascending numbers with the same members are the same list (`same_members`),
-- and a list that has all members of another is the same or longer (`members_more`); whether some member passes
-- (`any_test`). Assumes nothing.
use mathlib.Core.Path.{◌≡◌, refl, sym, ap, ◌∙◌}
use mathlib.Core.Logic.{◌⊎◌, inl, inr, ◌≢◌, ⊎_map}
use mathlib.Core.Bool.{Bool, true, false, cond, ◌||◌}
use mathlib.Core.List.{List, [], ◌∷◌, ◌++◌}
use Prim.Native.Nat.{ℕ, zero, suc, ◌≤◌, ◌<◌}
use native.Mathlib.Omega.{arith}
use lib.ListN.{length, get_or, length-append}
use Rattle.matching.specs.Lists.{any, mem, distinct, All, Ascends}
use Rattle.matching.specs.Solve.{cells_where}
use Rattle.matching.proofs.Tests.{Test, pass, fail, is_test, eq_test, holds, passes, fails}
use Rattle.matching.proofs.Members.{clash, no_mem, mem_on, mem_head, mem_cases, mem_append}
use Rattle.matching.proofs.Alls.{Has, all_map, all_mem, all_members, ascends_append}
use Rattle.matching.proofs.Alls.{ascends_same}

-- Each number is below all that stand after it.
abbrev pub Rises : List ℕ → Type 0
Rises = Ascends (λ a b. a < b)

pub rises_distinct : (xs : List ℕ) → Rises xs → distinct xs ≡ true
rises_distinct [] a = refl
rises_distinct (x ∷ xs) a =
    rw (none, rises_distinct xs a.1)
  where
    none : mem x xs ≡ false
    none = fails (is_test (mem x xs)) (λ h. let l = all_mem (λ y. x < y) xs a.0 x h in omega arith)

-- ---- the cells that pass a test

module _ (t : ℕ → Bool) where
  pub where_test : (n x : ℕ) → Test ((x < n) × (t x ≡ true)) (x < n → t x ≡ false) (mem x (cells_where n t))
  unfolding cells_where
  where_test zero x = fail (λ h. absurd (omega arith))
  where_test (suc n) x = rw mem_append (go (where_test n x) (is_test (t n)))
    where
      go : {s u : Bool} → Test ((x < n) × (t x ≡ true)) (x < n → t x ≡ false) s → Test (t n ≡ true) (t n ≡ false) u
          → Test ((x < suc n) × (t x ≡ true)) (x < suc n → t x ≡ false) (s || mem x (cond u (n ∷ []) []))
      go (pass h) y = pass (omega (arith, h.0), h.1)
      go (fail m) (pass p) = here (eq_test n x)
        where
          here : {u : Bool} → Test (n ≡ x) (n ≢ x) u
              → Test ((x < suc n) × (t x ≡ true)) (x < suc n → t x ≡ false) (u || false)
          here (pass e) = pass (omega arith, ap t (sym e) ∙ p)
          here (fail d) = fail (λ h. m (omega arith))
      go (fail m) (fail q) = fail (λ h. gone h (eq_test n x))
        where
          gone : x < suc n → {u : Bool} → Test (n ≡ x) (n ≢ x) u → t x ≡ false
          gone h (pass e) = ap t (sym e) ∙ q
          gone h (fail d) = m (omega arith)

  pub where_in : (n x : ℕ) → x < n → t x ≡ true → mem x (cells_where n t) ≡ true
  where_in n x l h = passes (where_test n x) (λ q. clash h (q l))

  pub where_below : (n : ℕ) → All (λ x. x < n) (cells_where n t)
  where_below n = all_map (λ x h. (holds (where_test n x) h).0) (cells_where n t) (all_members (cells_where n t))

  -- they ascend
  pub where_rises : (n : ℕ) → Rises (cells_where n t)
  unfolding cells_where
  where_rises zero = tt
  where_rises (suc n) = go (t n) (where_rises n)
    where
      more : (ys : List ℕ) → All (λ y. y ≡ n) ys → Rises ys → Rises (cells_where n t) → Rises (cells_where n t ++ ys)
      more ys h b a = ascends_append (λ x y l e. omega arith) (cells_where n t) ys (where_below n) h a b

      go : (u : Bool) → Rises (cells_where n t) → Rises (cells_where n t ++ cond u (n ∷ []) [])
      go true = more (n ∷ []) (refl, tt) (tt, tt)
      go false = more [] tt tt

-- ---- by their places

pub all_place : (P : ℕ → Type 0) (xs : List ℕ) → All P xs → (i : ℕ) → i < length xs → P (get_or xs i 0)
all_place P [] p i l = absurd (omega arith)
all_place P (x ∷ xs) p zero l = p.0
all_place P (x ∷ xs) p (suc i) l = all_place P xs p.1 i (omega arith)

pub rises_place : (xs : List ℕ) → Rises xs → (i j : ℕ) → i < j → j < length xs → get_or xs i 0 < get_or xs j 0
rises_place [] a i j l m = absurd (omega arith)
rises_place (x ∷ xs) a i zero l m = absurd (omega arith)
rises_place (x ∷ xs) a zero (suc j) l m = all_place (λ y. x < y) xs a.0 j (omega arith)
rises_place (x ∷ xs) a (suc i) (suc j) l m = rises_place xs a.1 i j (omega arith) (omega arith)

-- ---- the same members

has_mem : (xs : List ℕ) (x : ℕ) → Has xs x → mem x xs ≡ true
has_mem [] x h = absurd h
has_mem (y ∷ ys) x (inl e) = mem_head x y ys (sym e)
has_mem (y ∷ ys) x (inr h) = mem_on x y ys (has_mem ys x h)

mem_has : (xs : List ℕ) (x : ℕ) → mem x xs ≡ true → Has xs x
mem_has [] x h = no_mem x h
mem_has (y ∷ ys) x h = ⊎_map sym (mem_has ys x) (mem_cases x y ys h)

-- All members of the one are members of the other.
abbrev pub Inside : List ℕ → List ℕ → Type 0
Inside xs ys = (x : ℕ) → mem x xs ≡ true → mem x ys ≡ true

pub same_members : (xs ys : List ℕ) → Rises xs → Rises ys → Inside xs ys → Inside ys xs → xs ≡ ys
same_members xs ys a b f g =
    ascends_same (λ x y. x < y) (λ x y l m. omega arith) xs ys a b
    (λ z h. mem_has ys z (f z (has_mem xs z h))) (λ z h. mem_has xs z (g z (has_mem ys z h)))

-- ---- more members

where_more : (s t : ℕ → Bool) → ((x : ℕ) → s x ≡ true → t x ≡ true) → (n : ℕ)
    → (cells_where n s ≡ cells_where n t) ⊎ (length (cells_where n s) < length (cells_where n t))
unfolding cells_where
where_more s t f zero = inl refl
where_more s t f (suc n) = go (is_test (s n)) (is_test (t n)) (where_more s t f n)
  where
    xs : List ℕ
    xs = cells_where n s

    ys : List ℕ
    ys = cells_where n t

    end : List ℕ
    end = n ∷ []

    go : {p q : Bool} → Test (s n ≡ true) (s n ≡ false) p → Test (t n ≡ true) (t n ≡ false) q
        → (xs ≡ ys) ⊎ (length xs < length ys)
        → (xs ++ cond p end [] ≡ ys ++ cond q end []) ⊎ (length (xs ++ cond p end []) < length (ys ++ cond q end []))
    go (pass p) (fail q) i = clash (f n p) q
    go (pass p) (pass q) (inl e) = inl (ap (λ zs. zs ++ end) e)
    go (pass p) (pass q) (inr l) = inr (omega (arith, length-append xs end, length-append ys end))
    go (fail p) (pass q) (inl e) = inr (omega (arith, ap length e, length-append {A = ℕ} xs [], length-append ys end))
    go (fail p) (pass q) (inr l) = inr (omega (arith, length-append {A = ℕ} xs [], length-append ys end))
    go (fail p) (fail q) (inl e) = inl (ap (λ zs. zs ++ []) e)
    go (fail p) (fail q) (inr l) = inr (omega (arith, length-append {A = ℕ} xs [], length-append {A = ℕ} ys []))

where_members : (n : ℕ) (xs : List ℕ) → Rises xs → All (λ x. x < n) xs → cells_where n (λ x. mem x xs) ≡ xs
where_members n xs a low =
    same_members (cells_where n (λ x. mem x xs)) xs (where_rises (λ x. mem x xs) n) a
    (λ x h. (holds (where_test (λ y. mem y xs) n x) h).1)
    (λ x h. where_in (λ y. mem y xs) n x (all_mem (λ y. y < n) xs low x h) h)

module _ (n : ℕ) (xs ys : List ℕ) (a : Rises xs) (b : Rises ys) (low : All (λ y. y < n) ys) (f : Inside xs ys) where
  pub members_more : (xs ≡ ys) ⊎ (length xs < length ys)
  members_more =
      rw (
        where_members n xs a (all_map (λ x h. all_mem (λ y. y < n) ys low x (f x h)) xs (all_members xs)),
        where_members n ys b low,
      ) at (where_more (λ x. mem x xs) (λ x. mem x ys) f n)

  pub members_length : length xs ≤ length ys
  members_length = go members_more
    where
      go : (xs ≡ ys) ⊎ (length xs < length ys) → length xs ≤ length ys
      go (inl e) = omega (arith, ap length e)
      go (inr l) = omega arith

-- ---- a member that passes

pub any_test : (t : ℕ → Bool) (xs : List ℕ)
    → Test ((x : ℕ) × (mem x xs ≡ true) × (t x ≡ true)) ((x : ℕ) → mem x xs ≡ true → t x ≡ false) (any t xs)
any_test t [] = fail (λ x h. no_mem x h)
any_test t (y ∷ ys) = go (is_test (t y)) (any_test t ys)
  where
    go : {p q : Bool} → Test (t y ≡ true) (t y ≡ false) p
        → Test ((x : ℕ) × (mem x ys ≡ true) × (t x ≡ true)) ((x : ℕ) → mem x ys ≡ true → t x ≡ false) q
        → Test ((x : ℕ) × (mem x (y ∷ ys) ≡ true) × (t x ≡ true)) ((x : ℕ) → mem x (y ∷ ys) ≡ true → t x ≡ false)
        (p || q)
    go (pass p) q = pass (y, mem_head y y ys refl, p)
    go (fail p) (pass q) = pass (q.0, mem_on q.0 y ys q.1, q.2)
    go (fail p) (fail q) = fail (λ x h. by x (mem_cases x y ys h))
      where
        by : (x : ℕ) → (y ≡ x) ⊎ (mem x ys ≡ true) → t x ≡ false
        by x (inl e) = ap t (sym e) ∙ p
        by x (inr k) = q x k
