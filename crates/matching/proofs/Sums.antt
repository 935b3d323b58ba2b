-- Laws of sums and tests over pairs. In order: arithmetic of counts; sums; Each; hits of a cell; the same pair, and
-- the pairs that are among others (`In`).
use mathlib.Core.Path.{◌≡◌, refl, sym, ap, ap₂, ◌∙◌}
use mathlib.Core.Logic.{◌⊎◌, inl, inr, ◌≢◌}
use mathlib.Core.Bool.{Bool, true, false, not, cond, ◌&&◌, ◌||◌}
use mathlib.Core.List.{List, [], ◌∷◌, ◌++◌}
use Prim.Native.Nat.{ℕ, ◌+◌, ◌*◌, ◌≤◌, ◌<◌}
use native.Mathlib.Omega.{arith}
use native.Mathlib.Nat.{mul-le-mul_left, mul-le-mul_right}
use lib.Dec.{eqb}
use borrow.Author.Tests.{eq-eqb, ne_eqb}
use Rattle.matching.specs.Pairs.{Pair, Points, ι, sum, Each, keep, touches, hit, same, like, without}
use Rattle.matching.specs.Pairing.{Once}
use Rattle.matching.proofs.Tests.{Test, pass, fail, is_test, eq_test, lt_test, not_test, or_test, holds, fails}
use Rattle.matching.proofs.Pairs.{Same, Apart, same_test}

-- ---- arithmetic of counts

pub times_le : (k : ℕ) {m n : ℕ} → m ≤ n → k * m ≤ k * n
times_le k h = mul-le-mul_left k h

pub times_one : (x k : ℕ) → k ≡ 1 → x * k ≡ x
times_one x k e = rw e (omega arith)

pub times_none : (x k : ℕ) → k ≡ 0 → x * k ≡ 0
times_none x k e = rw e (omega arith)

pub one_times : (x k : ℕ) → x ≡ 1 → x * k ≡ k
one_times x k e = rw e (omega arith)

pub none_times : (x k : ℕ) → x ≡ 0 → x * k ≡ 0
none_times x k e = rw e (omega arith)

-- ---- sums

pub sum_append : (f : Points) (m k : List Pair) → sum f (m ++ k) ≡ sum f m + sum f k
sum_append f [] k = omega arith
sum_append f (e ∷ m) k = omega (arith, sum_append f m k)

pub sum_add : (f g : Points) (m : List Pair) → sum (λ a b. f a b + g a b) m ≡ sum f m + sum g m
sum_add f g [] = omega arith
sum_add f g (e ∷ m) = omega (arith, sum_add f g m)

pub sum_scale : (k : ℕ) (f : Points) (m : List Pair) → sum (λ a b. k * f a b) m ≡ k * sum f m
sum_scale k f [] = omega arith
sum_scale k f (e ∷ m) = omega (arith, sum_scale k f m)

pub sum_le : {P : ℕ → ℕ → Type 0} (f g : Points) → ((a b : ℕ) → P a b → f a b ≤ g a b)
    → (m : List Pair) → Each P m → sum f m ≤ sum g m
sum_le f g h [] p = omega arith
sum_le f g h (e ∷ m) p = omega (arith, h e.0 e.1 p.0, sum_le f g h m p.1)

pub sum_le_all : (f g : Points) → ((a b : ℕ) → f a b ≤ g a b) → (m : List Pair) → sum f m ≤ sum g m
sum_le_all f g h [] = omega arith
sum_le_all f g h (e ∷ m) = omega (arith, h e.0 e.1, sum_le_all f g h m)

pub sum_eq : {P : ℕ → ℕ → Type 0} (f g : Points) → ((a b : ℕ) → P a b → f a b ≡ g a b)
    → (m : List Pair) → Each P m → sum f m ≡ sum g m
sum_eq f g h [] p = omega arith
sum_eq f g h (e ∷ m) p = omega (arith, h e.0 e.1 p.0, sum_eq f g h m p.1)

pub sum_none : {P : ℕ → ℕ → Type 0} (f : Points) → ((a b : ℕ) → P a b → f a b ≡ 0) → (m : List Pair)
    → Each P m → sum f m ≡ 0
sum_none f h [] p = omega arith
sum_none f h (e ∷ m) p = omega (arith, h e.0 e.1 p.0, sum_none f h m p.1)

pub sum_keep : (t : ℕ → ℕ → Bool) (f : Points) (m : List Pair)
    → sum f (keep t m) + sum f (keep (λ a b. not (t a b)) m) ≡ sum f m
sum_keep t f [] = omega arith
sum_keep t f (e ∷ m) = go (t e.0 e.1) (sum_keep t f m)
  where
    go : (s : Bool) → sum f (keep t m) + sum f (keep (λ a b. not (t a b)) m) ≡ sum f m
        → sum f (cond s (e ∷ keep t m) (keep t m))
        + sum f (cond (not s) (e ∷ keep (λ a b. not (t a b)) m) (keep (λ a b. not (t a b)) m))
        ≡ f e.0 e.1 + sum f m
    go true h = omega arith
    go false h = omega arith

pub keep_append : (t : ℕ → ℕ → Bool) (m k : List Pair) → keep t (m ++ k) ≡ keep t m ++ keep t k
keep_append t [] k = refl
keep_append t (e ∷ m) k = go (t e.0 e.1) (keep_append t m k)
  where
    go : (s : Bool) → keep t (m ++ k) ≡ keep t m ++ keep t k
        → cond s (e ∷ keep t (m ++ k)) (keep t (m ++ k)) ≡ cond s (e ∷ keep t m) (keep t m) ++ keep t k
    go true i = ap (λ l. e ∷ l) i
    go false i = i

-- ---- Each

pub each_append : (P : ℕ → ℕ → Type 0) (m k : List Pair) → Each P m → Each P k → Each P (m ++ k)
each_append P [] k p q = q
each_append P (e ∷ m) k p q = (p.0, each_append P m k p.1 q)

pub each_map : {P Q : ℕ → ℕ → Type 0} → ((a b : ℕ) → P a b → Q a b) → (m : List Pair) → Each P m → Each Q m
each_map h [] p = tt
each_map h (e ∷ m) p = (h e.0 e.1 p.0, each_map h m p.1)

pub each_all : {P : ℕ → ℕ → Type 0} → ((a b : ℕ) → P a b) → (m : List Pair) → Each P m
each_all h [] = tt
each_all h (e ∷ m) = (h e.0 e.1, each_all h m)

pub each_keep : {P Q : ℕ → ℕ → Type 0} (t : ℕ → ℕ → Bool) → ((a b : ℕ) → P a b → t a b ≡ true → Q a b)
    → (m : List Pair) → Each P m → Each Q (keep t m)
each_keep t h [] p = tt
each_keep {P} {Q} t h (e ∷ m) p = go (t e.0 e.1) refl (each_keep t h m p.1)
  where
    go : (s : Bool) → t e.0 e.1 ≡ s → Each Q (keep t m) → Each Q (cond s (e ∷ keep t m) (keep t m))
    go true eq r = (h e.0 e.1 p.0 eq, r)
    go false eq r = r

pub each_zero : (f : Points) (m : List Pair) → sum f m ≡ 0 → Each (λ a b. f a b ≡ 0) m
each_zero f [] h = tt
each_zero f (e ∷ m) h = (omega arith, each_zero f m (omega arith))

-- ---- hits

pub touches_test : (c a b : ℕ) → Test ((a ≡ c) ⊎ (b ≡ c)) ((a ≢ c) × (b ≢ c)) (touches c a b)
touches_test c a b = or_test (eq_test a c) (eq_test b c)

pub ι_is : (a : ℕ) {b : ℕ} → a ≡ b → ι (eqb a b) ≡ 1
ι_is a {b} e = rw (eq-eqb a b e)

pub ι_not : (a b : ℕ) → a ≢ b → ι (eqb a b) ≡ 0
ι_not a b e = rw (ne_eqb a b e)

pub hit_none : (c a b : ℕ) → a ≢ c → b ≢ c → hit c a b ≡ 0
unfolding hit
hit_none c a b h k = omega (arith, ι_not a c h, ι_not b c k)

pub hit_left : (a b : ℕ) → a ≢ b → hit a a b ≡ 1
unfolding hit
hit_left a b h = omega (arith, ι_is a {b = a} refl, ι_not b a (λ e. h (sym e)))

pub hit_right : (a b : ℕ) → a ≢ b → hit b a b ≡ 1
unfolding hit
hit_right a b h = omega (arith, ι_is b {b = b} refl, ι_not a b h)

pub hit_some : (c a b : ℕ) → (a ≡ c) ⊎ (b ≡ c) → 1 ≤ hit c a b
unfolding hit
hit_some c a b (inl e) = omega (arith, ι_is a e)
hit_some c a b (inr e) = omega (arith, ι_is b e)

pub hit_one : (c a b : ℕ) → (a ≡ c) ⊎ (b ≡ c) → a ≢ b → hit c a b ≡ 1
unfolding hit
hit_one c a b (inl e) n = omega (arith, ι_is a e, ι_not b c (λ q. n (e ∙ sym q)))
hit_one c a b (inr e) n = omega (arith, ι_is b e, ι_not a c (λ q. n (q ∙ sym e)))

pub hit_turned : (c a b : ℕ) → hit c a b ≡ hit c b a
unfolding hit
hit_turned c a b = omega arith

pub hit_most : (c a b : ℕ) → a ≢ b → hit c a b ≤ 1
hit_most c a b n = go (touches_test c a b)
  where
    go : {t : Bool} → Test ((a ≡ c) ⊎ (b ≡ c)) ((a ≢ c) × (b ≢ c)) t → hit c a b ≤ 1
    go (pass p) = omega (arith, hit_one c a b p n)
    go (fail m) = omega (arith, hit_none c a b m.0 m.1)

-- ---- the same pair

pub or_turn : (p q : Bool) → p || q ≡ q || p
or_turn true true = refl
or_turn true false = refl
or_turn false true = refl
or_turn false false = refl

pub and_turn : (p q : Bool) → p && q ≡ q && p
and_turn true true = refl
and_turn true false = refl
and_turn false true = refl
and_turn false false = refl

pub same_turned : (x y a b : ℕ) → same x y a b ≡ same x y b a
same_turned x y a b = go (eqb a x) (eqb b y) (eqb a y) (eqb b x)
  where
    go : (p q r s : Bool) → (p && q) || (r && s) ≡ (s && r) || (q && p)
    go p q r s = cc (or_turn (p && q) (r && s), and_turn p q, and_turn r s)

pub like_turned : (x y a b : ℕ) → like x y a b ≡ like x y b a
unfolding like
like_turned x y a b = ap ι (same_turned x y a b)

pub like_self : (x y : ℕ) → like x y x y ≡ 1
unfolding like
like_self x y = rw (eq-eqb x x refl, eq-eqb y y refl)

pub zero_like : (x y a b : ℕ) → (Same x y a b → ⊥) → like x y a b ≡ 0
unfolding like
zero_like x y a b n = ap ι (fails (same_test x y a b) n)

pub like_flip : (x y a b : ℕ) → like x y a b ≡ like y x a b
unfolding like
like_flip x y a b = ap ι (or_turn (eqb a x && eqb b y) (eqb a y && eqb b x))

pub like_same : (x y a b : ℕ) → 1 ≤ like x y a b → Same x y a b
unfolding like
like_same x y a b = go (same_test x y a b)
  where
    go : {t : Bool} → Test (Same x y a b) (Apart x y a b) t → 1 ≤ ι t → Same x y a b
    go (pass p) h = p
    go (fail n) h = (let z : ⊥ = omega arith in absurd z)

pub sum_apart : (f : Points) → ((a b : ℕ) → f a b ≡ f b a) → (x y : ℕ) (m : List Pair)
    → sum f m ≡ f x y * sum (like x y) m + sum f (without x y m)
unfolding like
sum_apart f s x y [] = omega arith
sum_apart f s x y (e ∷ m) = go (same_test x y e.0 e.1) (sum_apart f s x y m)
  where
    go : {t : Bool} → Test (Same x y e.0 e.1) (Apart x y e.0 e.1) t
        → sum f m ≡ f x y * sum (like x y) m + sum f (without x y m)
        → f e.0 e.1 + sum f m
        ≡ f x y * (ι t + sum (like x y) m) + sum f (cond (not t) (e ∷ without x y m) (without x y m))
    go (pass (inl p)) i = let z : f e.0 e.1 ≡ f x y = ap₂ f p.0 p.1 in omega arith
    go (pass (inr p)) i = let z : f e.0 e.1 ≡ f x y = ap₂ f p.0 p.1 ∙ s y x in omega arith
    go (fail n) i = omega arith

pub like_once : (x y : ℕ) (m : List Pair) → Once m → sum (like x y) m ≤ 1
like_once x y m o =
    omega (
      arith,
      o x,
      sum_apart (hit x) (hit_turned x) x y m,
      mul-le-mul_right (sum (like x y) m) (hit_some x x y (inl refl)),
    )

-- the cells a, b are a pair of the list
abbrev pub In : List Pair → ℕ → ℕ → Type 0
In es a b = 1 ≤ sum (λ x y. like x y a b) es

pub in_head : (x y : ℕ) (es : List Pair) → In ((x, y) ∷ es) x y
unfolding like
in_head x y es = rw (eq-eqb x x refl, eq-eqb y y refl) (omega arith)

pub in_all : (es : List Pair) → Each (In es) es
in_all [] = tt
in_all (e ∷ es) = (in_head e.0 e.1 es, each_map (λ a b h. omega arith) es (in_all es))

pub in_turned : (es : List Pair) (a b : ℕ) → In es a b → In es b a
in_turned es a b h =
    omega (
      arith,
      sum_le_all (λ x y. like x y a b) (λ x y. like x y b a)
          (λ x y. omega (arith, like_turned x y a b)) es,
    )

pub in_cases : (x y : ℕ) (es : List Pair) (a b : ℕ) → In ((x, y) ∷ es) a b → Same x y a b ⊎ In es a b
in_cases x y es a b h = go (lt_test 0 (like x y a b))
  where
    go : {t : Bool} → Test (0 < like x y a b) (like x y a b ≤ 0) t → Same x y a b ⊎ In es a b
    go (pass p) = inl (like_same x y a b p)
    go (fail q) = inr (omega arith)

pub no_in : {P : Type 0} (a b : ℕ) → In [] a b → P
no_in a b h = (let z : ⊥ = omega arith in absurd z)

-- the order of two cells does not matter
abbrev pub Turned : Points → Type 0
Turned f = (a b : ℕ) → f a b ≡ f b a

pub once_cons : (x y : ℕ) (m : List Pair) → x ≢ y → sum (hit x) m ≡ 0 → sum (hit y) m ≡ 0 → Once m → Once ((x, y) ∷ m)
once_cons x y m n hx hy o c = go (eq_test x c) (eq_test y c)
  where
    go : {s t : Bool} → Test (x ≡ c) (x ≢ c) s → Test (y ≡ c) (y ≢ c) t → hit c x y + sum (hit c) m ≤ 1
    go (pass e) q = omega (arith, hit_most c x y n, ap (λ d. sum (hit d) m) e)
    go (fail k) (pass e) = omega (arith, hit_most c x y n, ap (λ d. sum (hit d) m) e)
    go (fail k) (fail l) = omega (arith, hit_none c x y k l, o c)

pub keep_all : (m : List Pair) → keep (λ a b. true) m ≡ m
keep_all [] = refl
keep_all (e ∷ m) = ap (λ l. e ∷ l) (keep_all m)

pub keep_and : (s t : ℕ → ℕ → Bool) (m : List Pair) → keep (λ a b. s a b && t a b) m ≡ keep t (keep s m)
keep_and s t [] = refl
keep_and s t (e ∷ m) = go (s e.0 e.1) (keep_and s t m)
  where
    both : List Pair
    both = keep (λ a b. s a b && t a b) m

    go : (p : Bool) → both ≡ keep t (keep s m)
        → cond (p && t e.0 e.1) (e ∷ both) both ≡ keep t (cond p (e ∷ keep s m) (keep s m))
    go true i = ap (λ l. cond (t e.0 e.1) (e ∷ l) l) i
    go false i = i

-- a pairing and one pair x, y: the others, and how often the pair stands there
pub without_once : (x y : ℕ) (m : List Pair) → Once m → Once (without x y m)
without_once x y m o c = omega (arith, sum_apart (hit c) (hit_turned c) x y m, o c)

pub without_none : (x y : ℕ) (m : List Pair) (c : ℕ) → sum (hit c) m ≡ 0 → sum (hit c) (without x y m) ≡ 0
without_none x y m c h = omega (arith, sum_apart (hit c) (hit_turned c) x y m)

pub like_hit : (x y : ℕ) (m : List Pair) (c : ℕ) → (x ≡ c) ⊎ (y ≡ c)
    → sum (like x y) m + sum (hit c) (without x y m) ≤ sum (hit c) m
like_hit x y m c h =
    omega (arith, sum_apart (hit c) (hit_turned c) x y m, mul-le-mul_right (sum (like x y) m) (hit_some c x y h))

pub without_in : (x y : ℕ) (m es : List Pair) → Each (In ((x, y) ∷ es)) m → Each (In es) (without x y m)
unfolding like
without_in x y m es p =
    each_keep (λ a b. not (same x y a b)) (λ a b h e. omega
    (arith, ap ι (holds (not_test (is_test (same x y a b))) e))) m p

pub turned_same : (f : Points) → Turned f → (x y a b : ℕ) → Same x y a b → f a b ≡ f x y
turned_same f t x y a b (inl p) = ap₂ f p.0 p.1
turned_same f t x y a b (inr p) = ap₂ f p.0 p.1 ∙ t y x

-- `sum_apart`, where the pair x, y may stay
pub sum_unless : (d : Bool) (f : Points) → Turned f → (x y : ℕ) (m : List Pair)
    → sum f m ≡ f x y * cond d 0 (sum (like x y) m) + sum f (keep (λ a b. d || not (same x y a b)) m)
sum_unless true f t x y m = rw (keep_all m) (omega arith)
sum_unless false f t x y m = sum_apart f t x y m

pub same_self : (x y : ℕ) → same x y x y ≡ true
same_self x y = rw (eq-eqb x x refl, eq-eqb y y refl)
