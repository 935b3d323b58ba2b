-- The places of a set. In order: the bits of a set less one place; the places of a set less one place (`places_less`);
-- the places from one on (`from`), and that none is from k on in a set of the first k places (`from_end`); the lowest
-- place, as the zeros below it (`lowest_place`), and the others (`first_place`); how many places there are; the same,
-- where the set of one place is given by its number (`without_first`, `fewer_first`, `fewer_next`); that number as a
-- shift (`one_shifted`).
use mathlib.Core.Path.{◌≡◌, refl, sym, ap, ap₂, ◌∙◌}
use mathlib.Core.Logic.{◌≢◌}
use mathlib.Core.Bool.{Bool, true, false, cond, ◌||◌}
use mathlib.Core.List.{List, [], ◌∷◌, ◌++◌, append_assoc, append-nil}
use Prim.Native.Nat.{ℕ, zero, suc, ◌+◌, ◌*◌, ◌-◌, ◌/◌, ◌%◌, ◌^◌, ◌≤◌, ◌<◌}
use native.Mathlib.Omega.{arith, by_contra}
use native.Mathlib.Nat.{pow-suc, zero-div, div-eq_of_lt, div-eq-sub-div, add-mul-div_left}
use lib.Dec.{eqb}
use lib.ListN.{length, length-append}
use lib.Pow.{pow_pos, pow_mono, pow-add, shl_exact, shr-shr}
use borrow.Author.Tests.{eq-eqb, ne_eqb}
use Rattle.std.specs.Int.{w64, trailing_zeros}
use Rattle.std.proofs.lemmas.Nat.Bits.{bit_at-trailing_zeros, bit_at_above}
use Rattle.matching.specs.Lists.{mem, All}
use Rattle.matching.specs.Solve.{less}
use Rattle.matching.proofs.Tests.{Test, pass, fail, eq_test, lt_test}
use Rattle.matching.proofs.Members.{mem_append, mem_head, no_mem, or_left, or_right}
use Rattle.matching.proofs.Alls.{all_map, all_append}
use Rattle.matching.proofs.Solve.{less_length}
use Rattle.sets.specs.Sets.{places, in_set, Lowest}

-- ---- the bits of a set less one place

module _ (r p : ℕ) (h : r / 2 ^ p % 2 ≡ 1) where
  bit_within : 2 ^ p ≤ r
  bit_within = by_contra (2 ^ p) r no
    where
      no : r < 2 ^ p → ⊥
      no l = (let z : r / 2 ^ p ≡ 0 = div-eq_of_lt l in omega (arith, ap (λ (q : ℕ). q % 2) z))

  one_less : r / 2 ^ p ≡ (r - 2 ^ p) / 2 ^ p + 1
  one_less = div-eq-sub-div (pow_pos p) bit_within

  bit_own : (r - 2 ^ p) / 2 ^ p % 2 ≡ 0
  bit_own = omega (arith, one_less)

  bit_above : (d : ℕ) → (r - 2 ^ p) / 2 ^ (p + (1 + d)) ≡ r / 2 ^ (p + (1 + d))
  bit_above d = sym (down (r - 2 ^ p)) ∙ ap (λ (x : ℕ). x / 2 ^ d) half ∙ down r
    where
      half : (r - 2 ^ p) / 2 ^ p / 2 ≡ r / 2 ^ p / 2
      half = omega (arith, one_less, h)

      down : (x : ℕ) → x / 2 ^ p / 2 / 2 ^ d ≡ x / 2 ^ (p + (1 + d))
      down x = shr-shr (x / 2 ^ p) 1 d ∙ shr-shr x p (1 + d)

bit_below : (r q d : ℕ) → 2 ^ (q + suc d) ≤ r → (r - 2 ^ (q + suc d)) / 2 ^ q % 2 ≡ r / 2 ^ q % 2
bit_below r q d l =
    let e : 2 ^ (q + suc d) ≡ 2 ^ q * 2 ^ suc d = pow-add 2 q (suc d) in
    let m : 2 ^ suc d ≡ 2 ^ d * 2 = pow-suc 2 d in
    let s : (r - 2 ^ (q + suc d)) + 2 ^ q * 2 ^ suc d ≡ r = omega arith in
    let a = add-mul-div_left (r - 2 ^ (q + suc d)) (2 ^ suc d) (pow_pos q) in
    omega (arith, ap (λ (x : ℕ). x / 2 ^ q) s)

bit_other : (r p q : ℕ) → r / 2 ^ p % 2 ≡ 1 → q ≢ p → (r - 2 ^ p) / 2 ^ q % 2 ≡ r / 2 ^ q % 2
bit_other r p q h n = go (lt_test p q)
  where
    go : {t : Bool} → Test (p < q) (q ≤ p) t → (r - 2 ^ p) / 2 ^ q % 2 ≡ r / 2 ^ q % 2
    go (pass l) =
        (let e : q ≡ p + (1 + (q - p - 1)) = omega arith in
        rw e (ap (λ (x : ℕ). x % 2) (bit_above r p h (q - p - 1))))
    go (fail l) =
        (let e : p ≡ q + suc (p - q - 1) = omega arith in
        ap (λ (x : ℕ). (r - 2 ^ x) / 2 ^ q % 2) e
        ∙ bit_below r q (p - q - 1) (omega (arith, ap (λ (x : ℕ). 2 ^ x) e, bit_within r p h)))

-- ---- the places of a set less one place

-- a place, if it is in the set
abbrev only : ℕ → ℕ → List ℕ
only q s = cond (eqb (s / 2 ^ q % 2) 1) (q ∷ []) []

only_in : (q s : ℕ) → s / 2 ^ q % 2 ≡ 1 → only q s ≡ q ∷ []
only_in q s h = rw (eq-eqb (s / 2 ^ q % 2) 1 h)

only_out : (q s : ℕ) → s / 2 ^ q % 2 ≢ 1 → only q s ≡ []
only_out q s n = rw (ne_eqb (s / 2 ^ q % 2) 1 n)

less_append : (p : ℕ) (xs ys : List ℕ) → less p (xs ++ ys) ≡ less p xs ++ less p ys
less_append p [] ys = refl
less_append p (x ∷ xs) ys = go (eqb x p) (less_append p xs ys)
  where
    go : (t : Bool) → less p (xs ++ ys) ≡ less p xs ++ less p ys
        → cond t (less p (xs ++ ys)) (x ∷ less p (xs ++ ys)) ≡ cond t (less p xs) (x ∷ less p xs) ++ less p ys
    go true e = e
    go false e = ap (λ zs. x ∷ zs) e

module _ (r p : ℕ) (h : r / 2 ^ p % 2 ≡ 1) where
  less_only : (q : ℕ) → less p (only q r) ≡ only q (r - 2 ^ p)
  less_only q = go (eq_test q p)
    where
      stays : q ≢ p → (t : Bool) → less p (cond t (q ∷ []) []) ≡ cond t (q ∷ []) []
      stays n true = rw (ne_eqb q p n)
      stays n false = refl

      go : {t : Bool} → Test (q ≡ p) (q ≢ p) t → less p (only q r) ≡ only q (r - 2 ^ p)
      go (pass e) =
          rw e (ap (less p) (only_in p r h) ∙ rw (eq-eqb p p refl)
          (sym (only_out p (r - 2 ^ p) (λ z. omega (arith, z, bit_own r p h)))))
      go (fail n) = stays n (eqb (r / 2 ^ q % 2) 1) ∙ ap (λ b. cond (eqb b 1) (q ∷ []) []) (sym (bit_other r p q h n))

  pub places_less : (k : ℕ) → less p (places k r) ≡ places k (r - 2 ^ p)
  unfolding places
  places_less zero = refl
  places_less (suc k) = less_append p (places k r) (only k r) ∙ ap₂ (λ x y. x ++ y) (places_less k) (less_only k)

-- ---- the places from one on

pub places_empty : (k s : ℕ) → s ≡ 0 → places k s ≡ []
unfolding places
places_empty zero s e = refl
places_empty (suc k) s e =
    (let z : s / 2 ^ k ≡ 0 = ap (λ (x : ℕ). x / 2 ^ k) e ∙ zero-div (2 ^ k) in
    rw (places_empty k s e, only_out k s (λ q. omega (arith, q, z))))

places_suc : (k s : ℕ) → places (suc k) s ≡ places k s ++ only k s
unfolding places
places_suc k s = refl

abbrev pub from : ℕ → ℕ → ℕ → List ℕ
from zero p s = []
from (suc k) p s = only p s ++ from k (suc p) s

places_from : (k p s : ℕ) → places p s ++ from k p s ≡ places (k + p) s
unfolding places
places_from zero p s = (let z : 0 + p ≡ p = omega arith in rw z (append-nil (places p s)))
places_from (suc k) p s =
    let z : suc k + p ≡ k + suc p = omega arith in
    rw z (sym (append_assoc (places p s) (only p s) (from k (suc p) s)) ∙ places_from k (suc p) s)

pub from_in : (p s : ℕ) → p < 12 → s / 2 ^ p % 2 ≡ 1 → from (12 - p) p s ≡ p ∷ from (12 - (p + 1)) (p + 1) s
from_in p s l h =
    let e : 12 - p ≡ suc (12 - (p + 1)) = omega arith in
    let f : suc p ≡ p + 1 = omega arith in
    rw (e, f, only_in p s h)

pub from_out : (p s : ℕ) → p < 12 → s / 2 ^ p % 2 ≢ 1 → from (12 - p) p s ≡ from (12 - (p + 1)) (p + 1) s
from_out p s l h =
    let e : 12 - p ≡ suc (12 - (p + 1)) = omega arith in
    let f : suc p ≡ p + 1 = omega arith in
    rw (e, f, only_out p s h)

-- no place from k on is in a set of the first k places
pub from_end : (n k p s : ℕ) → s < 2 ^ k → k ≤ p → from n p s ≡ []
from_end zero k p s h l = refl
from_end (suc n) k p s h l =
    let m : 2 ^ k ≤ 2 ^ p = pow_mono l in
    let z : s / 2 ^ p ≡ 0 = div-eq_of_lt (omega arith) in
    rw (only_out p s (λ e. omega (arith, e, z)), from_end n k (suc p) s h (omega arith))

-- ---- the lowest place, and the others

places_gone : (c s : ℕ) → ((i : ℕ) → i < c → s / 2 ^ i % 2 ≡ 0) → places c s ≡ []
unfolding places
places_gone zero s z = refl
places_gone (suc c) s z =
    rw (places_gone c s (λ i l. z i (omega arith)), only_out c s (λ e. omega (arith, e, z c (omega arith))))

pub lowest_place : (s : ℕ) → 0 < s → s < 4096 → Lowest (trailing_zeros w64 s) s
lowest_place s l m =
    let t = bit_at-trailing_zeros w64 s l (omega arith) in (
      by_contra (suc (trailing_zeros w64 s)) 12
          (λ n. omega (arith, t.1, bit_at_above s 12 (trailing_zeros w64 s) m (omega arith))),
      t.1,
      places_gone _ s t.2,
    )

module _ (c s : ℕ) (l : c < 12) (h : s / 2 ^ c % 2 ≡ 1) (e : places c s ≡ []) where
  from_less : (k d : ℕ) → from k (c + (1 + d)) (s - 2 ^ c) ≡ from k (c + (1 + d)) s
  from_less zero d = refl
  from_less (suc k) d =
      let z : suc (c + (1 + d)) ≡ c + (1 + suc d) = omega arith in
      ap₂ (λ x y. x ++ y) (ap (λ b. cond (eqb (b % 2) 1) ((c + (1 + d)) ∷ []) []) (bit_above s c h d))
      (rw z (from_less k (suc d)))

  parts : (x : ℕ) → places (suc c) x ++ from (11 - c) (suc c) x ≡ in_set x
  parts x = (let z : 11 - c + suc c ≡ 12 = omega arith in places_from (11 - c) (suc c) x ∙ ap (λ k. places k x) z)

  here : places (suc c) s ≡ c ∷ []
  here = places_suc c s ∙ rw (e, only_in c s h)

  gone : places (suc c) (s - 2 ^ c) ≡ []
  gone = sym (places_less s c h (suc c)) ∙ ap (less c) here ∙ rw (eq-eqb c c refl)

  others : from (11 - c) (suc c) (s - 2 ^ c) ≡ from (11 - c) (suc c) s
  others = (let z : suc c ≡ c + (1 + 0) = omega arith in rw z (from_less (11 - c) 0))

  first_place : in_set s ≡ c ∷ in_set (s - 2 ^ c)
  first_place =
      sym (parts s) ∙ ap (λ zs. zs ++ from (11 - c) (suc c) s) here
      ∙ ap (λ zs. c ∷ zs) (sym (sym (parts (s - 2 ^ c)) ∙ ap₂ (λ x y. x ++ y) gone others))

-- ---- how many places there are

pub places_under : (k s : ℕ) → All (λ x. x < k) (places k s)
unfolding places
places_under zero s = tt
places_under (suc k) s =
    all_append (λ x. x < suc k) (places k s) (only k s) (all_map (λ x l. omega arith) (places k s) (places_under k s))
    (go (eqb (s / 2 ^ k % 2) 1))
  where
    go : (t : Bool) → All (λ x. x < suc k) (cond t (k ∷ []) [])
    go true = (omega arith, tt)
    go false = tt

pub places_few : (k s : ℕ) → length (places k s) ≤ k
unfolding places
places_few zero s = omega arith
places_few (suc k) s =
    omega (arith, length-append (places k s) (only k s), places_few k s, go (eqb (s / 2 ^ k % 2) 1))
  where
    go : (t : Bool) → length (cond t (k ∷ []) []) ≤ 1
    go true = omega arith
    go false = omega arith

places_mem : (k p s : ℕ) → p < k → s / 2 ^ p % 2 ≡ 1 → mem p (places k s) ≡ true
unfolding places
places_mem zero p s l h = (let z : ⊥ = omega arith in absurd z)
places_mem (suc k) p s l h = mem_append p (places k s) (only k s) ∙ go (eq_test p k) (λ m. places_mem k p s m h)
  where
    go : {t : Bool} → Test (p ≡ k) (p ≢ k) t → (p < k → mem p (places k s) ≡ true)
        → mem p (places k s) || mem p (only k s) ≡ true
    go (pass e) i =
        or_right (mem p (places k s)) (mem p (only k s))
        (ap (mem p) (only_in k s (rw e at h)) ∙ mem_head p k [] (sym e))
    go (fail n) i = or_left (mem p (places k s)) (mem p (only k s)) (i (omega arith))

less_shorter : (p : ℕ) (cs : List ℕ) → mem p cs ≡ true → length (less p cs) < length cs
less_shorter p [] h = no_mem p h
less_shorter p (c ∷ cs) h = go (eq_test c p) h (less_shorter p cs)
  where
    go : {t : Bool} → Test (c ≡ p) (c ≢ p) t → t || mem p cs ≡ true
        → (mem p cs ≡ true → length (less p cs) < length cs)
        → length (cond t (less p cs) (c ∷ less p cs)) < suc (length cs)
    go (pass e) m i = omega (arith, less_length p cs)
    go (fail n) m i = omega (arith, i m)

-- ---- where the set of one place is given by its number

pub without_first : (c s : ℕ) {b : ℕ} → b ≡ 2 ^ c → Lowest c s → (b ≤ s) × (in_set s ≡ c ∷ in_set (s - b))
without_first c s e h = rw e (bit_within s c h.1, first_place c s h.0 h.1 h.2)

-- the others are above it
pub others_from : (c s : ℕ) {b : ℕ} → b ≡ 2 ^ c → Lowest c s → from (12 - (c + 1)) (c + 1) (s - b) ≡ in_set (s - b)
others_from c s e h = rw e (go none)
  where
    none : places (suc c) (s - 2 ^ c) ≡ []
    none =
        sym (places_less s c h.1 (suc c))
        ∙ ap (less c) (places_suc c s ∙ ap₂ (λ x y. x ++ y) h.2 (only_in c s h.1))
        ∙ rw (eq-eqb c c refl) refl

    go : places (suc c) (s - 2 ^ c) ≡ [] → from (12 - (c + 1)) (c + 1) (s - 2 ^ c) ≡ in_set (s - 2 ^ c)
    go z =
        let f : suc c ≡ c + 1 = omega arith in
        let n : 12 - (c + 1) + (c + 1) ≡ 12 = omega (arith, h.0) in
        rw (f) at (ap (λ zs. zs ++ from (12 - (c + 1)) (suc c) (s - 2 ^ c)) (sym z)
        ∙ places_from (12 - (c + 1)) (suc c) (s - 2 ^ c)) ∙ ap (λ k. places k (s - 2 ^ c)) n

pub lowest_one : (c d s : ℕ) → Lowest c s → Lowest d s → c ≡ d
lowest_one c d s l m = cc ((without_first c s refl l).1, (without_first d s refl m).1)

pub fewer_first : (c s : ℕ) {b : ℕ} → b ≡ 2 ^ c → Lowest c s → length (in_set s) ≡ suc (length (in_set (s - b)))
fewer_first c s e h = ap length (without_first c s e h).1

pub next_within : (p r : ℕ) {b : ℕ} → b ≡ 2 ^ p → r / 2 ^ p % 2 ≡ 1 → b ≤ r
next_within p r e h = rw e (bit_within r p h)

pub fewer_next : (p r : ℕ) {b : ℕ} → b ≡ 2 ^ p → p < 12 → r / 2 ^ p % 2 ≡ 1
    → length (in_set (r - b)) < length (in_set r)
fewer_next p r e l h = rw (e, ← places_less r p h 12) (less_shorter p (in_set r) (places_mem 12 p r l h))

-- ---- the set of one place, as a shift

pub one_shifted : (p : ℕ) → p ≤ 12 → 1 * 2 ^ p % 2 ^ 64 ≡ 2 ^ p
one_shifted p l = shl_exact {a = 1} 1 p 64 (omega arith) (omega arith) ∙ omega arith
