-- Laws of numbers in base ten. In order: how long they are (`decimal_few`), and in lines (`numbers_few`,
-- `pair_line_few`); they are what is printed of a number (`decimal_is`), and it is put with a space before it
-- (`number_put`); the fewest digits of a number are at most 20 (`fewest_few`); read back they give the number
-- (`decimal_value`), and no zero stands in front (`decimal_front`). Assumes nothing.
use Prim.Native.Nat.{ℕ, zero, suc, ◌+◌, ◌*◌, ◌-◌, ◌/◌, ◌%◌, ◌^◌, ◌≤◌, ◌<◌}
use mathlib.Core.Path.{◌≡◌, refl, sym, ◌∙◌}
use mathlib.Core.Bool.{Bool, cond}
use mathlib.Core.List.{List, [], ◌∷◌, ◌++◌, append_assoc}
use native.Mathlib.Omega.{arith}
use native.Mathlib.Nat.{pow-suc, pow-zero, pow-le-pow_right, mul-suc}
use lib.ListN.{length, get_or, length-append}
use lib.Dec.{ltb}
use borrow.Author.Tests.{lt-ltb, le-ltb}
use Rattle.std.specs.Fmt.{decimal as printed}
use Rattle.std.proofs.lemmas.Fmt.{AppendsLastDigit, decimal_from_appends, length-decimal-le}
use Rattle.io.specs.Digits.{hex_digit_ascii, IsDigitCount}
use Rattle.matching.proofs.Tests.{Test, pass, fail, lt_test, le_test}
use Rattle.report.specs.Printed.{digits, decimal, numbers, line}

-- ---- how long

digits_few : (k v : ℕ) → length (digits k v) ≤ k
unfolding digits
digits_few zero v = omega arith
digits_few (suc k) v = go (lt_test v 10) (digits_few k (v / 10)) where
  go : {t : Bool} → Test (v < 10) (10 ≤ v) t → length (digits k (v / 10)) ≤ k
      → length (cond t [] (digits k (v / 10)) ++ (48 + v % 10) ∷ []) ≤ suc k
  go (pass p) h = omega arith
  go (fail n) h = omega (arith, length-append (digits k (v / 10)) ((48 + v % 10) ∷ []))

pub decimal_few : (v : ℕ) → length (decimal v) ≤ 20
decimal_few v = digits_few 20 v

pub numbers_few : (vs : List ℕ) → length (numbers vs) ≤ 1 + 21 * length vs
numbers_few [] = omega arith
numbers_few (v ∷ vs) =
    omega (arith, length-append (decimal v) (numbers vs), decimal_few v, numbers_few vs, mul-suc 21 (length vs))

pub pair_line_few : (a b p : ℕ) → length (line "pair" (a ∷ b ∷ p ∷ [])) ≤ 68
pair_line_few a b p = let h = numbers_few (a ∷ b ∷ p ∷ []) in omega arith

-- ---- the digits that are printed

digits_appends : AppendsLastDigit digits
unfolding digits
digits_appends =
    record {
      one = λ k n l. let e : n % 10 ≡ n = omega arith in rw (lt-ltb n 10 l, e);
      more = λ k n l. rw (le-ltb n 10 l);
    }

pub decimal_is : (v : ℕ) → v < 2 ^ 64 → printed v ≡ decimal v
decimal_is v h =
    sym (decimal_from_appends digits digits_appends 20 v h (length-decimal-le 20 v (omega arith) (omega arith) h))

-- a text with a space and the number behind it, and the rest of the line
pub number_put : (t : List ℕ) {t1 t2 bytes : List ℕ} (v : ℕ) (rest : List ℕ) → v < 2 ^ 64 → t1 ≡ t ++ 32 ∷ []
    → bytes ≡ printed v → t2 ≡ t1 ++ bytes → t2 ++ numbers rest ≡ t ++ numbers (v ∷ rest)
number_put t v rest h e b f =
    rw (f, e, b, decimal_is v h)
    (append_assoc (t ++ 32 ∷ []) (decimal v) (numbers rest) ∙ append_assoc t (32 ∷ []) (decimal v ++ numbers rest))

-- ---- the fewest digits of a number, as library `io` has them

glyph_is : (d : ℕ) → d < 10 → hex_digit_ascii d ≡ 48 + d
glyph_is d l = rw (lt-ltb d 10 l)

pub fewest_few : (v r : ℕ) → v < 18446744073709551616 → IsDigitCount 10 1 v r → r ≤ 20
fewest_few v r h (_, _, s) = go (le_test r 20) where
  go : {t : Bool} → Test (r ≤ 20) (20 < r) t → r ≤ 20
  go (pass p) = p
  go (fail n) =
      let high : 10 ^ 20 ≤ 10 ^ (r - 1) = pow-le-pow_right {n = 10} (omega arith) {i = 20} {j = r - 1} (omega arith) in
      absurd (omega (arith, high, s (omega arith)))

-- ---- what the digits are

-- The number that digits give, those before them giving v.
abbrev pub value_on : ℕ → List ℕ → ℕ
value_on v [] = v
value_on v (d ∷ ds) = value_on (v * 10 + (d - 48)) ds

value_last : (v : ℕ) (ds : List ℕ) (d : ℕ) → value_on v (ds ++ d ∷ []) ≡ value_on v ds * 10 + (d - 48)
value_last v [] d = refl
value_last v (e ∷ ds) d = value_last (v * 10 + (e - 48)) ds d

digits_value : (k v : ℕ) → v < 10 ^ k → value_on 0 (digits k v) ≡ v
unfolding digits
digits_value zero v h = omega (arith, pow-zero 10)
digits_value (suc k) v h =
    let low : v < 10 ^ k * 10 = rw (← pow-suc 10 k) h in
    value_last 0 (cond (ltb v 10) [] (digits k (v / 10))) (48 + v % 10)
    ∙ go (lt_test v 10) (digits_value k (v / 10) (omega arith)) where
      go : {t : Bool} → Test (v < 10) (10 ≤ v) t → value_on 0 (digits k (v / 10)) ≡ v / 10
          → value_on 0 (cond t [] (digits k (v / 10))) * 10 + (48 + v % 10 - 48) ≡ v
      go (pass p) e = omega arith
      go (fail n) e = omega arith

pub decimal_value : (v : ℕ) → v < 10 ^ 20 → value_on 0 (decimal v) ≡ v
decimal_value v h = digits_value 20 v h

front_append : (xs ys : List ℕ) → 49 ≤ get_or xs 0 0 → 49 ≤ get_or (xs ++ ys) 0 0
front_append [] ys h = absurd (omega arith)
front_append (x ∷ xs) ys h = h

digits_front : (k v : ℕ) → v < 10 ^ k → 1 ≤ v → 49 ≤ get_or (digits k v) 0 0
unfolding digits
digits_front zero v h p = absurd (omega (arith, pow-zero 10))
digits_front (suc k) v h p =
    let low : v < 10 ^ k * 10 = rw (← pow-suc 10 k) h in
    go (lt_test v 10) (λ b. digits_front k (v / 10) (omega arith) (omega arith)) where
      go : {t : Bool} → Test (v < 10) (10 ≤ v) t → (10 ≤ v → 49 ≤ get_or (digits k (v / 10)) 0 0)
          → 49 ≤ get_or (cond t [] (digits k (v / 10)) ++ (48 + v % 10) ∷ []) 0 0
      go (pass l) e = omega arith
      go (fail n) e = front_append (digits k (v / 10)) ((48 + v % 10) ∷ []) (e n)

pub decimal_front : (v : ℕ) → v < 10 ^ 20 → 1 ≤ v → 49 ≤ get_or (decimal v) 0 0
decimal_front v h p = digits_front 20 v h p
