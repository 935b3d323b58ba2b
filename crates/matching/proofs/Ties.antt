-- Of equals, the best by the tie of chains and rings takes the pair at the first difference (`best_first`): of any
-- pairs, none of which stands twice. Assumes nothing.
use mathlib.Core.Path.{◌≡◌, refl, sym, ap, ◌∙◌}
use mathlib.Core.Logic.{inl, inr, ◌≢◌}
use mathlib.Core.Bool.{Bool, true}
use mathlib.Core.List.{List, [], ◌∷◌}
use Prim.Native.Nat.{ℕ, ◌+◌, ◌*◌, ◌<◌}
use native.Mathlib.Omega.{arith}
use lib.Dec.{eqb, ltb}
use borrow.Author.Tests.{eq-eqb, ne_eqb, lt-ltb}
use Rattle.matching.specs.Pairs.{Pair, Points, sum, Each, like, without}
use Rattle.matching.specs.Best.{H, best}
use Rattle.matching.specs.Ties.{Within, TakesFirst}
use Rattle.matching.proofs.Tests.{Test, pass, fail, eq_test}
use Rattle.matching.proofs.Sums.{Turned, times_one, times_none, none_times, sum_none, sum_apart, each_map}
use Rattle.matching.proofs.Sums.{and_turn, like_turned, like_self, like_once}
use Rattle.matching.proofs.Best.{both, Choice, bars, leaves, takes, choice, best_each, within_out, within_in}
use Rattle.matching.proofs.Best.{within_barred, best_most}

-- No pair of the list stands twice in it, in either order.
abbrev pub Differ : List Pair → Type 0
Differ [] = Unit {0}
Differ (e ∷ es) = Each (λ a b. like e.0 e.1 a b ≡ 0) es × Differ es

-- Only how often each pair of es is held counts.
takes_ext : (es m n m' n' : List Pair)
    → Each (λ a b. (sum (like a b) m ≡ sum (like a b) m') × (sum (like a b) n ≡ sum (like a b) n')) es
    → TakesFirst es m n → TakesFirst es m' n'
takes_ext [] m n m' n' p h = tt
takes_ext (e ∷ es) m n m' n' p (inl h) =
    inl (ap (ltb 0) (sym p.0.0) ∙ h.0, ap (ltb 0) (sym p.0.1) ∙ h.1)
takes_ext (e ∷ es) m n m' n' p (inr h) =
    inr (ap (ltb 0) (sym p.0.0) ∙ h.0 ∙ ap (ltb 0) p.0.1, takes_ext es m n m' n' p.1 h.1)

eqb_turn : (a b : ℕ) → eqb a b ≡ eqb b a
eqb_turn a b = go (eq_test a b)
  where
    go : {t : Bool} → Test (a ≡ b) (a ≢ b) t → t ≡ eqb b a
    go (pass e) = sym (eq-eqb b a (sym e))
    go (fail n) = sym (ne_eqb b a (λ e. n (sym e)))

like_swap : (x y a b : ℕ) → like x y a b ≡ like a b x y
unfolding like
like_swap x y a b = cc (eqb_turn a x, eqb_turn b y, eqb_turn a y, eqb_turn b x, and_turn (eqb x b) (eqb y a))

pub best_first : (w : Points) → Turned w → (es : List Pair) → Differ es → (off : List ℕ) (n : List Pair)
    → Within off es n → sum w n ≡ H w off es → TakesFirst es (best true w off es) n
best_first w g [] d off n p h = tt
best_first w g (e ∷ es) d off n p h =
    go (choice true w off e es) (eq_test k 0) h (λ on q. best_first w g es d.1 on rest q)
  where
    x : ℕ
    x = e.0

    y : ℕ
    y = e.1

    k : ℕ
    k = sum (like x y) n

    rest : List Pair
    rest = without x y n

    apart : (f : Points) → Turned f → sum f n ≡ f x y * k + sum f rest
    apart f q = sum_apart f q x y n

    with : k ≢ 0 → Within (both e off) es rest
    with z = within_in off e es n p (omega arith)

    -- the points of n, by whether it holds the pair
    light : k ≡ 0 → sum w n ≡ sum w rest
    light z = omega (arith, apart w g, times_none (w x y) k z)

    heavy : k ≢ 0 → sum w n ≡ w x y + sum w rest
    heavy z = omega (arith, apart w g, times_one (w x y) k (omega (arith, like_once x y n p.once)))

    -- the best of the later pairs does not hold the pair, and how often n holds those does not depend on it
    none : (off : List ℕ) → sum (like x y) (best true w off es) ≡ 0
    none off =
        sum_none (like x y) (λ a b q. q) (best true w off es) (best_each (λ a b. like x y a b ≡ 0) true w off es d.0)

    others : (a b : ℕ) → like x y a b ≡ 0 → sum (like a b) rest ≡ sum (like a b) n
    others a b q =
        omega (arith, apart (like a b) (like_turned a b), none_times (like a b x y) k (like_swap a b x y ∙ q))

    Later : Type 0
    Later = (off : List ℕ) → Within off es rest → sum w rest ≡ H w off es → TakesFirst es (best true w off es) rest

    neither : k ≡ 0 → sum w n ≡ H w off es → Later → TakesFirst (e ∷ es) (best true w off es) n
    neither z q i =
        let m = best true w off es in
        let later = i off (within_out off e es n p) (omega (arith, light z)) in
        inr (
          ap (ltb 0) (none off ∙ sym z),
          takes_ext es m rest m n (each_map (λ a b r. (refl, others a b r)) es d.0) later,
        )

    taken : k ≢ 0 → sum w n ≡ w x y + H w (both e off) es → Later
        → TakesFirst (e ∷ es) (e ∷ best true w (both e off) es) n
    taken z q i =
        let m = best true w (both e off) es in
        let later = i (both e off) (with z) (omega (arith, heavy z)) in
        let alike : sum (like x y) (e ∷ m) ≡ k =
        omega (arith, like_self x y, none (both e off), like_once x y n p.once) in
        inr (
          ap (ltb 0) alike,
          takes_ext es m rest (e ∷ m) n
              (each_map (λ a b r. (omega (arith, like_swap a b x y, r), others a b r)) es d.0) later,
        )

    go : {m : List Pair} {l : ℕ} → Choice true w off e es m l → {t : Bool} → Test (k ≡ 0) (k ≢ 0) t
        → sum w n ≡ l → Later → TakesFirst (e ∷ es) m n
    go (bars b) (pass z) q i = neither z q i
    go (bars b) (fail z) q i = absurd (z (within_barred off e es n p b))
    go (leaves c r) (pass z) q i = neither z q i
    go (leaves c r) (fail z) q i =
        let v : ⊥ = omega (arith, heavy z, best_most w g es (both e off) rest (with z)) in absurd v
    go (takes c r) (pass z) q i =
        let some : 0 < sum (like x y) (e ∷ best true w (both e off) es) = omega (arith, like_self x y) in
        inl (lt-ltb 0 _ some, ap (ltb 0) z)
    go (takes c r) (fail z) q i = taken z q i
