-- A pairing in file order. In order: it has the same sums (`filed_sum`) and is a pairing still (`filed_pairing`); it
-- ascends (`filed_in_order`); equal pairs give an equal file (`filed_same`); what is in order stays as it is
-- (`filed_filed`). Assumes nothing.
use mathlib.Core.Path.{◌≡◌, refl, sym, ap₂, ◌∙◌}
use mathlib.Core.Logic.{inl, inr, ◌≢◌}
use mathlib.Core.Bool.{Bool, true, false, cond}
use mathlib.Core.List.{List, [], ◌∷◌}
use Prim.Native.Nat.{ℕ, ◌+◌, ◌≤◌, ◌<◌, min, max}
use native.Mathlib.Omega.{arith}
use lib.Dec.{ltb}
use borrow.Author.Tests.{lt-ltb}
use Rattle.matching.specs.Lists.{All, Ascends}
use Rattle.matching.specs.Pairs.{Pair, Points, ι, sum, Each, hit, like}
use Rattle.matching.specs.Pairing.{Once, Pairing}
use Rattle.matching.specs.Listed.{filed_in, filed}
use Rattle.matching.proofs.Tests.{Test, pass, fail, lt_test}
use Rattle.matching.proofs.Pairs.{Same, Apart, same_test}
use Rattle.matching.proofs.Alls.{each_is_all, Has, all_at, ascends_same}
use Rattle.matching.proofs.Sums.{each_map, each_zero, hit_turned, hit_some, like_turned, like_self}

insert_sum : (f : Points) (e : Pair) (m : List Pair) → sum f (filed_in e m) ≡ f e.0 e.1 + sum f m
insert_sum f e [] = refl
insert_sum f e (x ∷ m) = go (ltb e.0 x.0) (insert_sum f e m)
  where
    go : (t : Bool) → sum f (filed_in e m) ≡ f e.0 e.1 + sum f m
        → sum f (cond t (e ∷ x ∷ m) (x ∷ filed_in e m)) ≡ f e.0 e.1 + (f x.0 x.1 + sum f m)
    go true i = refl
    go false i = omega arith

-- The lower cell first.
low_first : (f : Points) → ((a b : ℕ) → f a b ≡ f b a) → (a b : ℕ) → f (min a b) (max a b) ≡ f a b
low_first f t a b = go (lt_test a b)
  where
    go : {s : Bool} → Test (a < b) (b ≤ a) s → f (min a b) (max a b) ≡ f a b
    go (pass p) = ap₂ f (omega arith) (omega arith)
    go (fail p) = ap₂ f (omega arith) (omega arith) ∙ t b a

-- Sums that do not see a pair's order.
pub filed_sum : (f : Points) → ((a b : ℕ) → f a b ≡ f b a) → (m : List Pair) → sum f (filed m) ≡ sum f m
filed_sum f t [] = refl
filed_sum f t (e ∷ m) = omega (
  arith,
  insert_sum f (min e.0 e.1, max e.0 e.1) (filed m),
  low_first f t e.0 e.1,
  filed_sum f t m,
)

insert_each : (P : ℕ → ℕ → Type 0) (e : Pair) (m : List Pair) → P e.0 e.1 → Each P m → Each P (filed_in e m)
insert_each P e [] h p = (h, tt)
insert_each P e (x ∷ m) h p = go (ltb e.0 x.0) (insert_each P e m h p.1)
  where
    go : (t : Bool) → Each P (filed_in e m) → Each P (cond t (e ∷ x ∷ m) (x ∷ filed_in e m))
    go true i = (h, p)
    go false i = (p.0, i)

filed_held : (there : Points) → ((a b : ℕ) → there a b ≡ there b a) → (m : List Pair) → Each (λ a b. 0 < there a b) m
    → Each (λ a b. 0 < there a b) (filed m)
filed_held there t [] p = tt
filed_held there t (e ∷ m) p =
    insert_each (λ a b. 0 < there a b) (min e.0 e.1, max e.0 e.1) (filed m)
    (omega (arith, low_first there t e.0 e.1, p.0)) (filed_held there t m p.1)

pub filed_pairing : (there : Points) → ((a b : ℕ) → there a b ≡ there b a) → (m : List Pair) → Pairing there m
    → Pairing there (filed m)
filed_pairing there t m p =
    record {
      held = filed_held there t m p.held;
      once = λ c. omega (arith, filed_sum (hit c) (hit_turned c) m, p.once c);
    }

-- In file order: the lower cell first, and the first cell above all earlier first cells.
abbrev pub InOrder : List Pair → Type 0
InOrder [] = Unit {0}
InOrder (e ∷ m) = (e.0 < e.1) × (Each (λ a b. e.0 < a) m × InOrder m)

insert_in_order : (e : Pair) (m : List Pair) → e.0 < e.1 → Each (λ a b. e.0 ≢ a) m → InOrder m
    → InOrder (filed_in e m)
insert_in_order e [] l n o = (l, (tt, tt))
insert_in_order e (f ∷ m) l n o = go (lt_test e.0 f.0) (insert_in_order e m l n.1 o.1.1)
  where
    go : {t : Bool} → Test (e.0 < f.0) (f.0 ≤ e.0) t → InOrder (filed_in e m)
        → InOrder (cond t (e ∷ f ∷ m) (f ∷ filed_in e m))
    go (pass k) i = (l, ((k, each_map (λ a b q. omega arith) m o.1.0), o))
    go (fail k) i = (o.0, (insert_each (λ a b. f.0 < a) e m (omega (arith, n.0)) o.1.0, i))

pub filed_in_order : (m : List Pair) → Each (λ a b. a ≢ b) m → Once m → InOrder (filed m)
filed_in_order [] d o = tt
filed_in_order (e ∷ m) d o =
    insert_in_order (low, max e.0 e.1) (filed m) (omega (arith, d.0))
    (each_map apart (filed m) (each_zero (hit low) (filed m) none)) (filed_in_order m d.1 (λ c. omega (arith, o c)))
  where
    low : ℕ
    low = min e.0 e.1

    -- no later pair has the lower cell
    none : sum (hit low) (filed m) ≡ 0
    none =
        (let s = filed_sum (hit low) (hit_turned low) m in
        let t = low_first (hit low) (hit_turned low) e.0 e.1 in
        omega (arith, o low, hit_some low low (max e.0 e.1) (inl refl)))

    apart : (a b : ℕ) → hit low a b ≡ 0 → low ≢ a
    apart a b h q = omega (arith, hit_some low a b (inl (sym q)))

-- Pairs in order by what they hold.
has_like : (m : List Pair) (e : Pair) → Has m e → 1 ≤ sum (like e.0 e.1) m
has_like [] e h = absurd h
has_like (f ∷ m) e (inl q) = rw q (omega (arith, like_self f.0 f.1))
has_like (f ∷ m) e (inr h) = omega (arith, has_like m e h)

like_has : (a b : ℕ) → a < b → (m : List Pair) → InOrder m → 1 ≤ sum (like a b) m → Has m (a, b)
unfolding like
like_has a b l [] o h = (let z : ⊥ = omega arith in absurd z)
like_has a b l (e ∷ m) o h = go (same_test a b e.0 e.1) h (like_has a b l m o.1.1)
  where
    go : {t : Bool} → Test (Same a b e.0 e.1) (Apart a b e.0 e.1) t → 1 ≤ ι t + sum (like a b) m
        → (1 ≤ sum (like a b) m → Has m (a, b)) → Has (e ∷ m) (a, b)
    go (pass (inl q)) h i = inl (rw (q.0, q.1))
    go (pass (inr q)) h i = (let z : ⊥ = omega (arith, q.0, q.1, o.0) in absurd z)
    go (fail n) h i = inr (i (omega arith))

in_order_up : (m : List Pair) → InOrder m → All (λ (e : Pair). e.0 < e.1) m
in_order_up [] o = tt
in_order_up (e ∷ m) o = (o.0, in_order_up m o.1.1)

in_order_ascends : (m : List Pair) → InOrder m → Ascends (λ (e f : Pair). e.0 < f.0) m
in_order_ascends [] o = tt
in_order_ascends (e ∷ m) o = (each_is_all (λ a b. e.0 < a) m o.1.0, in_order_ascends m o.1.1)

-- The same pairs in order are the same list; so the same pairs have the same file.
abbrev pub SamePairs : List Pair → List Pair → Type 0
SamePairs m k = (a b : ℕ) → sum (like a b) m ≡ sum (like a b) k

pub in_order_same : (m k : List Pair) → InOrder m → InOrder k → SamePairs m k → m ≡ k
in_order_same m k o p h =
    ascends_same (λ (e f : Pair). e.0 < f.0) (λ e f q r. omega arith) m k (in_order_ascends m o)
    (in_order_ascends k p) (over m k o p h) (over k m p o (λ a b. sym (h a b)))
  where
    over : (m k : List Pair) → InOrder m → InOrder k → SamePairs m k → (e : Pair) → Has m e → Has k e
    over m k o p h e q =
        (let l = all_at (λ (e : Pair). e.0 < e.1) m e (in_order_up m o) q in
        like_has e.0 e.1 l k p (omega (arith, has_like m e q, h e.0 e.1)))

pub filed_same : (m k : List Pair) → Once m → Once k → Each (λ a b. a ≢ b) m → Each (λ a b. a ≢ b) k → SamePairs m k
    → filed m ≡ filed k
filed_same m k o p d e h =
    in_order_same (filed m) (filed k) (filed_in_order m d o) (filed_in_order k e p)
    (λ a b. omega (arith, h a b, filed_sum (like a b) (like_turned a b) m, filed_sum (like a b) (like_turned a b) k))

-- What is in order stays as it is.
insert_front : (e : Pair) (m : List Pair) → Each (λ a b. e.0 < a) m → filed_in e m ≡ e ∷ m
insert_front e [] p = refl
insert_front e (f ∷ m) p = rw (lt-ltb e.0 f.0 p.0)

pub filed_filed : (m : List Pair) → InOrder m → filed m ≡ m
filed_filed [] o = refl
filed_filed (e ∷ m) o =
    (let lo : min e.0 e.1 ≡ e.0 = omega (arith, o.0) in
    (let hi : max e.0 e.1 ≡ e.1 = omega (arith, o.0) in
    rw (lo, hi, filed_filed m o.1.1) (insert_front e m o.1.0)))
