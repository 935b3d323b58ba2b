-- The short list of a graph. In order: what its entries are, their order, and that each pair is there; so it is an
-- accepted list (`short_accepted`), has the graph's points (`short_points`), joins the pairs above zero
-- (`short_joined`) and has the graph's pairings (`short_pairing`, `pairing_short`) and heaviest pairings
-- (`short_heaviest`, `heaviest_short`). Assumes nothing.
use mathlib.Core.Path.{◌≡◌, refl, sym, ap, subst, ◌∙◌, fun_ext}
use mathlib.Core.Logic.{inl, inr, ◌≢◌}
use mathlib.Core.Bool.{Bool, true, false, cond, ◌&&◌}
use mathlib.Core.List.{List, [], ◌∷◌, ◌++◌}
use Prim.Native.Nat.{ℕ, zero, suc, ◌≤◌, ◌<◌}
use native.Mathlib.Omega.{arith}
use lib.Dec.{ltb}
use borrow.Author.Tests.{lt-ltb}
use Rattle.matching.specs.Lists.{All, Ascends}
use Rattle.matching.specs.Pairs.{Pair, Points, ι, sum}
use Rattle.matching.specs.Pairing.{Pairing, Heaviest}
use Rattle.matching.specs.Listed.{Entry, Before, Accepted, joined, listed, short_at, short_below, short_list}
use Rattle.matching.specs.Graph.{Graph}
use Rattle.matching.proofs.Tests.{Test, pass, fail, eq_test, lt_test, and_test}
use Rattle.matching.proofs.Alls.{all_map, all_append, all_at, Has, has_left, has_right, ascends_append}
use Rattle.matching.proofs.Sums.{each_map}
use Rattle.matching.proofs.Entries.{accepted_of, listed_graph, listed_joined, joined_above, has_listed}
use Rattle.matching.proofs.Entries.{listed_has}

-- An entry of a graph of n cells.
pub record EntryOf (n : ℕ) (w : Points) (e : Entry) : Type 0 where
  pub up : e.0 < e.1
  pub below : e.1 < n
  pub its : e.2 ≡ w e.0 e.1
  pub some : 0 < e.2

module _ (w : Points) where
  abbrev entry_at : ℕ → ℕ → List Entry
  entry_at a b = cond (ltb a b && ltb 0 (w a b)) ((a, b, w a b) ∷ []) []

  entry_all : (P : Entry → Type 0) (a b : ℕ) → (a < b → 0 < w a b → P (a, b, w a b)) → All P (entry_at a b)
  entry_all P a b h = go (and_test (lt_test a b) (lt_test 0 (w a b)))
    where
      go : {t : Bool} {N : Type 0} → Test ((a < b) × (0 < w a b)) N t → All P (cond t ((a, b, w a b) ∷ []) [])
      go (pass p) = (h p.0 p.1, tt)
      go (fail n) = tt

  entry_ascends : (a b : ℕ) → Ascends Before (entry_at a b)
  entry_ascends a b = go (ltb a b && ltb 0 (w a b))
    where
      go : (t : Bool) → Ascends Before (cond t ((a, b, w a b) ∷ []) [])
      go true = (tt, tt)
      go false = tt

  at_all : (a n : ℕ) → All (λ e. (e.0 ≡ a) × EntryOf n w e) (short_at w a n)
  at_all a zero = tt
  at_all a (suc b) =
      all_append (λ e. (e.0 ≡ a) × EntryOf (suc b) w e) (short_at w a b) (entry_at a b)
      (all_map (λ e p. (p.0, wider e p.1)) (short_at w a b) (at_all a b))
      (entry_all (λ e. (e.0 ≡ a) × EntryOf (suc b) w e) a b
      (λ l k. (refl, record { up = l; below = omega arith; its = refl; some = k })))
    where
      wider : (e : Entry) → EntryOf b w e → EntryOf (suc b) w e
      wider e p = record { up = p.up; below = omega arith; its = p.its; some = p.some }

  at_ascends : (a n : ℕ) → Ascends Before (short_at w a n)
  at_ascends a zero = tt
  at_ascends a (suc b) =
      ascends_append {P = λ e. (e.0 ≡ a) × EntryOf b w e} {Q = λ e. (e.0 ≡ a) × (e.1 ≡ b)}
      (λ e f p q. inr (p.0 ∙ sym q.0, omega (arith, p.1.below, q.1))) (short_at w a b) (entry_at a b) (at_all a b)
      (entry_all (λ e. (e.0 ≡ a) × (e.1 ≡ b)) a b (λ l k. (refl, refl))) (at_ascends a b) (entry_ascends a b)

  below_all : (n k : ℕ) → All (λ e. (e.0 < k) × EntryOf n w e) (short_below n w k)
  below_all n zero = tt
  below_all n (suc a) =
      all_append (λ e. (e.0 < suc a) × EntryOf n w e) (short_below n w a) (short_at w a n)
      (all_map (λ e p. (omega (arith, p.0), p.1)) (short_below n w a) (below_all n a))
      (all_map (λ e p. (omega (arith, p.0), p.1)) (short_at w a n) (at_all a n))

  below_ascends : (n k : ℕ) → Ascends Before (short_below n w k)
  below_ascends n zero = tt
  below_ascends n (suc a) =
      ascends_append {P = λ e. (e.0 < a) × EntryOf n w e} {Q = λ e. (e.0 ≡ a) × EntryOf n w e}
      (λ e f p q. inl (omega (arith, p.0, q.0))) (short_below n w a) (short_at w a n) (below_all n a) (at_all a n)
      (below_ascends n a) (at_ascends a n)

  -- each pair is there
  at_has : (a b n : ℕ) → a < b → b < n → 0 < w a b → Has (short_at w a n) (a, b, w a b)
  at_has a b zero l k h = (let z : ⊥ = omega arith in absurd z)
  at_has a b (suc n) l k h = go (eq_test b n) (λ m. at_has a b n l m h)
    where
      e : Entry
      e = (a, b, w a b)

      go : {t : Bool} → Test (b ≡ n) (b ≢ n) t → (b < n → Has (short_at w a n) e)
          → Has (short_at w a n ++ entry_at a n) e
      go (pass q) i =
          has_right (short_at w a n) (entry_at a n) e (rw (← q, lt-ltb a b l, lt-ltb 0 (w a b) h) (inl refl))
      go (fail m) i = has_left (short_at w a n) (entry_at a n) e (i (omega arith))

  below_has : (n a b k : ℕ) → a < k → a < b → b < n → 0 < w a b → Has (short_below n w k) (a, b, w a b)
  below_has n a b zero q l k h = (let z : ⊥ = omega arith in absurd z)
  below_has n a b (suc c) q l k h = go (eq_test a c) (λ m. below_has n a b c m l k h)
    where
      e : Entry
      e = (a, b, w a b)

      go : {t : Bool} → Test (a ≡ c) (a ≢ c) t → (a < c → Has (short_below n w c) e)
          → Has (short_below n w c ++ short_at w c n) e
      go (pass q) i = has_right (short_below n w c) (short_at w c n) e (rw (← q) (at_has a b n l k h))
      go (fail m) i = has_left (short_below n w c) (short_at w c n) e (i (omega arith))

pub short_entries : (n : ℕ) (w : Points) → All (EntryOf n w) (short_list n w)
short_entries n w = all_map (λ e p. p.1) (short_list n w) (below_all w n n)

pub short_ascends : (n : ℕ) (w : Points) → Ascends Before (short_list n w)
short_ascends n w = below_ascends w n n

pub short_has : (n : ℕ) (w : Points) (a b : ℕ) → a < b → b < n → 0 < w a b → Has (short_list n w) (a, b, w a b)
short_has n w a b l k h = below_has w n a b n (omega arith) l k h

pub short_accepted : (n : ℕ) (w : Points) → Accepted n (short_list n w)
short_accepted n w =
    accepted_of n (short_list n w) (all_map (λ e p. (p.up, p.below)) (short_list n w) (short_entries n w))
    (short_ascends n w)

-- Two graphs that agree where the first cell is the lower, agree.
pub graph_same : (n : ℕ) (w w' : Points) → Graph n w → Graph n w' → ((a b : ℕ) → a < b → w a b ≡ w' a b)
    → (a b : ℕ) → w a b ≡ w' a b
graph_same n w w' g g' h a b = go (lt_test a b) (lt_test b a)
  where
    go : {s t : Bool} → Test (a < b) (b ≤ a) s → Test (b < a) (a ≤ b) t → w a b ≡ w' a b
    go (pass l) y = h a b l
    go (fail l) (pass k) = g.turned a b ∙ h b a k ∙ g'.turned b a
    go (fail l) (fail k) = (let e : a ≡ b = omega arith in rw e (g.loop b ∙ sym (g'.loop b)))

module _ (n : ℕ) (w : Points) (g : Graph n w) where
  abbrev short : List Entry
  short = short_list n w

  low : (a b : ℕ) → 0 < w a b → b < n
  low a b h = go (lt_test b n)
    where
      go : {t : Bool} → Test (b < n) (n ≤ b) t → b < n
      go (pass k) = k
      go (fail k) = (let z : ⊥ = omega (arith, g.top a b k) in absurd z)

  -- where the first cell is the lower
  up_points : (a b : ℕ) → a < b → listed short a b ≡ w a b
  up_points a b l = go (lt_test 0 (w a b)) (lt_test 0 (listed short a b))
    where
      go : {s t : Bool} → Test (0 < w a b) (w a b ≤ 0) s → Test (0 < listed short a b) (listed short a b ≤ 0) t
          → listed short a b ≡ w a b
      go (pass h) y = has_listed n short (short_accepted n w) (a, b, w a b) (short_has n w a b l (low a b h) h)
      go (fail h) (pass k) = (all_at (EntryOf n w) short (a, b, listed short a b) (short_entries n w)
          (listed_has n short (short_accepted n w) a b l k)).its
      go (fail h) (fail k) = omega arith

  pub short_points : (a b : ℕ) → listed (short_list n w) a b ≡ w a b
  short_points = graph_same n (listed short) w (listed_graph n short (short_accepted n w)) g up_points

  pub short_joined : (a b : ℕ) → joined (short_list n w) a b ≡ ι (ltb 0 (w a b))
  short_joined a b =
      joined_above n short (short_accepted n w) (all_map (λ e p. p.some) short (short_entries n w)) a b
      ∙ ap (λ k. ι (ltb 0 k)) (short_points a b)

  -- the list's pairings are the graph's
  pub short_pairing : (m : List Pair) → Pairing (joined (short_list n w)) m → Pairing w m
  short_pairing m p = record { held = each_map at m p.held; once = p.once }
    where
      at : (a b : ℕ) → 0 < joined short a b → 0 < w a b
      at a b h = go (lt_test 0 (w a b)) (short_joined a b)
        where
          go : {t : Bool} → Test (0 < w a b) (w a b ≤ 0) t → joined short a b ≡ ι t → 0 < w a b
          go (pass k) e = k
          go (fail k) e = omega arith

  pub pairing_short : (m : List Pair) → Pairing w m → Pairing (joined (short_list n w)) m
  pairing_short m p = record { held = each_map at m p.held; once = p.once }
    where
      at : (a b : ℕ) → 0 < w a b → 0 < joined short a b
      at a b h = listed_joined short a b (omega (arith, short_points a b))

  -- as points, and so the heaviest
  pub short_listed : listed (short_list n w) ≡ w
  short_listed = fun_ext (λ a. fun_ext (λ b. short_points a b))

  pub short_heaviest : (m : List Pair) → Heaviest (joined (short_list n w)) (listed (short_list n w)) m → Heaviest w w m
  short_heaviest m h =
      record {
        pairing = short_pairing m h.pairing;
        most = λ k p. subst (λ (v : Points). sum v k ≤ sum v m) short_listed (h.most k (pairing_short k p));
      }

  pub heaviest_short : (m : List Pair) → Heaviest w w m → Heaviest (joined (short_list n w)) (listed (short_list n w)) m
  heaviest_short m h =
      record {
        pairing = pairing_short m h.pairing;
        most = λ k p. subst (λ (v : Points). sum v k ≤ sum v m) (sym short_listed) (h.most k (short_pairing k p));
      }
