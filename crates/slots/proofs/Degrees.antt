-- The degree of a cell is the number of its live slots (`degree_live`), and stands in the high bits of its sum
-- (`degree_of`). Before these: how one pair more changes the number of partners, a law of graphs. Assumes nothing.
use mathlib.Core.Path.{◌≡◌, refl, sym, ap, ◌∙◌}
use mathlib.Core.Logic.{inl, inr, ◌≢◌}
use mathlib.Core.Bool.{Bool, true, false, cond}
use mathlib.Core.List.{List, [], ◌∷◌}
use Prim.Native.Nat.{ℕ, zero, suc, ◌+◌, ◌*◌, ◌/◌, ◌≤◌, ◌<◌}
use native.Mathlib.Omega.{arith}
use lib.Dec.{eqb, ltb}
use lib.ListN.{length, get_or, length-append}
use borrow.Author.Tests.{lt-ltb, le-ltb}
use Rattle.buffers.specs.Map.{at_sums}
use Rattle.matching.specs.Pairs.{Points, ι, hit}
use Rattle.matching.specs.Graph.{partners, degree}
use Rattle.matching.proofs.Tests.{Test, pass, fail, eq_test, lt_test, fails}
use Rattle.matching.proofs.Pairs.{Same}
use Rattle.matching.proofs.Sums.{hit_none, hit_one}
use Rattle.slots.specs.Slots.{total, key, key_at, Store, store, graph, Slots, Holds, graph_of}
use Rattle.slots.proofs.Totals.{total_most}
use Rattle.slots.proofs.Keys.{key_of}
use Rattle.slots.proofs.Graphs.{join_test, same_is, graph_same_pair, graph_none, graph_suc, graph_gone}

-- ---- the number of partners

degree_suc : (n : ℕ) (w : Points) (c : ℕ) → degree (suc n) w c ≡ degree n w c + ι (ltb 0 (w c n))
unfolding partners
degree_suc n w c =
    length-append (partners n w c) (cond (ltb 0 (w c n)) (n ∷ []) [])
    ∙ ap (◌+◌ (degree n w c)) (one (ltb 0 (w c n)))
  where
    one : (t : Bool) → length (cond t (n ∷ []) []) ≡ ι t
    one true = refl
    one false = refl

degree_none : (n : ℕ) (w : Points) (c : ℕ) → ((x : ℕ) → w c x ≡ 0) → degree n w c ≡ 0
unfolding partners
degree_none zero w c z = refl
degree_none (suc n) w c z =
    omega (arith, degree_suc n w c, ap ι (le-ltb 0 (w c n) (omega (arith, z n))), degree_none n w c z)

pub degree_same : (n : ℕ) (w w' : Points) (c : ℕ) → ((x : ℕ) → x < n → w' c x ≡ w c x) → degree n w' c ≡ degree n w c
unfolding partners
degree_same zero w w' c e = refl
degree_same (suc n) w w' c e =
    omega (
      arith,
      degree_suc n w c,
      degree_suc n w' c,
      ap (λ (k : ℕ). ι (ltb 0 k)) (e n (omega arith)),
      degree_same n w w' c (λ x l. e x (omega arith)),
    )

-- x is a new partner, the others are the same.
degree_more : (n : ℕ) (w w' : Points) (c x : ℕ) → x < n → ((y : ℕ) → y ≢ x → w' c y ≡ w c y) → w c x ≡ 0 → 0 < w' c x
    → degree n w' c ≡ suc (degree n w c)
degree_more zero w w' c x l e z p = absurd (omega arith)
degree_more (suc n) w w' c x l e z p = go (eq_test n x) (λ k. degree_more n w w' c x k e z p)
  where
    go : {t : Bool} → Test (n ≡ x) (n ≢ x) t → (x < n → degree n w' c ≡ suc (degree n w c))
        → degree (suc n) w' c ≡ suc (degree (suc n) w c)
    go (pass q) f =
        omega (
          arith,
          degree_suc n w c,
          degree_suc n w' c,
          ap ι (lt-ltb 0 (w' c n) (rw q p)),
          ap ι (le-ltb 0 (w c n) (rw (q, z) (omega arith))),
          degree_same n w w' c (λ y k. e y (omega arith)),
        )
    go (fail k) f =
        omega (arith, degree_suc n w c, degree_suc n w' c, ap (λ (m : ℕ). ι (ltb 0 m)) (e n k), f (omega arith))

-- ---- live slots

-- 1 where slot i is live and has c, else 0.
unfoldable pub live : Store → ℕ → ℕ → ℕ
live s c i = cond (ltb 0 (s.weight i)) (hit c (s.low i) (s.high i)) 0

-- Slot e adds one to the degree of its cells where it is live.
module _ (s : Store) (e : ℕ) (up : s.low e < s.high e) (low : s.high e < 1024)
    (absent : graph s e (s.low e) (s.high e) ≡ 0) (c : ℕ) where
  unlike : (x y : ℕ) → (Same (s.low e) (s.high e) x y → ⊥) → graph s (suc e) x y ≡ graph s e x y
  unlike x y n = graph_suc s e x y ∙ rw (fails (join_test s e x y) n) (omega arith)

  alike : (x y : ℕ) → Same (s.low e) (s.high e) x y → graph s (suc e) x y ≡ s.weight e + graph s e x y
  alike x y q = graph_suc s e x y ∙ rw (same_is q)

  new_partner : (x : ℕ) → 0 < s.weight e → Same (s.low e) (s.high e) c x
      → degree 1024 (graph s (suc e)) c ≡ suc (degree 1024 (graph s e) c)
  new_partner x p q =
      degree_more 1024 (graph s e) (graph s (suc e)) c x (below q) (λ y n. unlike c y (λ r. n (one q r)))
      (graph_same_pair s e q ∙ absent) (omega (arith, alike c x q))
    where
      below : Same (s.low e) (s.high e) c x → x < 1024
      below (inl q) = omega (arith, q.1)
      below (inr q) = omega (arith, q.1)

      one : {y : ℕ} → Same (s.low e) (s.high e) c x → Same (s.low e) (s.high e) c y → y ≡ x
      one (inl q) (inl r) = cc
      one (inl q) (inr r) = absurd (omega (arith, q.0, r.0))
      one (inr q) (inl r) = absurd (omega (arith, q.0, r.0))
      one (inr q) (inr r) = cc

  degree_next : degree 1024 (graph s (suc e)) c ≡ live s c e + degree 1024 (graph s e) c
  unfolding live
  degree_next = go (lt_test 0 (s.weight e)) (eq_test (s.low e) c) (eq_test (s.high e) c)
    where
      go : {t q r : Bool} → Test (0 < s.weight e) (s.weight e ≤ 0) t → Test (s.low e ≡ c) (s.low e ≢ c) q
          → Test (s.high e ≡ c) (s.high e ≢ c) r
          → degree 1024 (graph s (suc e)) c ≡ cond t (hit c (s.low e) (s.high e)) 0 + degree 1024 (graph s e) c
      go (pass p) (pass q) r =
          omega (
            arith,
            hit_one c (s.low e) (s.high e) (inl q) (omega arith),
            new_partner (s.high e) p (inl (sym q, refl)),
          )
      go (pass p) (fail n) (pass r) =
          omega (
            arith,
            hit_one c (s.low e) (s.high e) (inr r) (omega arith),
            new_partner (s.low e) p (inr (sym r, refl)),
          )
      go (pass p) (fail n) (fail m) =
          omega (
            arith,
            hit_none c (s.low e) (s.high e) n m,
            degree_same 1024 (graph s e) (graph s (suc e)) c (λ x l. unlike c x (off x)),
          )
        where
          off : (x : ℕ) → Same (s.low e) (s.high e) c x → ⊥
          off x (inl k) = n (sym k.0)
          off x (inr k) = m (sym k.0)
      go (fail p) q r = omega (arith, ap (λ (g : Points). degree 1024 g c) (graph_gone s e (omega arith)))

live_degree : (s : Store) (e : ℕ) → ((i : ℕ) → i < e → (s.low i < s.high i) × (s.high i < 1024))
    → ((i : ℕ) → i < e → graph s i (s.low i) (s.high i) ≡ 0) → (c : ℕ)
    → total (live s c) e ≡ degree 1024 (graph s e) c
unfolding total
live_degree s zero k o c = sym (degree_none 1024 (graph s 0) c (λ x. graph_none s 0 c x (λ j l. absurd (omega arith))))
live_degree s (suc e) k o c =
    omega (
      arith,
      degree_next s e (k e (omega arith)).0 (k e (omega arith)).1 (o e (omega arith)) c,
      live_degree s e (λ i l. k i (omega arith)) (λ i l. o i (omega arith)) c,
    )

-- ---- the sum of a cell

-- A key without its one in the high bits.
rest : Store → ℕ → ℕ → ℕ
rest s c i =
    cond (ltb 0 (s.weight i))
    (cond (eqb (s.low i) c) (s.high i * 16777216 + i) (cond (eqb (s.high i) c) (s.low i * 16777216 + i) 0)) 0

module _ (e : ℕ) (s : Store) (h : Slots e s) (c : ℕ) where
  split : (i : ℕ) → i < e
      → key_of s c i ≡ 70368744177664 * live s c i + rest s c i
  unfolding key_at live rest
  split i l = go (ltb 0 (s.weight i)) (eq_test (s.low i) c) (eq_test (s.high i) c)
    where
      go : (t : Bool) {q r : Bool} → Test (s.low i ≡ c) (s.low i ≢ c) q → Test (s.high i ≡ c) (s.high i ≢ c) r
          → cond t (cond q (key (s.high i) i) (cond r (key (s.low i) i) 0)) 0
          ≡ 70368744177664 * cond t (hit c (s.low i) (s.high i)) 0
          + cond t (cond q (s.high i * 16777216 + i) (cond r (s.low i * 16777216 + i) 0)) 0
      go false q r = omega arith
      go true (pass q) r = omega (arith, hit_one c (s.low i) (s.high i) (inl q) (omega (arith, h.cells i l)))
      go true (fail n) (pass r) =
          omega (arith, hit_one c (s.low i) (s.high i) (inr r) (omega (arith, h.cells i l)))
      go true (fail n) (fail m) = omega (arith, hit_none c (s.low i) (s.high i) n m)

  rest_most : (i : ℕ) → i < e → rest s c i ≤ 17179869183
  unfolding rest
  rest_most i l = go (ltb 0 (s.weight i)) (eqb (s.low i) c) (eqb (s.high i) c)
    where
      go : (t q r : Bool)
          → cond t (cond q (s.high i * 16777216 + i) (cond r (s.low i * 16777216 + i) 0)) 0 ≤ 17179869183
      go false q r = omega arith
      go true true r = omega (arith, h.cells i l, h.most)
      go true false true = omega (arith, h.cells i l, h.most)
      go true false false = omega arith

  splits : (k : ℕ) → k ≤ e → total (key_of s c) k
      ≡ 70368744177664 * total (live s c) k + total (rest s c) k
  unfolding total
  splits zero l = omega arith
  splits (suc k) l = omega (arith, split k (omega arith), splits k (omega arith))

  pub degree_live : total (live s c) e ≡ degree 1024 (graph s e) c
  degree_live = live_degree s e h.cells h.once c

  degree_sum : c < 1024 → s.sums c / 70368744177664 ≡ degree 1024 (graph s e) c
  degree_sum l =
      omega (
        arith,
        degree_live,
        h.sums c l,
        splits e (omega arith),
        total_most (rest s c) e 17179869183 rest_most,
        h.most,
      )

pub degree_of : {e : ℕ} {w1 w2 : List ℕ} → Holds e w1 w2 → (c : ℕ) → c < 1024
    → get_or w2 (at_sums + c) 0 / 70368744177664 ≡ degree 1024 (graph_of e w1) c
unfolding graph
degree_of {e} {w1} {w2} h c l = degree_sum e (store w1 w2) h.slots c l
