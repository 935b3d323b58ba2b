-- The partners of a cell. In order: x is a partner of c just where 0 < w c x (`partner_test`), and on a graph of n
-- cells n is enough (`partners_more`), and only which pairs have points counts (`partners_like`); the partners ascend,
-- so that none stands twice; a cell with one partner, a cell with two (`Between`).
use mathlib.Core.Path.{◌≡◌, refl, sym, ap, ap₂, ◌∙◌}
use mathlib.Core.Logic.{◌⊎◌, inl, inr, ◌≢◌, ⊎_map, ⊎_swap}
use mathlib.Core.Bool.{Bool, true, false, cond, ◌||◌}
use mathlib.Core.List.{List, [], ◌∷◌, ◌++◌, append-nil}
use Prim.Native.Nat.{ℕ, zero, suc, ◌≤◌, ◌<◌}
use native.Mathlib.Omega.{arith}
use lib.Dec.{ltb}
use lib.ListN.{length}
use Rattle.matching.specs.Lists.{mem, distinct}
use Rattle.matching.specs.Pairs.{Points}
use Rattle.matching.specs.Graph.{Graph, partners, degree}
use Rattle.matching.proofs.Put.{pair_below}
use Rattle.matching.proofs.Tests.{Test, pass, fail, is_test, eq_test, lt_test, holds, passes, fails}
use Rattle.matching.proofs.Members.{or_cases, no_mem, mem_on, mem_head, mem_cases, mem_one, mem_append}

-- ---- who is a partner

pub partner_test : (n : ℕ) (w : Points) (c x : ℕ)
    → Test ((x < n) × (0 < w c x)) (x < n → w c x ≡ 0) (mem x (partners n w c))
unfolding partners
partner_test zero w c x = fail (λ h. absurd (omega arith))
partner_test (suc n) w c x =
    rw mem_append (go (partner_test n w c x) (lt_test 0 (w c n)))
  where
    go : {s t : Bool} → Test ((x < n) × (0 < w c x)) (x < n → w c x ≡ 0) s → Test (0 < w c n) (w c n ≤ 0) t
        → Test ((x < suc n) × (0 < w c x)) (x < suc n → w c x ≡ 0) (s || mem x (cond t (n ∷ []) []))
    go (pass h) t = pass (omega arith, h.1)
    go (fail m) (pass p) = here (eq_test n x)
      where
        here : {t : Bool} → Test (n ≡ x) (n ≢ x) t
            → Test ((x < suc n) × (0 < w c x)) (x < suc n → w c x ≡ 0) (t || false)
        here (pass e) = pass (omega arith, rw (← e) p)
        here (fail d) = fail (λ h. m (omega arith))
    go (fail m) (fail q) = fail (λ h. gone h (eq_test n x))
      where
        gone : x < suc n → {t : Bool} → Test (n ≡ x) (n ≢ x) t → w c x ≡ 0
        gone h (pass e) = rw (← e) (omega arith)
        gone h (fail d) = m (omega arith)

-- where the same pairs of c have points
pub partners_like : (n : ℕ) (w w' : Points) (c : ℕ) → ((x : ℕ) → ltb 0 (w' c x) ≡ ltb 0 (w c x))
    → partners n w' c ≡ partners n w c
unfolding partners
partners_like zero w w' c e = refl
partners_like (suc n) w w' c e =
    ap₂ (λ ps t. ps ++ cond t (n ∷ []) []) (partners_like n w w' c e) (e n)

-- more cells than a graph has bring no partner
pub partners_more : {n : ℕ} {w : Points} → Graph n w → (k c : ℕ) → n ≤ k → partners k w c ≡ partners n w c
unfolding partners
partners_more {n} {w} g zero c h = ap (λ i. partners i w c) {x = 0} {y = n} (omega arith)
partners_more {n} {w} g (suc k) c h = go (eq_test n (suc k)) (λ l. partners_more g k c l)
  where
    go : {t : Bool} → Test (n ≡ suc k) (n ≢ suc k) t → (n ≤ k → partners k w c ≡ partners n w c)
        → partners (suc k) w c ≡ partners n w c
    go (pass e) i = ap (λ m. partners m w c) (sym e)
    go (fail d) i =
        ap (λ x. partners k w c ++ cond (ltb 0 x) (k ∷ []) []) (g.top c k (omega (arith, d)))
        ∙ append-nil (partners k w c)
        ∙ i (omega (arith, d))

-- ---- in which order

-- Each number is below all that stand after it.
abbrev pub Ascending : List ℕ → Type 0
Ascending [] = Unit {0}
Ascending (x ∷ xs) = ((y : ℕ) → mem y xs ≡ true → x < y) × Ascending xs

ascending_end : (xs : List ℕ) (n : ℕ) → Ascending xs → ((y : ℕ) → mem y xs ≡ true → y < n) → Ascending (xs ++ n ∷ [])
ascending_end [] n up low = ((λ y h. no_mem y h), tt)
ascending_end (x ∷ xs) n up low = (
  (λ y h. go y (or_cases (mem y xs) (mem y (n ∷ [])) (sym (mem_append y xs (n ∷ [])) ∙ h))),
  ascending_end xs n up.1 (λ y h. low y (mem_on y x xs h)),
)
  where
    go : (y : ℕ) → (mem y xs ≡ true) ⊎ (mem y (n ∷ []) ≡ true) → x < y
    go y (inl h) = up.0 y h
    go y (inr h) = omega (arith, low x (mem_head x x xs refl), mem_one y n h)

pub ascending_distinct : (xs : List ℕ) → Ascending xs → distinct xs ≡ true
ascending_distinct [] up = refl
ascending_distinct (x ∷ xs) up =
    rw (fails (is_test (mem x xs)) (λ h. (let l = up.0 x h in omega arith)), ascending_distinct xs up.1)

pub partners_ascending : (n : ℕ) (w : Points) (c : ℕ) → Ascending (partners n w c)
unfolding partners
partners_ascending zero w c = tt
partners_ascending (suc n) w c = go (ltb 0 (w c n)) (partners_ascending n w c)
  where
    go : (t : Bool) → Ascending (partners n w c) → Ascending (partners n w c ++ cond t (n ∷ []) [])
    go true up = ascending_end (partners n w c) n up (λ y h. (holds (partner_test n w c y) h).0)
    go false up = rw append-nil up

-- ---- how many

-- The cell c has two partners, p and q.
pub record Between (n : ℕ) (w : Points) (p c q : ℕ) : Type 0 where
  pub two : degree n w c ≡ 2
  pub back : 0 < w c p
  pub on : 0 < w c q
  pub apart : p ≢ q

pub between_turned : {n : ℕ} {w : Points} {p c q : ℕ} → Between n w p c q → Between n w q c p
between_turned b = record { two = b.two; back = b.on; on = b.back; apart = λ e. b.apart (sym e) }

module _ {n : ℕ} {w : Points} (g : Graph n w) where
  pub has_partner : (c x : ℕ) → 0 < w c x → mem x (partners n w c) ≡ true
  has_partner c x h = passes (partner_test n w c x) (λ q. omega (arith, q (pair_below g c x h).1))

  pub partner_of : (c x : ℕ) → mem x (partners n w c) ≡ true → 0 < w c x
  partner_of c x h = (holds (partner_test n w c x) h).1

  -- two cells that are all the partners
  partner_either : (c a b : ℕ) → partners n w c ≡ a ∷ b ∷ [] → (x : ℕ) → 0 < w c x → (a ≡ x) ⊎ (b ≡ x)
  partner_either c a b e x h = ⊎_map (λ k. k) (mem_one x b) (mem_cases x a (b ∷ []) (rw e at (has_partner c x h)))

  -- one partner
  pub partners_one : (c u : ℕ) → degree n w c ≡ 1 → 0 < w c u → partners n w c ≡ u ∷ []
  partners_one c u one h = go (partners n w c) refl
    where
      go : (ps : List ℕ) → partners n w c ≡ ps → ps ≡ u ∷ []
      go [] e = absurd (omega (arith, ap length e))
      go (a ∷ []) e = rw (mem_one u a (rw e at (has_partner c u h)))
      go (a ∷ b ∷ ps) e = absurd (omega (arith, ap length e))

  -- at most one, and more than one
  pub partners_few : (c u : ℕ) → ((x : ℕ) → x ≢ u → w c x ≡ 0) → degree n w c ≤ 1
  partners_few c u off = go (partners n w c) refl
    where
      here : (x : ℕ) → mem x (partners n w c) ≡ true → x ≡ u
      here x m = at (eq_test x u)
        where
          at : {t : Bool} → Test (x ≡ u) (x ≢ u) t → x ≡ u
          at (pass q) = q
          at (fail d) = absurd (omega (arith, off x d, partner_of c x m))

      go : (ps : List ℕ) → partners n w c ≡ ps → length ps ≤ 1
      go [] e = omega arith
      go (a ∷ []) e = omega arith
      go (a ∷ b ∷ ps) e =
          let up : Ascending (a ∷ b ∷ ps) = rw e at (partners_ascending n w c) in
          let qa = here a (rw e (mem_head a a (b ∷ ps) refl)) in
          let qb = here b (rw e (mem_on b a (b ∷ ps) (mem_head b b ps refl))) in
          absurd (omega (arith, qa, qb, up.0 b (mem_head b b ps refl)))

  pub partners_more_than_one : (c x y : ℕ) → x ≢ y → 0 < w c x → 0 < w c y → 1 < degree n w c
  partners_more_than_one c x y d hx hy = go (partners n w c) refl
    where
      go : (ps : List ℕ) → partners n w c ≡ ps → 1 < length ps
      go [] e = no_mem x (rw e at (has_partner c x hx))
      go (a ∷ []) e =
          absurd (d (sym (mem_one x a (rw e at (has_partner c x hx))) ∙ mem_one y a (rw e at (has_partner c y hy))))
      go (a ∷ b ∷ ps) e = omega arith

  -- two partners
  pub partners_two : {p c q : ℕ} → Between n w p c q → (partners n w c ≡ p ∷ q ∷ []) ⊎ (partners n w c ≡ q ∷ p ∷ [])
  partners_two {p} {c} {q} t = go (partners n w c) refl
    where
      go : (ps : List ℕ) → partners n w c ≡ ps → (ps ≡ p ∷ q ∷ []) ⊎ (ps ≡ q ∷ p ∷ [])
      go [] e = absurd (omega (arith, ap length e, t.two))
      go (a ∷ []) e = absurd (omega (arith, ap length e, t.two))
      go (a ∷ b ∷ []) e = pick (partner_either c a b e p t.back) (partner_either c a b e q t.on)
        where
          pick : (a ≡ p) ⊎ (b ≡ p) → (a ≡ q) ⊎ (b ≡ q) → (a ∷ b ∷ [] ≡ p ∷ q ∷ []) ⊎ (a ∷ b ∷ [] ≡ q ∷ p ∷ [])
          pick (inl i) (inl j) = absurd (t.apart (sym i ∙ j))
          pick (inl i) (inr j) = inl (cc)
          pick (inr i) (inl j) = inr (cc)
          pick (inr i) (inr j) = absurd (t.apart (sym i ∙ j))
      go (a ∷ b ∷ d ∷ ps) e = absurd (omega (arith, ap length e, t.two))

  pub between_only : {p c q : ℕ} → Between n w p c q → (x : ℕ) → 0 < w c x → (p ≡ x) ⊎ (q ≡ x)
  between_only {p} {c} {q} t x h = go (partners_two t)
    where
      go : (partners n w c ≡ p ∷ q ∷ []) ⊎ (partners n w c ≡ q ∷ p ∷ []) → (p ≡ x) ⊎ (q ≡ x)
      go (inl e) = partner_either c p q e x h
      go (inr e) = ⊎_swap (partner_either c q p e x h)

  pub two_between : (c a b : ℕ) → partners n w c ≡ a ∷ b ∷ [] → Between n w a c b
  two_between c a b e = record {
    two = ap length e;
    back = partner_of c a (rw e (mem_head a a (b ∷ []) refl));
    on = partner_of c b (rw e (mem_on b a (b ∷ []) (mem_head b b [] refl)));
    apart = λ q. (let up : Ascending (a ∷ b ∷ []) = rw e at (partners_ascending n w c) in
        (let l = up.0 b (mem_head b b [] refl) in omega arith));
  }
