-- Solving: the recursion over sets of cells gives the best of the set's pairs (`solve_best`). In order: the cells of a
-- set that pass a test (`chosen`), and a set less one cell; pairs of a cell that must stay free may be left out
-- (`best_without`); the pairs of the cells that pass a test (`keep_chosen`); the law. Assumes nothing.
use mathlib.Core.Path.{◌≡◌, refl, sym, ap, ap₂, ◌∙◌}
use mathlib.Core.Logic.{◌⊎◌, inl, inr, ◌≢◌}
use mathlib.Core.Bool.{Bool, true, false, not, cond, ◌&&◌}
use mathlib.Core.List.{List, [], ◌∷◌, ◌++◌, append_assoc, append-nil}
use Prim.Native.Nat.{ℕ, zero, suc, ◌+◌, ◌≤◌, ◌<◌}
use native.Mathlib.Omega.{arith}
use lib.Dec.{eqb, ltb}
use lib.ListN.{length}
use borrow.Author.Tests.{eq-eqb}
use Rattle.matching.specs.Lists.{mem, distinct, All, Ascends}
use Rattle.matching.specs.Pairs.{Pair, Points, sum, Each, keep}
use Rattle.matching.specs.Best.{barred, H, best}
use Rattle.matching.specs.Solve.{pairs_with, pairs_among, solved, less, tries, solve}
use Rattle.matching.proofs.Tests.{Test, pass, fail, is_test, eq_test, lt_test, not_test, and_test, map_test, holds}
use Rattle.matching.proofs.Tests.{passes, fails}
use Rattle.matching.proofs.Members.{clash, or_left, or_right, no_mem, mem_on, mem_head, mem_apart, mem_past}
use Rattle.matching.proofs.Alls.{all_map, all_members}
use Rattle.matching.proofs.Sums.{keep_append, each_append}
use Rattle.matching.proofs.Members.{distinct_cons}
use Rattle.matching.proofs.Best.{best_h, best_nil, best_cons}
use Rattle.matching.proofs.Path.{best_ext}

-- ---- the cells of a set that pass a test

abbrev pub chosen : (ℕ → Bool) → List ℕ → List ℕ
chosen t [] = []
chosen t (c ∷ cs) = cond (t c) (c ∷ chosen t cs) (chosen t cs)

pub chosen_test : (t : ℕ → Bool) (cs : List ℕ) (x : ℕ)
    → Test ((mem x cs ≡ true) × (t x ≡ true)) (mem x cs ≡ true → t x ≡ false) (mem x (chosen t cs))
chosen_test t [] x = fail (λ h. no_mem x h)
chosen_test t (c ∷ cs) x = go (is_test (t c)) (eq_test c x) (chosen_test t cs x)
  where
    In : List ℕ → Type 0
    In xs = (mem x xs ≡ true) × (t x ≡ true)

    Off : List ℕ → Type 0
    Off xs = mem x xs ≡ true → t x ≡ false

    go : {s e : Bool} → Test (t c ≡ true) (t c ≡ false) s → Test (c ≡ x) (c ≢ x) e
        → Test (In cs) (Off cs) (mem x (chosen t cs))
        → Test (In (c ∷ cs)) (Off (c ∷ cs)) (mem x (cond s (c ∷ chosen t cs) (chosen t cs)))
    go (pass p) (pass e) i = rw (mem_head x c (chosen t cs) e) (pass (mem_head x c cs e, ap t (sym e) ∙ p))
    go (fail p) (pass e) i = map_test (λ h. clash h.1 (ap t (sym e) ∙ p)) (λ f h. ap t (sym e) ∙ p) i
    go (pass p) (fail d) i = rw (mem_past x c (chosen t cs) d, mem_past x c cs d) i
    go (fail p) (fail d) i = rw (mem_past x c cs d) i

pub chosen_length : (t : ℕ → Bool) (cs : List ℕ) → length (chosen t cs) ≤ length cs
chosen_length t [] = omega arith
chosen_length t (c ∷ cs) = go (t c) (chosen_length t cs)
  where
    go : (s : Bool) → length (chosen t cs) ≤ length cs
        → length (cond s (c ∷ chosen t cs) (chosen t cs)) ≤ suc (length cs)
    go true i = omega arith
    go false i = omega arith

chosen_distinct : (t : ℕ → Bool) (cs : List ℕ) → distinct cs ≡ true → distinct (chosen t cs) ≡ true
chosen_distinct t [] d = refl
chosen_distinct t (c ∷ cs) d = go (t c) (chosen_distinct t cs (distinct_cons c cs d).1)
  where
    none : mem c (chosen t cs) ≡ false
    none = fails (is_test (mem c (chosen t cs))) (λ h. clash (holds (chosen_test t cs c) h).0 (distinct_cons c cs d).0)

    go : (s : Bool) → distinct (chosen t cs) ≡ true → distinct (cond s (c ∷ chosen t cs) (chosen t cs)) ≡ true
    go true i = rw (none, i)
    go false i = i

chosen_all : (P : ℕ → Type 0) (t : ℕ → Bool) (cs : List ℕ) → All P cs → All P (chosen t cs)
chosen_all P t [] h = tt
chosen_all P t (c ∷ cs) h = go (t c) (chosen_all P t cs h.1)
  where
    go : (s : Bool) → All P (chosen t cs) → All P (cond s (c ∷ chosen t cs) (chosen t cs))
    go true i = (h.0, i)
    go false i = i

pub chosen_ascends : (t : ℕ → Bool) (cs : List ℕ) → Ascends (λ a b. a < b) cs → Ascends (λ a b. a < b) (chosen t cs)
chosen_ascends t [] a = tt
chosen_ascends t (c ∷ cs) a = go (t c) (chosen_ascends t cs a.1)
  where
    go : (s : Bool) → Ascends (λ a b. a < b) (chosen t cs)
        → Ascends (λ a b. a < b) (cond s (c ∷ chosen t cs) (chosen t cs))
    go true i = (chosen_all (λ x. c < x) t cs a.0, i)
    go false i = i

-- ---- a set less one cell

abbrev but : ℕ → ℕ → Bool
but p c = not (eqb c p)

less_chosen : (p : ℕ) (cs : List ℕ) → less p cs ≡ chosen (but p) cs
less_chosen p [] = refl
less_chosen p (c ∷ cs) = go (eqb c p) (less_chosen p cs)
  where
    go : (t : Bool) → less p cs ≡ chosen (but p) cs
        → cond t (less p cs) (c ∷ less p cs) ≡ cond (not t) (c ∷ chosen (but p) cs) (chosen (but p) cs)
    go true i = i
    go false i = ap (λ xs. c ∷ xs) i

pub less_mem : (p x : ℕ) (cs : List ℕ) → mem x (less p cs) ≡ true → (mem x cs ≡ true) × (p ≢ x)
less_mem p x cs h =
    let q = holds (chosen_test (but p) cs x) (rw (less_chosen p cs) at h) in
    (q.0, λ e. holds (not_test (eq_test x p)) q.1 (sym e))

pub less_gone : (p : ℕ) (cs : List ℕ) → mem p (less p cs) ≡ false
less_gone p cs = fails (is_test (mem p (less p cs))) (λ h. (less_mem p p cs h).1 refl)

pub less_past : (p x : ℕ) → p ≢ x → (cs : List ℕ) → mem x (less p cs) ≡ mem x cs
less_past p x n cs = rw (less_chosen p cs) (go (chosen_test (but p) cs x) (is_test (mem x cs)))
  where
    there : but p x ≡ true
    there = passes (not_test (eq_test x p)) (λ e. n (sym e))

    go : {s t : Bool} → Test ((mem x cs ≡ true) × (but p x ≡ true)) (mem x cs ≡ true → but p x ≡ false) s
        → Test (mem x cs ≡ true) (mem x cs ≡ false) t → s ≡ t
    go (pass h) (pass k) = refl
    go (pass h) (fail k) = clash h.0 k
    go (fail h) (pass k) = clash there (h k)
    go (fail h) (fail k) = refl

pub less_length : (p : ℕ) (cs : List ℕ) → length (less p cs) ≤ length cs
less_length p cs = rw (less_chosen p cs) (chosen_length (but p) cs)

less_distinct : (p : ℕ) (cs : List ℕ) → distinct cs ≡ true → distinct (less p cs) ≡ true
less_distinct p cs d = rw (less_chosen p cs) (chosen_distinct (but p) cs d)

pub less_each : (P : ℕ → Type 0) (p : ℕ) (cs : List ℕ) → All P cs → All P (less p cs)
less_each P p cs h = rw (less_chosen p cs) (chosen_all P (but p) cs h)

pub less_ascends : (p : ℕ) (cs : List ℕ) → Ascends (λ a b. a < b) cs → Ascends (λ a b. a < b) (less p cs)
less_ascends p cs a = rw (less_chosen p cs) (chosen_ascends (but p) cs a)

-- ---- pairs of a cell that must stay free

abbrev off : ℕ → ℕ → ℕ → Bool
off p a b = but p a && but p b

best_without : (t : Bool) (w : Points) (p : ℕ) (es : List Pair) (free : List ℕ) → mem p free ≡ true
    → (best t w free es ≡ best t w free (keep (off p) es)) × (H w free es ≡ H w free (keep (off p) es))
unfolding best H
best_without t w p [] free h = (refl, refl)
best_without t w p (e ∷ es) free h =
    go (and_test (not_test (eq_test e.0 p)) (not_test (eq_test e.1 p))) (best_without t w p es free h)
    (best_without t w p es more (mem_on p e.0 (e.1 ∷ free) (mem_on p e.1 free h)))
  where
    more : List ℕ
    more = e.0 ∷ e.1 ∷ free

    k : List Pair
    k = keep (off p) es

    Equal : List ℕ → List Pair → List Pair → Type 0
    Equal free es k = (best t w free es ≡ best t w free k) × (H w free es ≡ H w free k)

    bars : (e.0 ≡ p) ⊎ (e.1 ≡ p) → barred free e ≡ true
    bars (inl q) = or_left (mem e.0 free) (mem e.1 free) (rw q h)
    bars (inr q) = or_right (mem e.0 free) (mem e.1 free) (rw q h)

    go : {s : Bool} → Test ((e.0 ≢ p) × (e.1 ≢ p)) ((e.0 ≡ p) ⊎ (e.1 ≡ p)) s → Equal free es k → Equal more es k
        → Equal free (e ∷ es) (cond s (e ∷ k) k)
    go (pass q) i j = (cc (i.0, i.1, j.0, j.1), cc (i.1, j.1))
    go (fail q) i j = (rw (bars q) i.0, rw (bars q) i.1)

-- ---- the pairs of a set

module _ (w : Points) where
  abbrev pair_at : ℕ → ℕ → List Pair
  pair_at c p = cond (ltb 0 (w c p)) ((c, p) ∷ []) []

  -- between cells that pass a test: the pairs of those cells
  module _ (t : ℕ → Bool) where
    abbrev between : ℕ → ℕ → Bool
    between a b = t a && t b

    nothing : (s : Bool) → ◌≡◌ {A = List Pair} [] (cond s [] [])
    nothing true = refl
    nothing false = refl

    keep_at : (c q : ℕ) → keep between (pair_at c q) ≡ cond (t c && t q) (pair_at c q) []
    keep_at c q = go (ltb 0 (w c q))
      where
        go : (s : Bool) → keep between (cond s ((c, q) ∷ []) []) ≡ cond (t c && t q) (cond s ((c, q) ∷ []) []) []
        go true = refl
        go false = nothing (t c && t q)

    keep_with : (c : ℕ) (ps : List ℕ) → keep between (pairs_with w c ps) ≡ cond (t c) (pairs_with w c (chosen t ps)) []
    keep_with c [] = nothing (t c)
    keep_with c (q ∷ ps) =
        keep_append between (pairs_with w c ps) (pair_at c q) ∙ ap₂ (λ x y. x ++ y) (keep_with c ps) (keep_at c q)
        ∙ go (t c) (t q)
      where
        go : (s u : Bool) → cond s (pairs_with w c (chosen t ps)) [] ++ cond (s && u) (pair_at c q) []
            ≡ cond s (pairs_with w c (cond u (q ∷ chosen t ps) (chosen t ps))) []
        go false u = refl
        go true false = rw append-nil
        go true true = refl

    pub keep_chosen : (cs : List ℕ) → keep between (pairs_among w cs) ≡ pairs_among w (chosen t cs)
    unfolding pairs_among
    keep_chosen [] = refl
    keep_chosen (c ∷ cs) =
        keep_append between (pairs_with w c cs) (pairs_among w cs)
        ∙ ap₂ (λ x y. x ++ y) (keep_with c cs) (keep_chosen cs)
        ∙ go (t c)
      where
        go : (s : Bool) → cond s (pairs_with w c (chosen t cs)) [] ++ pairs_among w (chosen t cs)
            ≡ pairs_among w (cond s (c ∷ chosen t cs) (chosen t cs))
        go true = refl
        go false = refl

  -- a fact of each cell of a set holds of both cells of each pair
  with_each : (P : ℕ → Type 0) (c : ℕ) (ps : List ℕ) → P c → All P ps → Each (λ a b. P a × P b) (pairs_with w c ps)
  with_each P c [] hc h = tt
  with_each P c (p ∷ ps) hc h =
      each_append (λ a b. P a × P b) (pairs_with w c ps) (pair_at c p) (with_each P c ps hc h.1) (go (ltb 0 (w c p)))
    where
      go : (t : Bool) → Each (λ a b. P a × P b) (cond t ((c, p) ∷ []) [])
      go true = ((hc, h.0), tt)
      go false = tt

  pub of_each : (P : ℕ → Type 0) (cs : List ℕ) → All P cs → Each (λ a b. P a × P b) (pairs_among w cs)
  unfolding pairs_among
  of_each P [] h = tt
  of_each P (c ∷ cs) h =
      each_append (λ a b. P a × P b) (pairs_with w c cs) (pairs_among w cs) (with_each P c cs h.0 h.1)
      (of_each P cs h.1)

  -- its pairs have points
  with_held : (c : ℕ) (ps : List ℕ) → Each (λ a b. 0 < w a b) (pairs_with w c ps)
  with_held c [] = tt
  with_held c (p ∷ ps) =
      each_append (λ a b. 0 < w a b) (pairs_with w c ps) (pair_at c p) (with_held c ps) (go (lt_test 0 (w c p)))
    where
      go : {t : Bool} → Test (0 < w c p) (w c p ≤ 0) t → Each (λ a b. 0 < w a b) (cond t ((c, p) ∷ []) [])
      go (pass h) = (h, tt)
      go (fail h) = tt

  pub of_held : (cs : List ℕ) → Each (λ a b. 0 < w a b) (pairs_among w cs)
  unfolding pairs_among
  of_held [] = tt
  of_held (c ∷ cs) =
      each_append (λ a b. 0 < w a b) (pairs_with w c cs) (pairs_among w cs) (with_held c cs) (of_held cs)

  -- with c, p free: the best of the set less p
  best_less : (c p : ℕ) (cs : List ℕ) → mem c cs ≡ false
      → best false w (c ∷ p ∷ []) (pairs_among w cs) ≡ solved w (less p cs)
  best_less c p cs n =
      (best_without false w p (pairs_among w cs) (c ∷ p ∷ []) (mem_on p c (p ∷ []) (mem_head p p [] refl))).0
      ∙ ap (best false w (c ∷ p ∷ [])) (keep_chosen (but p) cs ∙ ap (pairs_among w) (sym (less_chosen p cs)))
      ∙ best_ext false w (pairs_among w (less p cs)) (c ∷ p ∷ []) [] (of_each Off (less p cs) (all_map at (less p cs)
      (all_members (less p cs))))
    where
      Off : ℕ → Type 0
      Off x = mem x (c ∷ p ∷ []) ≡ mem x []

      at : (x : ℕ) → mem x (less p cs) ≡ true → Off x
      at x h =
          (let q = less_mem p x cs h in
          mem_past x c (p ∷ []) (λ e. mem_apart x c cs q.0 n (sym e)) ∙ mem_past x p [] q.1)

  -- ---- the law: each partner tried is one more pair read

  module _ (c : ℕ) (rest : ℕ → List Pair) where
    try_best : (p : ℕ) (es had : List Pair) → had ≡ best false w [] es → rest p ≡ best false w (c ∷ p ∷ []) es
        → cond (ltb 0 (w c p) && ltb (sum w had) (w c p + sum w (rest p))) ((c, p) ∷ rest p) had
        ≡ best false w [] (pair_at c p ++ es)
    try_best p es had e r = go (ltb 0 (w c p))
      where
        points : (k : List Pair) (free : List ℕ) → k ≡ best false w free es → sum w k ≡ H w free es
        points k free q = ap (sum w) q ∙ best_h false w free es

        go : (t : Bool) → cond (t && ltb (sum w had) (w c p + sum w (rest p))) ((c, p) ∷ rest p) had
            ≡ best false w [] (cond t ((c, p) ∷ []) [] ++ es)
        go true = cc (points had [] e, points (rest p) (c ∷ p ∷ []) r, best_cons false w [] (c, p) es)
        go false = e

    skip : (p q : ℕ) (es : List Pair) → best false w (c ∷ q ∷ []) (pair_at c p ++ es) ≡ best false w (c ∷ q ∷ []) es
    skip p q es = go (ltb 0 (w c p))
      where
        go : (t : Bool) → best false w (c ∷ q ∷ []) (cond t ((c, p) ∷ []) [] ++ es) ≡ best false w (c ∷ q ∷ []) es
        go true = best_cons false w (c ∷ q ∷ []) (c, p) es ∙ rw (eq-eqb c c refl)
        go false = refl

    tries_best : (ps : List ℕ) (es had : List Pair) → had ≡ best false w [] es
        → ((p : ℕ) → mem p ps ≡ true → rest p ≡ best false w (c ∷ p ∷ []) es)
        → tries rest w c ps had ≡ best false w [] (pairs_with w c ps ++ es)
    tries_best [] es had e r = e
    tries_best (p ∷ ps) es had e r =
        rw append_assoc (tries_best ps (pair_at c p ++ es) _ (try_best p es had e (r p (mem_head p p ps refl)))
        (λ q h. r q (mem_on q p ps h) ∙ sym (skip p q es)))

pub solve_best : (k : ℕ) (w : Points) (cs : List ℕ) → length cs ≤ k → distinct cs ≡ true → solve k w cs ≡ solved w cs
unfolding pairs_among
solve_best zero w [] l d = sym (best_nil false w [])
solve_best zero w (c ∷ cs) l d = (let z : ⊥ = omega arith in absurd z)
solve_best (suc k) w [] l d = sym (best_nil false w [])
solve_best (suc k) w (c ∷ cs) l d =
    tries_best w c (λ p. solve k w (less p cs)) cs (pairs_among w cs) (solve k w cs)
    (solve_best k w cs (omega arith) q.1)
    (λ p h. solve_best k w (less p cs) (omega (arith, less_length p cs)) (less_distinct p cs q.1)
    ∙ sym (best_less w c p cs q.0))
  where
    q : (mem c cs ≡ false) × (distinct cs ≡ true)
    q = distinct_cons c cs d
