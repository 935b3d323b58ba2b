-- How many cells of a graph have pairs, and how many pairs it has. In order: the cells as a sum over the cells, and
-- when some of them are gone (`cells_gone`, `cells_fewer`); sums over all pairs a < b below n; the length of the short
-- list is such a sum, and when it is no longer than that of another graph (`pairs_no_more`). Assumes nothing.
use mathlib.Core.Path.{◌≡◌, refl, ap, ap₂, subst, fun_ext, ◌∙◌}
use mathlib.Core.Logic.{inl, inr, ◌≢◌}
use mathlib.Core.Bool.{Bool, true, false, cond, ◌&&◌}
use mathlib.Core.List.{List, [], ◌∷◌}
use Prim.Native.Nat.{ℕ, zero, suc, ◌+◌, ◌≤◌, ◌<◌}
use native.Mathlib.Omega.{arith}
use lib.Dec.{eqb, ltb}
use lib.ListN.{length, length-append}
use borrow.Author.Tests.{lt-ltb}
use Rattle.matching.specs.Lists.{mem}
use Rattle.matching.specs.Pairs.{Pair, Points, ι, sum, Each, like}
use Rattle.matching.specs.Listed.{Entry, short_at, short_below, short_list}
use Rattle.matching.specs.Graph.{Graph, partners, degree, paired, cells_left}
use Rattle.matching.proofs.Tests.{Test, pass, fail, is_test, eq_test, lt_test, holds}
use Rattle.matching.proofs.Members.{no_mem, mem_head}
use Rattle.matching.proofs.Pairs.{Same}
use Rattle.matching.proofs.Sums.{each_map, ι_is, ι_not, zero_like, like_self, like_flip}
use Rattle.matching.proofs.Upto.{sum_to, sum_to_le, sum_to_add, sum_to_ones, sum_to_at, sum_to_most}
use Rattle.matching.proofs.Put.{pair_below, pair_apart}
use Rattle.matching.proofs.Partners.{partner_test, has_partner}

pub ι_most : (t : Bool) → ι t ≤ 1
ι_most true = omega arith
ι_most false = omega arith

-- ---- cells

-- The cell has a pair; the same as a count, by its degree.
abbrev pub Live : Points → ℕ → Type 0
Live w c = (x : ℕ) × (0 < w c x)

alive : ℕ → Points → ℕ → ℕ
alive n w c = ι (ltb 0 (degree n w c))

cells_sum : (n : ℕ) (w : Points) (k : ℕ) → paired n w k ≡ sum_to k (alive n w)
unfolding paired sum_to alive
cells_sum n w zero = refl
cells_sum n w (suc k) = omega (arith, cells_sum n w k)

pub cells_most : (n : ℕ) (w : Points) → cells_left n w ≤ n
unfolding alive
cells_most n w = omega (arith, cells_sum n w n, sum_to_ones n (alive n w) (λ c. ι_most (ltb 0 (degree n w c))))

live_alive : {n : ℕ} {w : Points} → Graph n w → (c : ℕ) → Live w c → alive n w c ≡ 1
unfolding alive
live_alive {n} {w} g c l = go (partners n w c) (has_partner g c l.0 l.1)
  where
    go : (ps : List ℕ) → mem l.0 ps ≡ true → ι (ltb 0 (length ps)) ≡ 1
    go [] m = no_mem l.0 m
    go (x ∷ xs) m = rw (lt-ltb 0 (length (x ∷ xs)) (omega arith))

pub degree_live : (n : ℕ) (w : Points) (c : ℕ) → 0 < degree n w c → Live w c
degree_live n w c = go (partners n w c) refl
  where
    go : (ps : List ℕ) → partners n w c ≡ ps → 0 < length ps → Live w c
    go [] e h = absurd (omega arith)
    go (x ∷ xs) e h = (x, (holds (partner_test n w c x) (rw e (mem_head x x xs refl))).1)

-- w' has pairs only at cells that w has pairs at, and none at some of them
pub cells_gone : {n : ℕ} {w : Points} → Graph n w → (w' : Points) → ((a b : ℕ) → 0 < w' a b → Live w a)
    → (gone : ℕ → Bool) → ((c : ℕ) → gone c ≡ true → Live w c × ((x : ℕ) → 0 < w' c x → ⊥))
    → sum_to n (λ i. ι (gone i)) + cells_left n w' ≤ cells_left n w
unfolding alive
cells_gone {n} {w} g w' keep gone lost =
    omega (
      arith,
      cells_sum n w n,
      cells_sum n w' n,
      sum_to_le n (λ i. ι (gone i) + alive n w' i) (alive n w)
          (λ i. at i (is_test (gone i)) (lt_test 0 (degree n w' i))),
      sum_to_add n (λ i. ι (gone i)) (alive n w'),
    )
  where
    at : (i : ℕ) → {s t : Bool} → Test (gone i ≡ true) (gone i ≡ false) s
        → Test (0 < degree n w' i) (degree n w' i ≤ 0) t → ι s + ι t ≤ alive n w i
    at i (pass e) (pass h) = let k = degree_live n w' i h in absurd ((lost i e).1 k.0 k.1)
    at i (pass e) (fail h) = omega (arith, live_alive g i (lost i e).0)
    at i (fail e) (pass h) = let k = degree_live n w' i h in omega (arith, live_alive g i (keep i k.0 k.1))
    at i (fail e) (fail h) = omega arith

-- none at one of them
pub cells_fewer : {n : ℕ} {w : Points} → Graph n w → (w' : Points) → ((a b : ℕ) → 0 < w' a b → Live w a)
    → (c : ℕ) → Live w c → ((x : ℕ) → 0 < w' c x → ⊥) → cells_left n w' < cells_left n w
cells_fewer {n} {w} g w' keep c l gone =
    omega (
      arith,
      cells_gone g w' keep (eqb c) (λ i h. subst (λ (k : ℕ). Live w k × ((x : ℕ) → 0 < w' k x → ⊥))
          (holds (eq_test c i) h) (l, gone)),
      (sum_to_at c (λ i. ι (eqb c i)) (λ i d. ι_not c i (λ e. d (omega arith))) n).0 (pair_below g c l.0 l.1).0,
      ι_is c {b = c} refl,
    )

-- ---- sums over pairs

unfoldable pub pair_sum : ℕ → Points → ℕ
pair_sum n f = sum_to n (λ a. sum_to n (λ b. cond (ltb a b) (f a b) 0))

pair_sum_le : (n : ℕ) (f g : Points) → ((a b : ℕ) → f a b ≤ g a b) → pair_sum n f ≤ pair_sum n g
unfolding pair_sum
pair_sum_le n f g h = sum_to_le n _ _ (λ a. sum_to_le n _ _ (λ b. at a b (ltb a b)))
  where
    at : (a b : ℕ) (t : Bool) → cond t (f a b) 0 ≤ cond t (g a b) 0
    at a b true = h a b
    at a b false = omega arith

pair_sum_add : (n : ℕ) (f g : Points) → pair_sum n (λ a b. f a b + g a b) ≡ pair_sum n f + pair_sum n g
unfolding pair_sum
pair_sum_add n f g =
    ap (sum_to n) (fun_ext (λ a. ap (sum_to n) (fun_ext (λ b. at a b (ltb a b)))
    ∙ sum_to_add n (λ b. cond (ltb a b) (f a b) 0) (λ b. cond (ltb a b) (g a b) 0)))
    ∙ sum_to_add n (λ a. sum_to n (λ b. cond (ltb a b) (f a b) 0)) (λ a. sum_to n (λ b. cond (ltb a b) (g a b) 0))
  where
    at : (a b : ℕ) (t : Bool) → cond t (f a b + g a b) 0 ≡ cond t (f a b) 0 + cond t (g a b) 0
    at a b true = refl
    at a b false = refl

-- one pair is met once
module _ (n x y : ℕ) (up : x ≤ y) where
  met : ℕ → ℕ → ℕ
  met a b = cond (ltb a b) (like x y a b) 0

  met_else : (a b : ℕ) → ((a ≡ x) × (b ≡ y) → ⊥) → met a b ≡ 0
  unfolding met
  met_else a b d = go (lt_test a b)
    where
      same : a < b → Same x y a b → ⊥
      same l (inl p) = d p
      same l (inr p) = omega arith

      go : {t : Bool} → Test (a < b) (b ≤ a) t → cond t (like x y a b) 0 ≡ 0
      go (pass l) = zero_like x y a b (same l)
      go (fail l) = refl

  met_row : (a b : ℕ) → b ≢ y → met a b ≡ 0
  met_row a b d = met_else a b (λ p. d p.1)

  met_rows : (a : ℕ) → a ≢ x → sum_to n (met a) ≡ 0
  met_rows a d = omega (arith, sum_to_most y (met a) (met_row a) n, met_else a y (λ p. d p.0))

  like_most : pair_sum n (like x y) ≤ 1
  unfolding pair_sum met
  like_most =
      omega (
        arith,
        sum_to_most x (λ a. sum_to n (met a)) met_rows n,
        sum_to_most y (met x) (met_row x) n,
        at (ltb x y),
      )
    where
      at : (t : Bool) → cond t (like x y x y) 0 ≤ 1
      at true = omega (arith, like_self x y)
      at false = omega arith

  like_one : x < y → y < n → pair_sum n (like x y) ≡ 1
  unfolding pair_sum met
  like_one l h =
      omega (
        arith,
        (sum_to_at x (λ a. sum_to n (met a)) met_rows n).0 (omega arith),
        (sum_to_at y (met x) (met_row x) n).0 h,
        let e : met x y ≡ 1 = rw (lt-ltb x y l) (like_self x y) in e,
      )

like_turn : (n x y : ℕ) → pair_sum n (like x y) ≡ pair_sum n (like y x)
like_turn n x y = ap (pair_sum n) (fun_ext (λ a. fun_ext (λ b. like_flip x y a b)))

-- How often the cells a, b stand among the pairs.
abbrev pub times : List Pair → Points
times es a b = sum (λ x y. like x y a b) es

times_none : (n : ℕ) → pair_sum n (times []) ≡ 0
times_none n = omega (arith, pair_sum_add n (λ a b. 0) (λ a b. 0))

times_most : (n : ℕ) (es : List Pair) → pair_sum n (times es) ≤ length es
times_most n [] = omega (arith, times_none n)
times_most n (e ∷ es) =
    omega (arith, pair_sum_add n (like e.0 e.1) (times es), times_most n es, go (lt_test e.0 e.1))
  where
    go : {t : Bool} → Test (e.0 < e.1) (e.1 ≤ e.0) t → pair_sum n (like e.0 e.1) ≤ 1
    go (pass h) = like_most n e.0 e.1 (omega arith)
    go (fail h) = omega (arith, like_turn n e.0 e.1, like_most n e.1 e.0 h)

times_all : (n : ℕ) (es : List Pair) → Each (λ x y. (x ≢ y) × (x < n) × (y < n)) es → pair_sum n (times es) ≡ length es
times_all n [] p = times_none n
times_all n (e ∷ es) p =
    omega (arith, pair_sum_add n (like e.0 e.1) (times es), times_all n es p.1, go p.0 (lt_test e.0 e.1))
  where
    go : (e.0 ≢ e.1) × (e.0 < n) × (e.1 < n) → {t : Bool} → Test (e.0 < e.1) (e.1 ≤ e.0) t
        → pair_sum n (like e.0 e.1) ≡ 1
    go i (pass h) = like_one n e.0 e.1 (omega arith) h i.2
    go i (fail h) = like_turn n e.0 e.1 ∙ like_one n e.1 e.0 h (omega (arith, i.0)) i.1

-- ---- pairs

-- 1 where the graph has the pair.
abbrev pub there : Points → Points
there w a b = ι (ltb 0 (w a b))

short_sum : (n : ℕ) (w : Points) → length (short_list n w) ≡ pair_sum n (there w)
unfolding pair_sum sum_to
short_sum n w = below n
  where
    one : (e : Entry) (s t : Bool) → length (cond (s && t) (e ∷ []) []) ≡ cond s (ι t) 0
    one e true true = refl
    one e true false = refl
    one e false t = refl

    row : (a k : ℕ) → length (short_at w a k) ≡ sum_to k (λ b. cond (ltb a b) (there w a b) 0)
    row a zero = refl
    row a (suc b) =
        length-append (short_at w a b) (cond (ltb a b && ltb 0 (w a b)) ((a, b, w a b) ∷ []) [])
        ∙ ap₂ ◌+◌ (row a b) (one (a, b, w a b) (ltb a b) (ltb 0 (w a b)))

    below : (k : ℕ) → length (short_below n w k) ≡ sum_to k (λ a. sum_to n (λ b. cond (ltb a b) (there w a b) 0))
    below zero = refl
    below (suc a) = length-append (short_below n w a) (short_at w a n) ∙ ap₂ ◌+◌ (below a) (row a n)

-- w' lacks the pairs `lost`, which w has, and has more only the pairs `new`
pub pairs_no_more : {n : ℕ} {w : Points} → Graph n w → (w' : Points) (lost new : List Pair)
    → ((a b : ℕ) → there w' a b + times lost a b ≤ there w a b + times new a b)
    → Each (λ a b. 0 < w a b) lost → length new ≤ length lost → length (short_list n w') ≤ length (short_list n w)
pairs_no_more {n} {w} g w' lost new h live l =
    omega (
      arith,
      short_sum n w,
      short_sum n w',
      pair_sum_le n (λ a b. there w' a b + times lost a b) (λ a b. there w a b + times new a b) h,
      pair_sum_add n (there w') (times lost),
      pair_sum_add n (there w) (times new),
      times_all n lost (each_map proper lost live),
      times_most n new,
    )
  where
    proper : (a b : ℕ) → 0 < w a b → (a ≢ b) × (a < n) × (b < n)
    proper a b k = let low = pair_below g a b k in (pair_apart g a b k, low.0, low.1)
