-- Labels and their sweeps over the pairs. The invariant after k sweeps (`Labelled`): a cell that has pairs names a cell
-- of its group, and no label is above the first label of a cell reached over k pairs. In order: the pairs of a list
-- (`short_lists`); a sweep, which raises no label (`swept_fall`) and comes to a split pair just where there is one
-- before it (`meets_split`, `swept_still`); the invariant at first (`own_labelled`) and after a sweep
-- (`swept_labelled`). Assumes nothing.
use mathlib.Core.Path.{◌≡◌, refl, sym, ap, fun_ext, ◌∙◌}
use mathlib.Core.Logic.{◌⊎◌, inl, inr, ◌≢◌}
use mathlib.Core.Bool.{Bool, true, false, not, cond, ◌||◌, false≢true}
use mathlib.Core.List.{List, [], ◌∷◌}
use Prim.Native.Nat.{ℕ, suc, ◌+◌, ◌≤◌, ◌<◌, min}
use native.Mathlib.Omega.{arith}
use lib.Dec.{ltb}
use lib.ListN.{length, get_or, set, length-set}
use lib.Seq.{get_or-set_same, get_or-set_other}
use Rattle.matching.specs.Lists.{mem, All}
use Rattle.matching.specs.Pairs.{Pair, Points, Each}
use Rattle.matching.specs.Listed.{Entry, short_list}
use Rattle.matching.specs.Graph.{Graph, degree}
use Rattle.matching.specs.Groups.{reached, group}
use Rattle.matching.proofs.Tests.{Test, pass, fail, eq_test, lt_test, not_test, or_test, map_test}
use Rattle.matching.proofs.Members.{mem_one}
use Rattle.matching.proofs.Alls.{Has}
use Rattle.matching.proofs.Pairs.{Same}
use Rattle.matching.proofs.Sums.{touches_test, In, in_cases, in_turned, no_in, in_head}
use Rattle.matching.proofs.Put.{pair_apart, pair_below}
use Rattle.matching.proofs.Short.{EntryOf, short_entries, short_has}
use Rattle.matching.proofs.Solution.{pair_degree}
use Rattle.matching.proofs.Reached.{reached_first, group_own, pair_group}
use Rattle.grouping.specs.Labels.{Labels, own, lowered, swept, split, meets, pairs_in, Names, Labelled, Level}

-- ---- the pairs of a list

-- The list has the pairs of the graph and no others.
pub record Lists (w : Points) (es : List Pair) : Type 0 where
  pub live : Each (λ a b. 0 < w a b) es
  pub all : (a b : ℕ) → 0 < w a b → In es a b

-- what holds of each pair, in either order
each_in : (P : ℕ → ℕ → Type 0) → ((x y : ℕ) → P x y → P y x) → (es : List Pair) → Each P es → (a b : ℕ) → In es a b
    → P a b
each_in P t [] p a b h = no_in a b h
each_in P t (e ∷ es) p a b h = go (in_cases e.0 e.1 es a b h) (each_in P t es p.1 a b)
  where
    go : Same e.0 e.1 a b ⊎ In es a b → (In es a b → P a b) → P a b
    go (inl (inl q)) i = rw (q.0, q.1) p.0
    go (inl (inr q)) i = rw (q.0, q.1) (t e.0 e.1 p.0)
    go (inr k) i = i k

-- the short list has them
pub short_lists : {n : ℕ} {w : Points} → Graph n w → Lists w (pairs_in (short_list n w))
short_lists {n} {w} g = record {
  live = live (short_list n w) (short_entries n w);
  all = λ a b p. has a b p (lt_test a b);
}
  where
    live : (es : List Entry) → All (EntryOf n w) es
        → Each (λ a b. 0 < w a b) (pairs_in es)
    live [] p = tt
    live (e ∷ es) p = (omega (arith, p.0.its, p.0.some), live es p.1)

    listed : (a b x : ℕ) (es : List Entry) → Has es (a, b, x) → In (pairs_in es) a b
    listed a b x [] h = absurd h
    listed a b x (e ∷ es) (inl q) = rw (← q) (in_head a b (pairs_in es))
    listed a b x (e ∷ es) (inr h) = omega (arith, listed a b x es h)

    has : (a b : ℕ) → 0 < w a b → {t : Bool} → Test (a < b) (b ≤ a) t → In (pairs_in (short_list n w)) a b
    has a b p (pass l) = listed a b (w a b) (short_list n w) (short_has n w a b l (pair_below g a b p).1 p)
    has a b p (fail l) =
        let q : 0 < w b a = omega (arith, g.turned a b) in
        let m : b < a = omega (arith, pair_apart g a b p) in
        in_turned (pairs_in (short_list n w)) b a
        (listed b a (w b a) (short_list n w) (short_has n w b a m (pair_below g b a q).1 q))

-- ---- a sweep

lowered_fall : (e : Pair) (l : Labels) (c : ℕ) → lowered e l c ≤ l c
unfolding lowered
lowered_fall e l c = go (touches_test c e.0 e.1)
  where
    go : {t : Bool} → Test ((e.0 ≡ c) ⊎ (e.1 ≡ c)) ((e.0 ≢ c) × (e.1 ≢ c)) t
        → cond t (min (l e.0) (l e.1)) (l c) ≤ l c
    go (pass (inl q)) = omega (arith, ap l q)
    go (pass (inr q)) = omega (arith, ap l q)
    go (fail n) = omega arith

lowered_ends : (e : Pair) (l : Labels) (a b : ℕ) → Same e.0 e.1 a b → lowered e l a ≤ l b
unfolding lowered
lowered_ends e l a b s = go (touches_test a e.0 e.1) s
  where
    go : {t : Bool} → Test ((e.0 ≡ a) ⊎ (e.1 ≡ a)) ((e.0 ≢ a) × (e.1 ≢ a)) t → Same e.0 e.1 a b
        → cond t (min (l e.0) (l e.1)) (l a) ≤ l b
    go (pass q) (inl p) = omega (arith, ap l p.1)
    go (pass q) (inr p) = omega (arith, ap l p.1)
    go (fail n) (inl p) = absurd (n.0 (sym p.0))
    go (fail n) (inr p) = absurd (n.1 (sym p.0))

-- labels that stand in a table: both ends' words are set
pub table_lowered : (t : List ℕ) (at a b m : ℕ) → at + a < length t → at + b < length t
    → m ≡ min (get_or t (at + a) 0) (get_or t (at + b) 0)
    → (λ c. get_or (set (set t (at + a) m) (at + b) m) (at + c) 0) ≡ lowered (a, b) (λ c. get_or t (at + c) 0)
unfolding lowered
table_lowered t at a b m la lb e = fun_ext (λ c. go c (eq_test a c) (eq_test b c))
  where
    once : List ℕ
    once = set t (at + a) m

    go : (c : ℕ) → {p q : Bool} → Test (a ≡ c) (a ≢ c) p → Test (b ≡ c) (b ≢ c) q
        → get_or (set once (at + b) m) (at + c) 0
        ≡ cond (p || q) (min (get_or t (at + a) 0) (get_or t (at + b) 0)) (get_or t (at + c) 0)
    go c x (pass y) =
        rw (← y) (get_or-set_same once (at + b) m 0 (omega (arith, length-set t (at + a) m)) ∙ e ∙ sym (either x))
      where
        either : {p : Bool} → Test (a ≡ c) (a ≢ c) p
            → cond (p || true) (min (get_or t (at + a) 0) (get_or t (at + b) 0)) (get_or t (at + b) 0)
            ≡ min (get_or t (at + a) 0) (get_or t (at + b) 0)
        either (pass z) = refl
        either (fail z) = refl
    go c (pass x) (fail y) =
        get_or-set_other once (at + b) (at + c) m 0 (λ q. y (omega arith))
        ∙ rw (← x) (get_or-set_same t (at + a) m 0 la ∙ e)
    go c (fail x) (fail y) =
        get_or-set_other once (at + b) (at + c) m 0 (λ q. y (omega arith))
        ∙ get_or-set_other t (at + a) (at + c) m 0 (λ q. x (omega arith))

-- labels never rise
pub swept_fall : (es : List Pair) (l : Labels) (c : ℕ) → swept es l c ≤ l c
swept_fall [] l c = omega arith
swept_fall (e ∷ es) l c = omega (arith, swept_fall es (lowered e l) c, lowered_fall e l c)

-- an end's label is at most what the other end's was
pub swept_ends : (es : List Pair) (l : Labels) (a b : ℕ) → In es a b → swept es l a ≤ l b
swept_ends [] l a b h = no_in a b h
swept_ends (e ∷ es) l a b h = go (in_cases e.0 e.1 es a b h) (swept_ends es (lowered e l) a b)
  where
    go : Same e.0 e.1 a b ⊎ In es a b → (In es a b → swept es (lowered e l) a ≤ lowered e l b)
        → swept es (lowered e l) a ≤ l b
    go (inl s) i = omega (arith, swept_fall es (lowered e l) a, lowered_ends e l a b s)
    go (inr k) i = omega (arith, i k, lowered_fall e l b)

-- a pair that is not split changes nothing, so a sweep comes to a split pair just where there is one before it
pub lowered_level : (e : Pair) (l : Labels) → l e.0 ≡ l e.1 → lowered e l ≡ l
unfolding lowered
lowered_level e l q = fun_ext (λ c. go c (touches_test c e.0 e.1))
  where
    go : (c : ℕ) → {t : Bool} → Test ((e.0 ≡ c) ⊎ (e.1 ≡ c)) ((e.0 ≢ c) × (e.1 ≢ c)) t
        → cond t (min (l e.0) (l e.1)) (l c) ≡ l c
    go c (pass (inl p)) = omega (arith, q, ap l p)
    go c (pass (inr p)) = omega (arith, q, ap l p)
    go c (fail n) = refl

pub meets_split : (es : List Pair) (l : Labels) → meets es l ≡ split l es
meets_split [] l = refl
meets_split (e ∷ es) l = go (eq_test (l e.0) (l e.1)) (meets_split es l)
  where
    go : {t : Bool} → Test (l e.0 ≡ l e.1) (l e.0 ≢ l e.1) t → meets es l ≡ split l es
        → not t || meets es (lowered e l) ≡ not t || split l es
    go (pass q) i = rw (lowered_level e l q) i
    go (fail d) i = refl

-- where it comes to none it leaves the labels as they are
pub swept_still : (es : List Pair) (l : Labels) → meets es l ≡ false → swept es l ≡ l
swept_still [] l h = refl
swept_still (e ∷ es) l h = go (eq_test (l e.0) (l e.1)) h (swept_still es l)
  where
    go : {t : Bool} → Test (l e.0 ≡ l e.1) (l e.0 ≢ l e.1) t → not t || meets es (lowered e l) ≡ false
        → (meets es l ≡ false → swept es l ≡ l) → swept es (lowered e l) ≡ l
    go (pass q) h i = let r = lowered_level e l q in rw r (i (rw r at h))
    go (fail d) h i = absurd (false≢true (sym h))

pub split_test : {w : Points} (es : List Pair) → Lists w es → (l : Labels)
    → Test ((a : ℕ) × (b : ℕ) × (0 < w a b) × (l a ≢ l b)) (Level w l) (split l es)
split_test {w} es s l = map_test (λ p. p) (λ f a b p. all a b (s.all a b p) f) (go es s.live)
  where
    Split : Type 0
    Split = (a : ℕ) × (b : ℕ) × (0 < w a b) × (l a ≢ l b)

    go : (es : List Pair) → Each (λ a b. 0 < w a b) es → Test Split (Each (λ a b. l a ≡ l b) es) (split l es)
    go [] p = fail tt
    go (e ∷ es) p = map_test some none (or_test (not_test (eq_test (l e.0) (l e.1))) (go es p.1))
      where
        some : (l e.0 ≢ l e.1) ⊎ Split → Split
        some (inl d) = (e.0, e.1, p.0, d)
        some (inr q) = q

        none : (l e.0 ≡ l e.1) × Each (λ a b. l a ≡ l b) es → Each (λ a b. l a ≡ l b) (e ∷ es)
        none q = q

    all : (a b : ℕ) → In es a b → Each (λ a b. l a ≡ l b) es → l a ≡ l b
    all a b i f = each_in (λ x y. l x ≡ l y) (λ x y e. sym e) es f a b i

-- ---- the invariant

module _ {n : ℕ} {w : Points} (g : Graph n w) where
  pub own_labelled : (l : Labels) → ((c : ℕ) → c < n → l c ≡ own n w c) → Labelled n w 0 l
  unfolding reached
  own_labelled l h = record {
    none = λ c b d. h c b ∙ off c d (lt_test 0 (degree n w c));
    names = λ c b d. (c, h c b ∙ on c d (lt_test 0 (degree n w c)), group_own n w c g b);
    low = λ c d b m. let e = mem_one d c m in omega (arith, h c b, most c (ltb 0 (degree n w c)));
  }
    where
      off : (c : ℕ) → degree n w c ≤ 0 → {t : Bool} → Test (0 < degree n w c) (degree n w c ≤ 0) t
          → cond t (suc c) 0 ≡ 0
      off c d (pass p) = absurd (omega arith)
      off c d (fail p) = refl

      on : (c : ℕ) → 0 < degree n w c → {t : Bool} → Test (0 < degree n w c) (degree n w c ≤ 0) t
          → cond t (suc c) 0 ≡ suc c
      on c d (pass p) = refl
      on c d (fail p) = absurd (omega arith)

      most : (c : ℕ) (t : Bool) → cond t (suc c) 0 ≤ suc c
      most c true = omega arith
      most c false = omega arith

  -- What one pair keeps, a sweep keeps.
  Named : Labels → Type 0
  Named l = ((c : ℕ) → c < n → degree n w c ≤ 0 → l c ≡ 0) × ((c : ℕ) → c < n → 0 < degree n w c → Names n w l c)

  lowered_named : (e : Pair) → 0 < w e.0 e.1 → (l : Labels) → Named l → Named (lowered e l)
  unfolding lowered Named
  lowered_named e p l h = (none, names)
    where
      a : ℕ
      a = e.0

      b : ℕ
      b = e.1

      turned : 0 < w b a
      turned = omega (arith, g.turned a b)

      none : (c : ℕ) → c < n → degree n w c ≤ 0 → lowered e l c ≡ 0
      none c m d = omega (arith, lowered_fall e l c, h.0 c m d)

      -- both labels name a cell of the one group
      lower : Names n w l a → Names n w l b → (d : ℕ) × (min (l a) (l b) ≡ suc d) × (mem d (group n w a) ≡ true)
      lower (x, ex, hx) (y, ey, hy) = go (lt_test x y)
        where
          go : {t : Bool} → Test (x < y) (y ≤ x) t → (d : ℕ) × (min (l a) (l b) ≡ suc d) × (mem d (group n w a) ≡ true)
          go (pass q) = (x, omega arith, hx)
          go (fail q) = (y, omega arith, rw (pair_group g a b p) hy)

      names : (c : ℕ) → c < n → 0 < degree n w c → Names n w (lowered e l) c
      names c m d = go (touches_test c a b)
        where
          both : (d : ℕ) × (min (l a) (l b) ≡ suc d) × (mem d (group n w a) ≡ true)
          both =
              let low = pair_below g a b p in
              lower (h.1 a low.0 (pair_degree n w g b a turned)) (h.1 b low.1 (pair_degree n w g a b p))

          go : {t : Bool} → Test ((a ≡ c) ⊎ (b ≡ c)) ((a ≢ c) × (b ≢ c)) t
              → (d : ℕ) × (cond t (min (l a) (l b)) (l c) ≡ suc d) × (mem d (group n w c) ≡ true)
          go (pass (inl q)) = (both.0, both.1, rw (← q) both.2)
          go (pass (inr q)) = (both.0, both.1, rw (← q, ← (pair_group g a b p)) both.2)
          go (fail k) = h.1 c m d

  swept_named : (es : List Pair) → Each (λ a b. 0 < w a b) es → (l : Labels) → Named l → Named (swept es l)
  swept_named [] p l h = h
  swept_named (e ∷ es) p l h = swept_named es p.1 (lowered e l) (lowered_named e p.0 l h)

  -- after a sweep
  pub swept_labelled : (es : List Pair) → Lists w es → (k : ℕ) (l : Labels) → Labelled n w k l
      → Labelled n w (suc k) (swept es l)
  unfolding Named
  swept_labelled es s k l h = record {
    none = named.0;
    names = named.1;
    low = λ c d m r. lower c d m (reached_first g c m k d r);
  }
    where
      named : Named (swept es l)
      named = swept_named es s.live l (h.none, h.names)

      lower : (c d : ℕ) → c < n
          → (mem d (reached n w c k) ≡ true) ⊎ ((b : ℕ) × (0 < w c b) × (mem d (reached n w b k) ≡ true))
          → swept es l c ≤ suc d
      lower c d m (inl r) = omega (arith, swept_fall es l c, h.low c d m r)
      lower c d m (inr (b, p, r)) =
          omega (arith, swept_ends es l c b (s.all c b p), h.low b d (pair_below g c b p).1 r)
