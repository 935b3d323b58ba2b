-- The way back uses the near end. In order: the pairs of a row differ (`walk_differ`), so where two heaviest pairings
-- of a chain or ring, or of one less some cells, are equal, the best is the one that takes the pair at the first
-- difference (`near_end`), and there is one such (`best_one`); what a step undoes (`step_undone`) and what a slip lifts
-- (`slip_lifts`), in the description's words. Assumes nothing.
use mathlib.Core.Path.{◌≡◌, refl, sym, ap, ap₂, ◌∙◌}
use mathlib.Core.Logic.{◌⊎◌, inl, inr, ◌≢◌}
use mathlib.Core.Bool.{Bool, true, false, true≢false, not, cond, ◌&&◌, ◌||◌}
use mathlib.Core.List.{List, [], ◌∷◌, ◌++◌}
use Prim.Native.Nat.{ℕ, ◌-◌, ◌≤◌, ◌<◌}
use native.Mathlib.Omega.{arith}
use lib.ListN.{length}
use borrow.Author.Tests.{lt-ltb}
use Rattle.matching.specs.Lists.{mem, distinct}
use Rattle.matching.specs.Pairs.{Pair, Points, ι, sum, Each, keep, same, like, held, without}
use Rattle.matching.specs.Pairing.{Once, Pairing}
use Rattle.matching.specs.Graph.{Graph}
use Rattle.matching.specs.Best.{H, best, tie, walk}
use Rattle.matching.specs.Steps.{Rule, by_leaf, by_ring, by_chain, Step, leaf, ring, chain, apply, outweighs}
use Rattle.matching.specs.Steps.{undo}
use Rattle.matching.specs.Ties.{Within, MostOf, TakesFirst, BestOf, WithBest, Outweighs, Undone, Lifts}
use Rattle.matching.specs.Shapes.{IsRow, IsRing, IsChain, IsStep}
use Rattle.matching.specs.Slip.{AreSteps, left, lift}
use Rattle.matching.proofs.Tests.{Test, pass, fail, lt_test, holds, fails}
use Rattle.matching.proofs.Pairs.{Same}
use Rattle.matching.proofs.Members.{mem_not, mem_apart, distinct_cons}
use Rattle.matching.proofs.Sums.{In, in_all, zero_like, each_map, each_zero, like_turned, like_hit, keep_all}
use Rattle.matching.proofs.Put.{pair_apart}
use Rattle.matching.proofs.Path.{walk_each}
use Rattle.matching.proofs.Best.{h_mono, best_h, best_most, best_each, best_once, best_off}
use Rattle.matching.proofs.Ties.{Differ, best_first}
use Rattle.matching.proofs.Exact.{step_graph, step_lifted}
use Rattle.matching.proofs.Find.{is_fits}
use Rattle.matching.proofs.Partner.{held_sum, held_free}

-- ---- the pairs of a row differ

first_apart : (u c : ℕ) (cs : List ℕ) (v : ℕ) → mem u cs ≡ false → mem c cs ≡ false → c ≢ v
    → (u ≢ v) ⊎ (0 < length cs) → Each (λ a b. like u c a b ≡ 0) (walk c cs v)
first_apart u c [] v hu hc n (inl k) = (zero_like u c c v no, tt)
  where
    no : Same u c c v → ⊥
    no (inl q) = omega (arith, n, q.0, q.1)
    no (inr q) = omega (arith, k, q.0, q.1)
first_apart u c [] v hu hc n (inr k) = (let z : ⊥ = omega arith in absurd z)
first_apart u c (d ∷ cs) v hu hc n k = (
  zero_like u c c d no,
  each_map later (walk d cs v)
      (walk_each (λ x. x ≢ c) cs d v off.0 (λ e. n (sym e)) (λ x h. mem_apart x c cs h off.1)),
)
  where
    off : (d ≢ c) × (mem c cs ≡ false)
    off = mem_not c d cs hc

    no : Same u c c d → ⊥
    no (inl q) = omega (arith, off.0, q.1)
    no (inr q) = omega (arith, (mem_not u d cs hu).0, q.1)

    later : (a b : ℕ) → (a ≢ c) × (b ≢ c) → like u c a b ≡ 0
    later a b h = zero_like u c a b not_same
      where
        not_same : Same u c a b → ⊥
        not_same (inl q) = omega (arith, h.1, q.1)
        not_same (inr q) = omega (arith, h.0, q.0)

pub walk_differ : (u : ℕ) (cs : List ℕ) (v : ℕ) → distinct cs ≡ true → mem u cs ≡ false → mem v cs ≡ false
    → (u ≢ v) ⊎ (1 < length cs) → Differ (walk u cs v)
walk_differ u [] v d a b h = (tt, tt)
walk_differ u (c ∷ cs) v d a b h =
    let x = distinct_cons c cs d in
    let y = mem_not v c cs b in (
      first_apart u c cs v (mem_not u c cs a).1 x.0 y.0 (go h),
      walk_differ c cs v x.1 x.0 y.1 (inl y.0),
    )
  where
    go : (u ≢ v) ⊎ (1 < length (c ∷ cs)) → (u ≢ v) ⊎ (0 < length cs)
    go (inl n) = inl n
    go (inr l) = inr (omega arith)

-- ---- the best of a chain or ring

module _ {n : ℕ} {w : Points} (g : Graph n w) {u v : ℕ} {inner : List ℕ} (r : IsRow n w u inner v) where
  abbrev row : List Pair
  row = walk u inner v

  best_within : (off : List ℕ) → Within off row (best tie w off row)
  best_within off = record {
    among = best_each (In row) tie w off row (in_all row);
    once = best_once tie w off row (each_map (λ a b h. pair_apart g a b h) row r.live);
    unpaired = best_off tie w off row;
  }

  -- The best is a heaviest one, and every heaviest one has the points H.
  pub row_heaviest : (off : List ℕ) → MostOf w off row (best tie w off row)
  row_heaviest off = record {
    within = best_within off;
    most = λ k p. omega (arith, best_most w g.turned row off k p, best_h tie w off row);
  }

  pub most_points : (off : List ℕ) (m : List Pair) → MostOf w off row m → sum w m ≡ H w off row
  most_points off m h =
      omega (
        arith,
        best_most w g.turned row off m h.within,
        best_h tie w off row,
        h.most (best tie w off row) (best_within off),
      )

  -- Of a ring C (u and v the same) and C less u, of a chain P, P less u, P less v and Q: the row with no cell, u, v, or
  -- both kept free.
  pub near_end : (off : List ℕ) → BestOf w off row (best tie w off row)
  unfolding tie
  near_end off = record {
    heaviest = row_heaviest off;
    near = λ k h. best_first w g.turned row
        (walk_differ u inner v r.apart r.first_off r.last_off (inr r.more)) off k h.within
        (most_points off k h);
  }

  -- with the pairs that stay
  with_best : (off off' : List ℕ) (k m : List Pair) → off ≡ off' → k ≡ m
      → WithBest w off' row m (best tie w off row ++ k)
  with_best off off' k m e f =
      (best tie w off' row, near_end off', ap₂ (λ (o : List ℕ) (l : List Pair). best tie w o row ++ l) e f)

-- There is one best: two hold the same pairs.
same_held : (es m k : List Pair) → TakesFirst es m k → TakesFirst es k m → Each (λ a b. held a b m ≡ held a b k) es
same_held [] m k p q = tt
same_held (e ∷ es) m k (inl p) (inl q) = absurd (true≢false (sym p.0 ∙ q.1))
same_held (e ∷ es) m k (inl p) (inr q) = absurd (true≢false (sym p.0 ∙ sym q.0 ∙ p.1))
same_held (e ∷ es) m k (inr p) (inl q) = absurd (true≢false (sym q.0 ∙ sym p.0 ∙ q.1))
same_held (e ∷ es) m k (inr p) (inr q) = (p.0, same_held es m k p.1 q.1)

pub best_one : (w : Points) (off : List ℕ) (es m k : List Pair) → BestOf w off es m → BestOf w off es k
    → Each (λ a b. held a b m ≡ held a b k) es
best_one w off es m k p q = same_held es m k (p.near k q.heaviest) (q.near m p.heaviest)

-- ---- a step undone

-- Tests that agree on the pairs keep the same.
keep_same : (s t : ℕ → ℕ → Bool) (m : List Pair) → Each (λ a b. s a b ≡ t a b) m → keep s m ≡ keep t m
keep_same s t [] p = refl
keep_same s t (e ∷ m) p =
    ap₂ (λ (x : Bool) (l : List Pair). cond x (e ∷ l) l) p.0 (keep_same s t m p.1)

each_two : (P Q : ℕ → ℕ → Type 0) (m : List Pair) → Each P m → Each Q m → Each (λ a b. P a b × Q a b) m
each_two P Q [] p q = tt
each_two P Q (e ∷ m) p q = ((p.0, q.0), each_two P Q m p.1 q.1)

abbrev Off : ℕ → ℕ → ℕ → ℕ → Type 0
Off x y a b = same x y a b ≡ false

-- A pair that is not held is nowhere.
nowhere : (x y : ℕ) (m : List Pair) → held x y m ≡ false → Each (Off x y) m
unfolding like
nowhere x y m h = each_map (λ a b q. go (same x y a b) q) m
    (each_zero (like x y) m (none (lt_test 0 (sum (like x y) m)) h))
  where
    none : {t : Bool} → Test (0 < sum (like x y) m) (sum (like x y) m ≤ 0) t → t ≡ false → sum (like x y) m ≡ 0
    none (pass p) e = (let z : ◌≡◌ {A = ℕ} 0 1 = cc in omega arith)
    none (fail q) e = omega arith

    go : (t : Bool) → ι t ≡ 0 → t ≡ false
    go true q = (let z : ⊥ = omega arith in absurd z)
    go false q = refl

-- Two pairs that differ, either way round.
differ : {x y a b : ℕ} → (a ≢ x) ⊎ (b ≢ y) → (a ≢ y) ⊎ (b ≢ x) → Same x y a b → ⊥
differ (inl n) k (inl q) = n q.0
differ (inr n) k (inl q) = n q.1
differ n (inl k) (inr q) = k q.0
differ n (inr k) (inr q) = k q.1

-- Of two pairs with the cell c, a pairing that holds the one does not hold the other.
module _ (m : List Pair) (once : Once m) (c x y : ℕ) (at : (x ≡ c) ⊎ (y ≡ c)) (h : held x y m ≡ true) where
  here : 1 ≤ sum (like x y) m
  here = holds (lt_test 0 (sum (like x y) m)) h

  other_not : (a b : ℕ) → (a ≡ c) ⊎ (b ≡ c) → (Same a b x y → ⊥) → held a b m ≡ false
  other_not a b on different =
      fails (lt_test 0 (sum (like a b) m)) (λ l. omega (
        arith,
        held_sum x y m once here (like a b) (like_turned a b),
        zero_like a b x y different,
        like_hit a b (without x y m) c on,
        held_free x y m once here c at,
      ))

leaf_undone : (w : Points) (u v : ℕ) (m : List Pair) → Undone w (leaf u v) m (undo w (leaf u v) m)
leaf_undone w u v m = record {
  unpaired = λ e. ap₂ (λ (x : Bool) (l : List Pair). cond x ((u, v) ∷ []) [] ++ l) e (keep_all m);
  paired = λ e. ap₂ (λ (x : Bool) (l : List Pair). cond x ((u, v) ∷ []) [] ++ l) e (keep_all m);
}

ring_undone : {n : ℕ} {w : Points} (g : Graph n w) {u z : ℕ} {inner : List ℕ} → IsRing n w u z inner → (m : List Pair)
    → Undone w (ring u z inner) m (undo w (ring u z inner) m)
ring_undone g {u} {z} {inner} p m = record {
  uz = λ e. with_best g p.row _ [] _ (without u z m) (ap (λ (x : Bool). cond x [] (u ∷ [])) e) refl;
  none = λ e. with_best g p.row _ (u ∷ []) _ m (ap (λ (x : Bool). cond x [] (u ∷ [])) e) (all_stay e);
}
  where
    all_stay : held u z m ≡ false → without u z m ≡ m
    all_stay e = keep_same _ (λ a b. true) m (each_map (λ a b q. ap not q) m (nowhere u z m e)) ∙ keep_all m

module _ {n : ℕ} {w : Points} (g : Graph n w) {u v z : ℕ} {inner : List ℕ} (p : IsChain n w u v z inner) where
  u≢v : u ≢ v
  u≢v e = omega (arith, p.ends)

  v≢u : v ≢ u
  v≢u e = omega (arith, p.ends)

  z≢u : z ≢ u
  z≢u = mem_apart z u inner p.low.here p.row.first_off

  u≢z : u ≢ z
  u≢z e = z≢u (sym e)

  z≢v : z ≢ v
  z≢v = mem_apart z v inner p.low.here p.row.last_off

  v≢z : v ≢ z
  v≢z e = z≢v (sym e)

  abbrev offs : Bool → Bool → Bool → Bool → List ℕ
  offs x y d t = cond x (v ∷ []) (cond y (u ∷ []) (cond (d && not t) [] (u ∷ v ∷ [])))

  abbrev stay : Bool → Bool → Bool → Bool → Bool
  stay x y d t = not x && (not y && (t || not d))

  -- which pair stays, by the pairs that are nowhere
  stay_uz : (x y d t : Bool) → y ≡ false → d ≡ false → stay x y d t ≡ not x
  stay_uz x y d t e f = ap₂ (λ (y d : Bool). stay x y d t) e f ∙ go x t
    where
      go : (x t : Bool) → stay x false false t ≡ not x
      go true t = refl
      go false true = refl
      go false false = refl

  stay_vz : (x y d t : Bool) → x ≡ false → d ≡ false → stay x y d t ≡ not y
  stay_vz x y d t e f = ap₂ (λ (x d : Bool). stay x y d t) e f ∙ go y t
    where
      go : (y t : Bool) → stay false y false t ≡ not y
      go true t = refl
      go false true = refl
      go false false = refl

  stay_uv : (x y d : Bool) (t : Bool) → x ≡ false → y ≡ false → t ≡ false → stay x y d t ≡ not d
  stay_uv x y d t e f k = ap₂ (λ (x y : Bool). stay x y d t) e f ∙ ap (λ (t : Bool). t || not d) k

  stay_all : (x y d t : Bool) → x ≡ false → y ≡ false → (t ≡ true) ⊎ (d ≡ false) → stay x y d t ≡ true
  stay_all x y d t e f k = ap₂ (λ (x y : Bool). stay x y d t) e f ∙ go t d k
    where
      go : (t d : Bool) → (t ≡ true) ⊎ (d ≡ false) → t || not d ≡ true
      go t d (inl q) = ap (λ (x : Bool). x || not d) q
      go true d (inr q) = refl
      go false d (inr q) = ap not q

  module _ (m : List Pair) (o : Once m) where
    abbrev t : Bool
    t = outweighs w u v inner

    abbrev uz : Bool
    uz = held u z m

    abbrev vz : Bool
    vz = held v z m

    abbrev uv : Bool
    uv = held u v m

    -- of the three pairs at most one is held
    uz_vz : uz ≡ true → vz ≡ false
    uz_vz e = other_not m o z u z (inr refl) e v z (inr refl) (differ (inl u≢v) (inl u≢z))

    uz_uv : uz ≡ true → uv ≡ false
    uz_uv e = other_not m o u u z (inl refl) e u v (inl refl) (differ (inr z≢v) (inl u≢v))

    vz_uz : vz ≡ true → uz ≡ false
    vz_uz e = other_not m o z v z (inr refl) e u z (inr refl) (differ (inl v≢u) (inl v≢z))

    vz_uv : vz ≡ true → uv ≡ false
    vz_uv e = other_not m o v v z (inl refl) e u v (inr refl) (differ (inl v≢u) (inr z≢u))

    uv_uz : uv ≡ true → uz ≡ false
    uv_uz e = other_not m o u u v (inl refl) e u z (inl refl) (differ (inr v≢z) (inl u≢z))

    uv_vz : uv ≡ true → vz ≡ false
    uv_vz e = other_not m o v u v (inr refl) e v z (inl refl) (differ (inl u≢v) (inl u≢z))

    -- whether the direct pair outweighs the chain, by any heaviest pairings
    abbrev whole : ℕ
    whole = H w [] (walk u inner v)

    abbrev inside : ℕ
    inside = H w (u ∷ v ∷ []) (walk u inner v)

    no_more : inside ≤ whole
    no_more = omega (arith, h_mono w (walk u inner v) u (v ∷ []), h_mono w (walk u inner v) v [])

    weighs_more : Outweighs w u v inner → t ≡ true
    weighs_more x =
        lt-ltb (whole - inside) (w u v)
        (omega (
          arith,
          x (best tie w [] (walk u inner v)) (best tie w (u ∷ v ∷ []) (walk u inner v)) (row_heaviest g p.row [])
              (row_heaviest g p.row (u ∷ v ∷ [])),
          best_h tie w [] (walk u inner v),
          best_h tie w (u ∷ v ∷ []) (walk u inner v),
          no_more,
        ))

    weighs_less : (Outweighs w u v inner → ⊥) → t ≡ false
    weighs_less x =
        fails (lt_test (whole - inside) (w u v)) (λ l. x (λ a b ma mb. omega (
          arith,
          l,
          most_points g p.row [] a ma,
          most_points g p.row (u ∷ v ∷ []) b mb,
        )))

    abbrev kept : List Pair
    kept = keep (λ a b. stay (same u z a b) (same v z a b) (same u v a b) t) m

    part : (x y d t' : Bool) → uz ≡ x → vz ≡ y → uv ≡ d → t ≡ t' → offs uz vz uv t ≡ offs x y d t'
    part x y d t' e f k l =
        ap₂ (λ (x y : Bool). offs x y uv t) e f ∙ ap₂ (λ (d t : Bool). offs x y d t) k l

    chain_undone : Undone w (chain u v z inner) m (undo w (chain u v z inner) m)
    chain_undone = record {
      uz = λ e. with_best g p.row (offs uz vz uv t) (v ∷ []) kept (without u z m)
          (ap (λ (x : Bool). offs x vz uv t) e)
          (keep_same _ _ m (each_map (λ a b q. stay_uz (same u z a b) (same v z a b) (same u v a b) t q.0 q.1) m
          (each_two (Off v z) (Off u v) m (nowhere v z m (uz_vz e)) (nowhere u v m (uz_uv e)))));
      vz = λ e. with_best g p.row (offs uz vz uv t) (u ∷ []) kept (without v z m)
          (ap₂ (λ (x y : Bool). offs x y uv t) (vz_uz e) e)
          (keep_same _ _ m (each_map (λ a b q. stay_vz (same u z a b) (same v z a b) (same u v a b) t q.0 q.1) m
          (each_two (Off u z) (Off u v) m (nowhere u z m (vz_uz e)) (nowhere u v m (vz_uv e)))));
      uv_stays = λ e x. let l = weighs_more x in with_best g p.row (offs uz vz uv t) (u ∷ v ∷ []) kept m
          (part false false true true (uv_uz e) (uv_vz e) e l)
          (keep_same _ (λ a b. true) m (each_map (λ a b q.
          stay_all (same u z a b) (same v z a b) (same u v a b) t q.0 q.1 (inl l)) m
          (each_two (Off u z) (Off v z) m (nowhere u z m (uv_uz e)) (nowhere v z m (uv_vz e)))) ∙ keep_all m);
      uv_goes = λ e x. let l = weighs_less x in with_best g p.row (offs uz vz uv t) [] kept (without u v m)
          (part false false true false (uv_uz e) (uv_vz e) e l)
          (keep_same _ _ m (each_map (λ a b q.
          stay_uv (same u z a b) (same v z a b) (same u v a b) t q.0 q.1 l) m
          (each_two (Off u z) (Off v z) m (nowhere u z m (uv_uz e)) (nowhere v z m (uv_vz e)))));
      none = λ e f d. with_best g p.row (offs uz vz uv t) (u ∷ v ∷ []) kept m
          (part false false false t e f d refl)
          (keep_same _ (λ a b. true) m (each_map (λ a b q.
          stay_all (same u z a b) (same v z a b) (same u v a b) t q.0.0 q.0.1 (inr q.1)) m
          (each_two (λ a b. Off u z a b × Off v z a b) (Off u v) m
          (each_two (Off u z) (Off v z) m (nowhere u z m e) (nowhere v z m f)) (nowhere u v m d))) ∙ keep_all m);
    }

-- What the way back of a step that is allowed makes of a pairing.
pub step_undone : {n : ℕ} {w : Points} → Graph n w → (r : Rule) (c : ℕ) (s : Step) → IsStep n w r c s
    → (m : List Pair) → Once m → Undone w s m (undo w s m)
step_undone {n = n} {w = w} g by_leaf c (ring u z inner) p m o = elim p [ ]
step_undone {n = n} {w = w} g by_leaf c (chain u v z inner) p m o = elim p [ ]
step_undone {n = n} {w = w} g by_ring c (leaf u v) p m o = elim p [ ]
step_undone {n = n} {w = w} g by_ring c (chain u v z inner) p m o = elim p [ ]
step_undone {n = n} {w = w} g by_chain c (leaf u v) p m o = elim p [ ]
step_undone {n = n} {w = w} g by_chain c (ring u z inner) p m o = elim p [ ]
step_undone {w = w} g by_leaf c (leaf u v) p m o = leaf_undone w u v m
step_undone g by_ring c (ring u z inner) p m o = ring_undone g p.1 m
step_undone g by_chain c (chain u v z inner) p m o = chain_undone g p.1 m o

-- What the way back of a slip makes of a pairing of what it leaves.
pub slip_lifts : {n : ℕ} {w : Points} → Graph n w → (rs : List (Rule × ℕ)) (ss : List Step) → AreSteps n w rs ss
    → (m : List Pair) → Pairing (left w ss) m → Pairing w (lift w ss m) × Lifts w ss m (lift w ss m)
slip_lifts g [] [] a m p = (p, refl)
slip_lifts g [] (s ∷ ss) a m p = absurd a
slip_lifts g (r ∷ rs) [] a m p = absurd a
slip_lifts {w = w} g (r ∷ rs) (s ∷ ss) a m p =
    let fits = is_fits g r.0 r.1 s a.0 in
    let mid = slip_lifts {w = apply w s} (step_graph g s fits) rs ss a.1 m p in (
      (step_lifted g s fits (lift (apply w s) ss m) mid.0).0,
      (lift (apply w s) ss m, mid.1, step_undone g r.0 r.1 s a.0 (lift (apply w s) ss m) mid.0.once),
    )
