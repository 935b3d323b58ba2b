-- After a step that fits, fewer cells have pairs (`step_fewer`) and there are no more pairs (`step_no_more`). In
-- order: the pairs that putting, dropping and a leaf leave; pairs told apart by a cell; a row whose inner cells lose
-- all their pairs, for new pairs between its ends and one inner cell (ring and chain). Assumes nothing.
use mathlib.Core.Path.{◌≡◌, refl, sym, ap₂, ◌∙◌}
use mathlib.Core.Logic.{◌⊎◌, inl, inr, ◌≢◌}
use mathlib.Core.Bool.{Bool, true, false, cond}
use mathlib.Core.List.{List, [], ◌∷◌}
use Prim.Native.Nat.{ℕ, ◌+◌, ◌-◌, ◌≤◌, ◌<◌}
use native.Mathlib.Omega.{arith}
use lib.Dec.{ltb}
use lib.ListN.{length}
use borrow.Author.Tests.{lt-ltb}
use Rattle.matching.specs.Lists.{mem, distinct}
use Rattle.matching.specs.Pairs.{Pair, Points, ι, Each, touches, hit, same, like}
use Rattle.matching.specs.Listed.{short_list}
use Rattle.matching.specs.Graph.{Graph, put, dropped, cells_left}
use Rattle.matching.specs.Best.{walk}
use Rattle.matching.specs.Steps.{Step, leaf, ring, chain, leafed, ringed, chained, apply}
use Rattle.matching.specs.Shapes.{first}
use Rattle.matching.proofs.Tests.{Test, pass, fail, eq_test, lt_test}
use Rattle.matching.proofs.Members.{no_mem, mem_on, mem_head, mem_more, mem_not, mem_apart, distinct_cons}
use Rattle.matching.proofs.Pairs.{Same, Apart, same_test}
use Rattle.matching.proofs.Sums.{touches_test, hit_turned, hit_none, hit_left, hit_right, zero_like, turned_same, In}
use Rattle.matching.proofs.Sums.{in_cases, no_in}
use Rattle.matching.proofs.Fits.{Segment, Fits}
use Rattle.matching.proofs.Put.{pair_apart, dropped_held, dropped_most}
use Rattle.matching.proofs.Rows.{first_live, first_apart}
use Rattle.matching.proofs.Tally.{ι_most, Live, there, times, cells_fewer, pairs_no_more}

-- ---- what putting and dropping leave

there_put : (x y k : ℕ) (w : Points) (a b : ℕ) → there (put x y k w) a b ≤ like x y a b + there w a b
unfolding put like
there_put x y k w a b = go (same x y a b)
  where
    go : (t : Bool) → ι (ltb 0 (cond t k (w a b))) ≤ ι t + there w a b
    go true = omega (arith, ι_most (ltb 0 k))
    go false = omega arith

there_live : (w : Points) (a b : ℕ) → 0 < w a b → there w a b ≡ 1
there_live w a b h = rw (lt-ltb 0 (w a b) h)

dropped_live : (cs : List ℕ) (w : Points) (a b : ℕ) → 0 < dropped cs w a b
    → (mem a cs ≡ false) × (mem b cs ≡ false) × (0 < w a b)
dropped_live cs w a b h =
    let away = dropped_held cs w a b h in
    (away.0, away.1, omega (arith, dropped_most cs w a b))

leafed_live : (w : Points) (u v a b : ℕ) → 0 < leafed w u v a b → (a ≢ v) × (0 < w a b)
unfolding leafed
leafed_live w u v a b = go (touches_test v a b) (touches u a b)
  where
    go : {t : Bool} → Test ((a ≡ v) ⊎ (b ≡ v)) ((a ≢ v) × (b ≢ v)) t → (s : Bool)
        → 0 < cond t 0 (cond s (w a b - w u v) (w a b)) → (a ≢ v) × (0 < w a b)
    go (pass p) s h = absurd (omega arith)
    go (fail n) true h = (n.0, omega arith)
    go (fail n) false h = (n.0, h)

-- ---- pairs told apart by a cell

like_else : (e x y a b : ℕ) → hit e a b ≢ hit e x y → like x y a b ≡ 0
like_else e x y a b d = zero_like x y a b (λ s. d (turned_same (hit e) (hit_turned e) x y a b s))

like_differ : (e x y x' y' a b : ℕ) → hit e x y ≢ hit e x' y' → like x y a b + like x' y' a b ≤ 1
unfolding like
like_differ e x y x' y' a b d = go (eq_test (hit e a b) (hit e x y))
  where
    go : {t : Bool} → Test (hit e a b ≡ hit e x y) (hit e a b ≢ hit e x y) t → like x y a b + like x' y' a b ≤ 1
    go (pass q) = omega (arith, ι_most (same x y a b), like_else e x' y' a b (omega arith))
    go (fail q) = omega (arith, ι_most (same x' y' a b), like_else e x y a b q)

off_hit : (c a b : ℕ) (cs : List ℕ) → mem c cs ≡ true → mem a cs ≡ false → mem b cs ≡ false → hit c a b ≡ 0
off_hit c a b cs h i j = hit_none c a b (λ q. mem_apart c a cs h i (sym q)) (λ q. mem_apart c b cs h j (sym q))

like_there : {n : ℕ} {w : Points} → Graph n w → (x y : ℕ) → 0 < w x y → (a b : ℕ) → like x y a b ≤ there w a b
unfolding like
like_there {n} {w} g x y h a b = go (same_test x y a b)
  where
    go : {t : Bool} → Test (Same x y a b) (Apart x y a b) t → ι t ≤ there w a b
    go (pass (inl p)) =
        let e : w a b ≡ w x y = ap₂ w p.0 p.1 in
        omega (arith, there_live w a b (omega arith))
    go (pass (inr p)) =
        let e : w a b ≡ w x y = ap₂ w p.0 p.1 ∙ g.turned y x in
        omega (arith, there_live w a b (omega arith))
    go (fail n) = omega arith

-- ---- a row

-- Three pairs that the graph has and that touch inner cells.
record Lost (w : Points) (inner : List ℕ) : Type 0 where
  pairs : List Pair
  three : length pairs ≡ 3
  live : Each (λ a b. 0 < w a b) pairs
  most : (a b : ℕ) → times pairs a b ≤ there w a b
  inside : (a b : ℕ) → mem a inner ≡ false → mem b inner ≡ false → times pairs a b ≡ 0

lost_of : {n : ℕ} {w : Points} → Graph n w → {u v : ℕ} {inner : List ℕ} → Segment w u inner v → Lost w inner
lost_of {n} {w} g {u} {v} {inner} s = go inner s.live s.apart s.first_off s.last_off s.more
  where
    go : (inner : List ℕ) → Each (λ a b. 0 < w a b) (walk u inner v) → distinct inner ≡ true
        → mem u inner ≡ false → mem v inner ≡ false → 1 < length inner → Lost w inner
    go [] live d o k l = absurd (omega arith)
    go (c ∷ []) live d o k l = absurd (omega arith)
    go (c ∷ x ∷ xs) live d o k l =
        let e = first v xs in
        let cx : c ≢ x = pair_apart g c x live.1.0 in
        let ux : u ≢ x = λ q. (mem_not u x xs (mem_not u c (x ∷ xs) o).1).0 (sym q) in
        let last : 0 < w x e = first_live w x xs v live.1.1 in
        let off = (mem_not c x xs (distinct_cons c (x ∷ xs) d).0).1 in
        let ce : c ≢ e = first_apart c xs v off (inl (mem_not v c (x ∷ xs) k).0) in
        let c1 : hit c u c ≡ 1 = hit_right u c (pair_apart g u c live.0) in
        let c2 : hit c c x ≡ 1 = hit_left c x cx in
        let c3 : hit c x e ≡ 0 = hit_none c x e (λ q. cx (sym q)) (λ q. ce (sym q)) in
        let x1 : hit x u c ≡ 0 = hit_none x u c ux cx in
        let x2 : hit x c x ≡ 1 = hit_right c x cx in
        let x3 : hit x x e ≡ 1 = hit_left x e (pair_apart g x e last) in
        record {
          pairs = (u, c) ∷ (c, x) ∷ (x, e) ∷ [];
          three = refl;
          live = (live.0, (live.1.0, (last, tt)));
          most = λ a b. omega (
            arith,
            like_there g u c live.0 a b,
            like_there g c x live.1.0 a b,
            like_there g x e last a b,
            like_differ x u c c x a b (omega arith),
            like_differ c u c x e a b (omega arith),
            like_differ c c x x e a b (omega arith),
          );
          inside = λ a b i j.
              let cs = c ∷ x ∷ xs in
              let hc = off_hit c a b cs (mem_head c c (x ∷ xs) refl) i j in
              let hx = off_hit x a b cs (mem_on x c (x ∷ xs) (mem_head x x xs refl)) i j in
              omega (
                arith,
                like_else c u c a b (omega arith),
                like_else c c x a b (omega arith),
                like_else x x e a b (omega arith),
              );
        }

-- of two inner cells one is not z
other_cell : {w : Points} {u v : ℕ} {inner : List ℕ} → Segment w u inner v
    → (z : ℕ) → (c : ℕ) × (mem c inner ≡ true) × (c ≢ z)
other_cell {inner = inner} s z = go inner s.apart s.more
  where
    go : (cs : List ℕ) → distinct cs ≡ true → 1 < length cs → (c : ℕ) × (mem c cs ≡ true) × (c ≢ z)
    go [] d l = absurd (omega arith)
    go (c ∷ []) d l = absurd (omega arith)
    go (c ∷ x ∷ xs) d l = pick (eq_test c z)
      where
        apart : x ≢ c
        apart = (mem_not c x xs (distinct_cons c (x ∷ xs) d).0).0

        pick : {t : Bool} → Test (c ≡ z) (c ≢ z) t → (y : ℕ) × (mem y (c ∷ x ∷ xs) ≡ true) × (y ≢ z)
        pick (pass e) = (x, mem_on x c (x ∷ xs) (mem_head x x xs refl), λ q. apart (q ∙ sym e))
        pick (fail n) = (c, mem_head c c (x ∷ xs) refl, n)

-- the cells of a walk have pairs
pub walk_live : {n : ℕ} {w : Points} → Graph n w → (u : ℕ) (cs : List ℕ) (v : ℕ) → Each (λ a b. 0 < w a b) (walk u cs v)
    → Live w u × Live w v × ((c : ℕ) → mem c cs ≡ true → Live w c)
walk_live g u [] v p = ((v, p.0), (u, omega (arith, g.turned u v)), λ c m. no_mem c m)
walk_live {w = w} g u (x ∷ xs) v p =
    let i = walk_live g x xs v p.1 in
    ((x, p.0), i.1, mem_more (Live w) x xs i.0 i.2)

-- what both cells of each pair have
in_each : (P : ℕ → Type 0) (es : List Pair) → Each (λ x y. P x × P y) es → (a b : ℕ) → In es a b → P a
in_each P [] p a b h = no_in a b h
in_each P (e ∷ es) p a b h = go (in_cases e.0 e.1 es a b h) (in_each P es p.1 a b)
  where
    go : Same e.0 e.1 a b ⊎ In es a b → (In es a b → P a) → P a
    go (inl (inl k)) i = rw k.0 p.0.0
    go (inl (inr k)) i = rw k.0 p.0.1
    go (inr j) i = i j

-- The pairs between the ends and z.
pub new : ℕ → ℕ → ℕ → List Pair
new u v z = (u, z) ∷ (v, z) ∷ (u, v) ∷ []

-- The inner cells lose their pairs, and there are new ones only between the ends and z.
module _ {n : ℕ} {w : Points} (g : Graph n w) {u v : ℕ} {inner : List ℕ} (s : Segment w u inner v)
    (z : ℕ) (zin : mem z inner ≡ true)
    (w' : Points) (after : (a b : ℕ) → there w' a b ≤ times (new u v z) a b + there (dropped inner w) a b) where
  row_no_more : length (short_list n w') ≤ length (short_list n w)
  unfolding new
  row_no_more =
      pairs_no_more g w' lost.pairs (new u v z) (λ a b. at a b (lt_test 0 (dropped inner w a b)) (after a b))
      lost.live (omega (arith, lost.three))
    where
      lost : Lost w inner
      lost = lost_of g s

      at : (a b : ℕ) → {t : Bool} → Test (0 < dropped inner w a b) (dropped inner w a b ≤ 0) t
          → there w' a b ≤ times (new u v z) a b + ι t
          → there w' a b + times lost.pairs a b ≤ there w a b + times (new u v z) a b
      at a b (pass h) i =
          let k = dropped_live inner w a b h in
          omega (arith, there_live w a b k.2, lost.inside a b k.0 k.1)
      at a b (fail h) i = omega (arith, lost.most a b)

  -- what the ends, z and the cells outside have, all cells with pairs have
  pub after_cell : (P : ℕ → Type 0) → P u → P v → P z → ((a b : ℕ) → mem a inner ≡ false → 0 < w a b → P a)
      → (a b : ℕ) → 0 < w' a b → P a
  unfolding new
  after_cell P pu pv pz p a b h = go (lt_test 0 (dropped inner w a b)) (after a b)
    where
      go : {t : Bool} → Test (0 < dropped inner w a b) (dropped inner w a b ≤ 0) t
          → there w' a b ≤ times (new u v z) a b + ι t → P a
      go (pass k) i = let l = dropped_live inner w a b k in p a b l.0 l.2
      go (fail k) i =
          in_each P (new u v z) ((pu, pz), ((pv, pz), ((pu, pv), tt))) a b (omega (arith, there_live w' a b h))

  row_fewer : cells_left n w' < cells_left n w
  row_fewer =
      let live = walk_live g u inner v s.live in
      let c = other_cell s z in
      cells_fewer g w'
      (after_cell (Live w) live.0 live.1 (live.2 z zin) (λ a b o h. (b, h)))
      c.0 (live.2 c.0 c.1)
      (λ x h. after_cell (λ y. y ≢ c.0) (λ e. mem_apart c.0 u inner c.1 s.first_off (sym e))
      (λ e. mem_apart c.0 v inner c.1 s.last_off (sym e)) (λ e. c.2 (sym e))
      (λ a b o h e. mem_apart c.0 a inner c.1 o (sym e)) c.0 x h refl)

pub ring_after : (w : Points) (u z : ℕ) (inner : List ℕ) (a b : ℕ)
    → there (ringed w u z inner) a b ≤ times (new u u z) a b + there (dropped inner w) a b
unfolding ringed new
ring_after w u z inner a b = put_one _
  where
    put_one : (k : ℕ) → there (put u z k (dropped inner w)) a b ≤ times (new u u z) a b + there (dropped inner w) a b
    put_one k = omega (arith, there_put u z k (dropped inner w) a b)

pub chain_after : (w : Points) (u v z : ℕ) (inner : List ℕ) (a b : ℕ)
    → there (chained w u v z inner) a b ≤ times (new u v z) a b + there (dropped inner w) a b
unfolding chained new
chain_after w u v z inner a b = put_three _ _ _
  where
    put_three : (i j k : ℕ) → there (put u z i (put v z j (put u v k (dropped inner w)))) a b
        ≤ times (new u v z) a b + there (dropped inner w) a b
    put_three i j k =
        let w1 = put u v k (dropped inner w) in
        let w2 = put v z j w1 in
        omega (arith, there_put u z i w2 a b, there_put v z j w1 a b, there_put u v k (dropped inner w) a b)

-- ---- steps

module _ {n : ℕ} {w : Points} (g : Graph n w) where
  pub step_fewer : (s : Step) → Fits w s → cells_left n (apply w s) < cells_left n w
  step_fewer (leaf u v) f =
      cells_fewer g (leafed w u v) (λ a b h. (b, (leafed_live w u v a b h).1)) v
      (u, omega (arith, g.turned u v, f.pair)) (λ x h. (leafed_live w u v v x h).0 refl)
  step_fewer (ring u z inner) f = row_fewer g f.0 z f.1 (ringed w u z inner) (ring_after w u z inner)
  step_fewer (chain u v z inner) f = row_fewer g f.0 z f.1 (chained w u v z inner) (chain_after w u v z inner)

  pub step_no_more : (s : Step) → Fits w s → length (short_list n (apply w s)) ≤ length (short_list n w)
  step_no_more (leaf u v) f =
      pairs_no_more g (leafed w u v) [] [] (λ a b. at a b (lt_test 0 (leafed w u v a b))) tt (omega arith)
    where
      at : (a b : ℕ) → {t : Bool} → Test (0 < leafed w u v a b) (leafed w u v a b ≤ 0) t → ι t + 0 ≤ there w a b + 0
      at a b (pass h) = omega (arith, there_live w a b (leafed_live w u v a b h).1)
      at a b (fail h) = omega arith
  step_no_more (ring u z inner) f = row_no_more g f.0 z f.1 (ringed w u z inner) (ring_after w u z inner)
  step_no_more (chain u v z inner) f =
      row_no_more g f.0 z f.1 (chained w u v z inner) (chain_after w u v z inner)
