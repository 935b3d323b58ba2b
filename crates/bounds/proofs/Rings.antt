-- Where no ring is named after a step. In order: where each cell that a step changes has at most one pair after it, a
-- ring after the step was one before it (`Stays`, `keep_ring`); so it is of the leaf step at a cell whose partner is a
-- leaf too (`leaf_kept`), and of the ring step of a ring of cells of degree two (`ring_kept`); by what is told of a
-- step (`rings_leaf`, `rings_ring`). Assumes nothing.
use mathlib.Core.Path.{◌≡◌, refl, sym, ap, subst, ◌∙◌}
use mathlib.Core.Logic.{◌⊎◌, inl, inr, ◌≢◌, ⊎_elim}
use mathlib.Core.Bool.{Bool, true, false, cond}
use mathlib.Core.List.{List, [], ◌∷◌}
use mathlib.Core.Option.{some}
use Prim.Native.Nat.{ℕ, ◌-◌, ◌≤◌, ◌<◌}
use native.Mathlib.Omega.{arith}
use lib.ListN.{get_or}
use Rattle.matching.specs.Lists.{mem}
use Rattle.matching.specs.Pairs.{Points, Each, touches}
use Rattle.matching.specs.Best.{walk}
use Rattle.matching.specs.Graph.{Graph, degree, dropped}
use Rattle.matching.specs.Steps.{Rule, by_leaf, by_ring, Step, leaf, ring, chain, leafed, ringed, apply}
use Rattle.matching.specs.Shapes.{IsLeaf, IsRing, IsStep, first, last}
use Rattle.matching.proofs.Tests.{Test, pass, fail, is_test, eq_test, lt_test, fails}
use Rattle.matching.proofs.Members.{clash, mem_head, mem_on}
use Rattle.matching.proofs.Pairs.{Same, same_test}
use Rattle.matching.proofs.Sums.{touches_test}
use Rattle.matching.proofs.Put.{put_else, dropped_held, dropped_most}
use Rattle.matching.proofs.Partners.{partners_one, partners_few, partners_more_than_one}
use Rattle.matching.proofs.Rows.{way_out}
use Rattle.matching.proofs.Exact.{step_graph}
use Rattle.matching.proofs.Find.{is_fits}
use Rattle.cellfile.specs.Answers.{Answer}
use Rattle.slots.proofs.Degrees.{degree_same}
use Rattle.slots.proofs.Leaving.{only_pair}
use Rattle.finding.specs.Finding.{told, to_tell, RingQuiet}
use Rattle.bounds.specs.Bounds.{LowestRing, RingQuieted}
use Rattle.finding.specs.declared.Step as declared
use Rattle.finding.specs.declared.Step.TheVariants as found
use Rattle.finding.proofs.Lower.{last_live, ring_next}
use Rattle.bounds.proofs.Quiet.{leaf_else, ring_else}

-- ---- rings that stay

-- Each cell has at most one pair in w', or the points that it has in w.
abbrev Stays : Points → Points → Type 0
Stays w w' = (x : ℕ) → (degree 1024 w' x ≤ 1) ⊎ ((y : ℕ) → w' x y ≡ w x y)

module _ {w w' : Points} (g : Graph 1024 w') (kept : Stays w w') where
  at_more : (x : ℕ) → 1 < degree 1024 w' x → (y : ℕ) → w' x y ≡ w x y
  at_more x l = ⊎_elim (λ k. absurd (omega arith)) (λ k. k) (kept x)

  degree_at : (x : ℕ) → 1 < degree 1024 w' x → degree 1024 w x ≡ degree 1024 w' x
  degree_at x l = sym (degree_same 1024 w w' x (λ y k. at_more x l y))

  keep_live : (u : ℕ) (inner : List ℕ) (v : ℕ) → 1 < degree 1024 w' u
      → ((c : ℕ) → mem c inner ≡ true → degree 1024 w' c ≡ 2) → Each (λ a b. 0 < w' a b) (walk u inner v)
      → Each (λ a b. 0 < w a b) (walk u inner v)
  keep_live u [] v l two p = (omega (arith, p.0, at_more u l v), tt)
  keep_live u (c ∷ cs) v l two p =
      let here = two c (mem_head c c cs refl) in (
        omega (arith, p.0, at_more u l c),
        keep_live c cs v (omega (arith, here)) (λ x m. two x (mem_on x c cs m)) p.1,
      )

  keep_ring : {u z : ℕ} {inner : List ℕ} → IsRing 1024 w' u z inner → IsRing 1024 w u z inner
  keep_ring {u} {z} {inner} r = record {
    row = record {
      live = keep_live u inner u more r.row.two r.row.live;
      two = λ c m. degree_at c (omega (arith, r.row.two c m)) ∙ r.row.two c m;
      apart = r.row.apart;
      first_off = r.row.first_off;
      last_off = r.row.last_off;
      more = r.row.more;
    };
    low = r.low;
    at = ⊎_elim (λ d. inl (λ q. d (sym (degree_at u more) ∙ q))) inr r.at;
    towards = r.towards;
  }
    where
      more : 1 < degree 1024 w' u
      more =
          partners_more_than_one g u (first u inner) (last u inner) (λ q. (let l = r.towards in omega arith))
          (way_out g r.row) (omega (arith, last_live w' u inner u r.row.live, g.turned u (last u inner)))

  keep_step : (c : ℕ) (s : Step) → IsStep 1024 w' by_ring c s → IsStep 1024 w by_ring c s
  keep_step c (leaf u v) p = elim p [ ]
  keep_step c (chain u v z inner) p = elim p [ ]
  keep_step c (ring u z inner) p = (p.0, keep_ring p.1)

-- ---- the two steps

module _ {w : Points} (g : Graph 1024 w) where
  leaf_kept : {u v : ℕ} → IsLeaf 1024 w u v → degree 1024 w u ≡ 1 → Stays w (leafed w u v)
  unfolding leafed
  leaf_kept {u} {v} l one x = go (eq_test x v) (eq_test x u)
    where
      after : Graph 1024 (leafed w u v)
      after = step_graph g (leaf u v) (is_fits g by_leaf v (leaf u v) (refl, l))

      alone : (y : ℕ) → y ≢ v → w u y ≡ 0
      alone = only_pair g v u (partners_one g u v one (omega (arith, l.pair, g.turned u v)))

      at_v : (y : ℕ) → leafed w u v v y ≡ 0
      at_v y = at (touches_test v v y)
        where
          at : {t : Bool} → Test ((v ≡ v) ⊎ (y ≡ v)) ((v ≢ v) × (y ≢ v)) t
              → cond t 0 (cond (touches u v y) (w v y - w u v) (w v y)) ≡ 0
          at (pass k) = refl
          at (fail k) = absurd (k.0 refl)

      at_u : (y : ℕ) → y ≢ v → leafed w u v u y ≡ 0
      at_u y d = at (touches v u y) (touches u u y)
        where
          at : (s t : Bool) → cond s 0 (cond t (w u y - w u v) (w u y)) ≡ 0
          at true t = refl
          at false true = omega (arith, alone y d)
          at false false = alone y d

      go : {s t : Bool} → Test (x ≡ v) (x ≢ v) s → Test (x ≡ u) (x ≢ u) t
          → (degree 1024 (leafed w u v) x ≤ 1) ⊎ ((y : ℕ) → leafed w u v x y ≡ w x y)
      go (pass q) t = inl (rw q (partners_few after v v (λ y d. at_v y)))
      go (fail d) (pass q) = inl (rw q (partners_few after u v at_u))
      go (fail d) (fail k) = inr (leaf_else g l x k d (g.turned x u ∙ alone x d))

  ring_kept : {u z : ℕ} {inner : List ℕ} → IsRing 1024 w u z inner → degree 1024 w u ≡ 2 → Stays w (ringed w u z inner)
  unfolding ringed
  ring_kept {u} {z} {inner} r two x = go (is_test (mem x inner)) (eq_test x u)
    where
      after : Graph 1024 (ringed w u z inner)
      after = step_graph g (ring u z inner) (is_fits g by_ring z (ring u z inner) (refl, r))

      -- a pair that is not u, z
      off : (a b : ℕ) → dropped inner w a b ≡ 0 → (Same u z a b → ⊥) → ringed w u z inner a b ≡ 0
      off a b o n = put_else u z _ (dropped inner w) a b (fails (same_test u z a b) n) ∙ o

      inside : (a b : ℕ) → (mem a inner ≡ true) ⊎ (mem b inner ≡ true) → dropped inner w a b ≡ 0
      inside a b m = at (lt_test 0 (dropped inner w a b))
        where
          no : (mem a inner ≡ true) ⊎ (mem b inner ≡ true) → (mem a inner ≡ false) × (mem b inner ≡ false) → ⊥
          no (inl k) o = clash k o.0
          no (inr k) o = clash k o.1

          at : {t : Bool} → Test (0 < dropped inner w a b) (dropped inner w a b ≤ 0) t → dropped inner w a b ≡ 0
          at (pass h) = absurd (no m (dropped_held inner w a b h))
          at (fail h) = omega arith

      at_inner : mem x inner ≡ true → (y : ℕ) → y ≢ u → ringed w u z inner x y ≡ 0
      at_inner m y d = off x y (inside x y (inl m)) no
        where
          no : Same u z x y → ⊥
          no (inl q) = clash (rw q.0 at m) r.row.first_off
          no (inr q) = d q.1

      at_u : (y : ℕ) → y ≢ z → ringed w u z inner u y ≡ 0
      at_u y d = off u y (none (is_test (mem y inner))) no
        where
          no : Same u z u y → ⊥
          no (inl q) = d q.1
          no (inr q) = clash (subst (λ c. mem c inner ≡ true) (sym q.0) r.low.here) r.row.first_off

          none : {t : Bool} → Test (mem y inner ≡ true) (mem y inner ≡ false) t → dropped inner w u y ≡ 0
          none (pass m) = inside u y (inr m)
          none (fail m) = at (lt_test 0 (w u y))
            where
              at : {t : Bool} → Test (0 < w u y) (w u y ≤ 0) t → dropped inner w u y ≡ 0
              at (pass h) = absurd (clash (ring_next g r two y h) m)
              at (fail h) = omega (arith, dropped_most inner w u y)

      go : {s t : Bool} → Test (mem x inner ≡ true) (mem x inner ≡ false) s → Test (x ≡ u) (x ≢ u) t
          → (degree 1024 (ringed w u z inner) x ≤ 1) ⊎ ((y : ℕ) → ringed w u z inner x y ≡ w x y)
      go (pass m) t = inl (partners_few after x u (at_inner m))
      go (fail m) (pass q) = inl (rw q (partners_few after u z at_u))
      go (fail m) (fail k) =
          inr (ring_else g r.row x m k (λ q. clash (subst (λ c. mem c inner ≡ true) (sym q) r.low.here) m))

-- ---- what is told of a step

module _ {w : Points} {x : declared.Step} {low : ℕ} where
  pub rings_leaf : {u v : ℕ} → x ≡ found.Leaf v u → degree 1024 w u ≡ 1 → RingQuieted w x low low
  rings_leaf {u} {v} e one s t q p g f k = go s q.0 q.1 (sym (ap told e) ∙ t) p
    where
      go : (s : Step) (rule : Rule) (c : ℕ) → told (found.Leaf v u) ≡ to_tell (some s) → IsStep 1024 w rule c s
          → RingQuiet low (apply w s)
      go (leaf u' v') by_ring c t p = elim p [ ]
      go (leaf u' v') Rattle.matching.specs.Steps.by_chain c t p = elim p [ ]
      go (leaf u' v') by_leaf c t p =
          let qu : u ≡ u' = ap (λ (y : Answer). get_or y.1 1 0) t in
          let l = p.1 in
          let after = step_graph g (leaf u' v') (is_fits g by_leaf c (leaf u' v') p) in
          λ a b y z. k a b y (keep_step after (leaf_kept g l (ap (degree 1024 w) (sym qu) ∙ one)) a y z)
      go (ring u' z inner) rule c t p = absurd (omega (arith, ap (λ (y : Answer). y.0) t))
      go (chain u' v' z inner) rule c t p = absurd (omega (arith, ap (λ (y : Answer). y.0) t))

  pub rings_ring : {u z : ℕ} → x ≡ found.Ring u z → degree 1024 w u ≡ 2 → RingQuieted w x low z
  rings_ring {u} {z} e two s t q p g f k = go s q.0 q.1 (sym (ap told e) ∙ t) p f
    where
      go : (s : Step) (rule : Rule) (c : ℕ) → told (found.Ring u z) ≡ to_tell (some s) → IsStep 1024 w rule c s
          → LowestRing w s → RingQuiet z (apply w s)
      go (ring u' z' inner) by_leaf c t p f = elim p [ ]
      go (ring u' z' inner) Rattle.matching.specs.Steps.by_chain c t p f = elim p [ ]
      go (ring u' z' inner) by_ring c t p f =
          let qu : u ≡ u' = ap (λ (y : Answer). get_or y.1 0 0) t in
          let qz : z ≡ z' = ap (λ (y : Answer). get_or y.1 1 0) t in
          let after = step_graph g (ring u' z' inner) (is_fits g by_ring c (ring u' z' inner) p) in
          let same = ring_kept g p.1 (ap (degree 1024 w) (sym qu) ∙ two) in
          λ a b y h. omega (arith, f refl a y (keep_step after same a y h))
      go (leaf u' v) rule c t p f = absurd (omega (arith, ap (λ (y : Answer). y.0) t))
      go (chain u' v z' inner) rule c t p f = absurd (omega (arith, ap (λ (y : Answer). y.0) t))
