-- A run of leaf steps at u while the graph stays as it is. In order: a graph whose pairs at u have lost p (`less_zero`,
-- `less_with`, `less_else`, `less_graph`), its degrees (`degree_kept`, `degree_gone`, `hub_two`), and the leaf step on
-- it (`less_leaf`); a run so far (`Owing`): how it starts (`owing_start`), passes a leaf of u (`owing_gone`) and takes
-- a step (`owing_take`); where no leaf is (`owing_quiet`). Assumes nothing.
use mathlib.Core.Path.{◌≡◌, refl, sym, ap, ap₂, subst, ◌∙◌, fun_ext}
use mathlib.Core.Logic.{◌⊎◌, inl, inr, ◌≢◌}
use mathlib.Core.Bool.{Bool, true, false, cond}
use mathlib.Core.List.{List, [], ◌∷◌, ◌++◌, map-append}
use mathlib.Core.Option.{Option, some, none}
use Prim.Native.Nat.{ℕ, ◌+◌, ◌-◌, ◌≤◌, ◌<◌}
use native.Mathlib.Omega.{arith}
use lib.Dec.{eqb, ltb}
use lib.ListN.{length, length-append, length-map}
use borrow.Author.Tests.{lt-ltb, le-ltb}
use Rattle.matching.specs.Pairs.{Points, touches}
use Rattle.matching.specs.Graph.{Graph, partners, degree}
use Rattle.matching.specs.Steps.{Step, leaf, leafed}
use Rattle.matching.specs.Shapes.{IsLeaf}
use Rattle.matching.specs.Find.{first_step_of}
use Rattle.matching.specs.Slip.{left, carried, reduce}
use Rattle.matching.proofs.Tests.{Test, pass, fail, eq_test, lt_test}
use Rattle.matching.proofs.Members.{mem_head}
use Rattle.matching.proofs.Sums.{touches_test, or_turn}
use Rattle.matching.proofs.Partners.{partners_like, partners_one, partners_more_than_one, partner_of}
use Rattle.matching.proofs.Put.{pair_apart}
use Rattle.matching.proofs.Find.{first_leaf}
use Rattle.matching.proofs.More.{graph_to, degree_more}
use Rattle.matching.proofs.Reduce.{reduce_append}
use Rattle.matching.proofs.Behind.{left_append, carried_append}
use Rattle.slots.specs.Slots.{less_all}
use Rattle.slots.proofs.Leaving.{only_pair}
use Rattle.finding.specs.Finding.{Quiet}
use Rattle.leaves.specs.Runs.{Slack, LeafOf, leaves_at}

-- ---- the pairs at u have lost p

pub less_zero : (u : ℕ) (w : Points) → less_all u 0 w ≡ w
unfolding less_all
less_zero u w = fun_ext (λ a. fun_ext (λ b. go (touches u a b) (w a b)))
  where
    go : (t : Bool) (x : ℕ) → cond t (x - 0) x ≡ x
    go true x = omega arith
    go false x = refl

module _ (u p : ℕ) (w : Points) where
  less_with : (x : ℕ) → less_all u p w x u ≡ w x u - p
  unfolding less_all
  less_with x = go (touches_test u x u)
    where
      go : {t : Bool} → Test ((x ≡ u) ⊎ (u ≡ u)) ((x ≢ u) × (u ≢ u)) t → cond t (w x u - p) (w x u) ≡ w x u - p
      go (pass k) = refl
      go (fail k) = absurd (k.1 refl)

  less_from : (x : ℕ) → less_all u p w u x ≡ w u x - p
  unfolding less_all
  less_from x = go (touches_test u u x)
    where
      go : {t : Bool} → Test ((u ≡ u) ⊎ (x ≡ u)) ((u ≢ u) × (x ≢ u)) t → cond t (w u x - p) (w u x) ≡ w u x - p
      go (pass k) = refl
      go (fail k) = absurd (k.0 refl)

  less_else : (x y : ℕ) → x ≢ u → y ≢ u → less_all u p w x y ≡ w x y
  unfolding less_all
  less_else x y nx ny = go (touches_test u x y)
    where
      go : {t : Bool} → Test ((x ≡ u) ⊎ (y ≡ u)) ((x ≢ u) × (y ≢ u)) t → cond t (w x y - p) (w x y) ≡ w x y
      go (pass (inl q)) = absurd (nx q)
      go (pass (inr q)) = absurd (ny q)
      go (fail k) = refl

  less_graph : {n : ℕ} → Graph n w → Graph n (less_all u p w)
  unfolding less_all
  less_graph g = record {
    turned = λ a b. ap₂ (λ t x. cond t (x - p) x) (or_turn (eqb a u) (eqb b u)) (g.turned a b);
    loop = λ a. zero (touches u a a) (g.loop a);
    top = λ a b l. zero (touches u a b) (g.top a b l);
  }
    where
      zero : (t : Bool) {x : ℕ} → x ≡ 0 → cond t (x - p) x ≡ 0
      zero true q = omega arith
      zero false q = q

-- ---- its degrees

module _ {w : Points} (g : Graph 1024 w) (u p : ℕ) where
  -- a cell whose pair with u is not gone
  degree_kept : (x : ℕ) → x ≢ u → (0 < w x u → p < w x u) → partners 1024 (less_all u p w) x ≡ partners 1024 w x
  degree_kept x nx more = partners_like 1024 w (less_all u p w) x (λ y. go y (eq_test y u))
    where
      same : (a b : ℕ) → (0 < b → 0 < a) → a ≤ b → {t : Bool} → Test (0 < b) (b ≤ 0) t → ltb 0 a ≡ ltb 0 b
      same a b h l (pass k) = lt-ltb 0 a (h k) ∙ sym (lt-ltb 0 b k)
      same a b h l (fail k) = le-ltb 0 a (omega arith) ∙ sym (le-ltb 0 b k)

      go : (y : ℕ) {t : Bool} → Test (y ≡ u) (y ≢ u) t → ltb 0 (less_all u p w x y) ≡ ltb 0 (w x y)
      go y (pass q) =
          rw q (same (less_all u p w x u) (w x u) (λ k. omega (arith, less_with u p w x, more k))
          (omega (arith, less_with u p w x)) (lt_test 0 (w x u)))
      go y (fail d) = ap (ltb 0) (less_else u p w x y nx d)

  -- a leaf of u whose pair is gone
  degree_gone : (x : ℕ) → x ≢ u → partners 1024 w x ≡ u ∷ [] → w x u ≤ p → degree 1024 (less_all u p w) x ≢ 1
  degree_gone x nx one l d = go (partners 1024 (less_all u p w) x) refl d
    where
      none_with : (y : ℕ) → {t : Bool} → Test (y ≡ u) (y ≢ u) t → less_all u p w x y ≡ 0
      none_with y (pass q) = rw q (omega (arith, less_with u p w x))
      none_with y (fail k) = less_else u p w x y nx k ∙ only_pair g u x one y k

      go : (ps : List ℕ) → partners 1024 (less_all u p w) x ≡ ps → length ps ≡ 1 → ⊥
      go [] e q = omega arith
      go (y ∷ ps) e q =
          let k = partner_of (less_graph u p w g) x y (rw e (mem_head y y ps refl)) in
          omega (arith, k, none_with y (eq_test y u))

  -- u, of which two pairs are not gone
  hub_two : (x y : ℕ) → x ≢ y → p < w u x → p < w u y → degree 1024 (less_all u p w) u ≢ 1
  hub_two x y d lx ly one =
      let lx' : 0 < less_all u p w u x = omega (arith, less_from u p w x) in
      let ly' : 0 < less_all u p w u y = omega (arith, less_from u p w y) in
      omega (arith, one, partners_more_than_one (less_graph u p w g) u x y d lx' ly')

  -- the leaf step at a leaf of u, whose pair is not gone
  less_leaf : (v : ℕ) → partners 1024 w v ≡ u ∷ [] → p < w u v → leafed (less_all u p w) u v ≡ less_all u (w u v) w
  unfolding leafed less_all
  less_leaf v one l =
      fun_ext (λ a. fun_ext (λ b.
      rw (less_from u p w v) (go a b (touches_test v a b) (touches_test u a b))))
    where
      off : (y : ℕ) → y ≢ u → w v y ≡ 0
      off = only_pair g u v one

      -- a pair of v is that with u
      most : (a b : ℕ) → (a ≡ v) ⊎ (b ≡ v) → w a b ≤ w u v
      most a b (inl q) = rw q (at b (eq_test b u))
        where
          at : (y : ℕ) {t : Bool} → Test (y ≡ u) (y ≢ u) t → w v y ≤ w u v
          at y (pass k) = rw k (omega (arith, g.turned v u))
          at y (fail k) = omega (arith, off y k)
      most a b (inr q) = rw q (at a (eq_test a u))
        where
          at : (y : ℕ) {t : Bool} → Test (y ≡ u) (y ≢ u) t → w y v ≤ w u v
          at y (pass k) = rw k (omega arith)
          at y (fail k) = omega (arith, off y k, g.turned v y)

      none_else : (a b : ℕ) → (a ≡ v) ⊎ (b ≡ v) → (a ≢ u) × (b ≢ u) → w a b ≡ 0
      none_else a b (inl q) n = rw q (off b n.1)
      none_else a b (inr q) n = rw q (g.turned a v ∙ off a n.0)

      go : (a b : ℕ) {s t : Bool} → Test ((a ≡ v) ⊎ (b ≡ v)) ((a ≢ v) × (b ≢ v)) s
          → Test ((a ≡ u) ⊎ (b ≡ u)) ((a ≢ u) × (b ≢ u)) t
          → cond s 0 (cond t (cond t (w a b - p) (w a b) - (w u v - p)) (cond t (w a b - p) (w a b)))
          ≡ cond t (w a b - w u v) (w a b)
      go a b (pass k) (pass m) = omega (arith, most a b k)
      go a b (pass k) (fail m) = sym (none_else a b k m)
      go a b (fail k) (pass m) = omega (arith, l)
      go a b (fail k) (fail m) = refl

-- ---- a run so far

-- At the cell c: the steps are those of reduce, the pairs at u are to lose p, and each leaf below c is one of u whose
-- pair is gone then.
pub record Owing (n : ℕ) (w : Points) (u bound c p : ℕ) (cells : List ℕ) : Type 0 where
  pub first : reduce (length cells) n w ≡ leaves_at u cells
  pub graph : less_all u p w ≡ left w (leaves_at u cells)
  pub carries : p ≡ carried w (leaves_at u cells)
  pub short : (p ≡ 0) ⊎ (p < bound)
  pub below : (x : ℕ) → x < c → x ≢ u → degree 1024 w x ≡ 1 → (0 < w x u) × (w x u ≤ p)

pub owing_start : {n : ℕ} {w : Points} {u bound c : ℕ} → Quiet c w → Owing n w u bound c 0 []
owing_start {n} {w} {u} q = record {
  first = refl;
  graph = less_zero u w;
  carries = refl;
  short = inl refl;
  below = λ x l nx one. absurd (q x l one);
}

module _ {n : ℕ} {w : Points} (g : Graph n w) (le : n ≤ 1024) {u bound : ℕ} (s : Slack w u bound) {c p : ℕ}
    {cells : List ℕ} (o : Owing n w u bound c p cells) where
  abbrev g' : Graph 1024 w
  g' = graph_to g 1024 le

  abbrev now : Points
  now = less_all u p w

  pub owing_quiet : (x : ℕ) → x < c → x ≢ u → degree 1024 (less_all u p w) x ≢ 1
  owing_quiet x l nx = go (eq_test (degree 1024 w x) 1)
    where
      kept : degree 1024 w x ≢ 1 → (p ≡ 0) ⊎ (p < bound) → 0 < w x u → p < w x u
      kept d (inl z) k = omega arith
      kept d (inr z) k = omega (arith, s.others x (omega (arith, g.turned x u)) d, g.turned x u)

      go : {t : Bool} → Test (degree 1024 w x ≡ 1) (degree 1024 w x ≢ 1) t → degree 1024 (less_all u p w) x ≢ 1
      go (pass one) =
          let b = o.below x l nx one in
          degree_gone g' u p x nx (partners_one g' x u one b.0) b.1
      go (fail d) = λ q. d (sym (ap length (degree_kept g' u p x nx (kept d o.short))) ∙ q)

  module _ {r : ℕ} (alone : LeafOf w u c r) where
    -- a leaf of u whose pair is gone
    pub owing_gone : r ≤ p → Owing n w u bound (c + 1) p cells
    owing_gone l = record {
      first = o.first;
      graph = o.graph;
      carries = o.carries;
      short = o.short;
      below = λ x k nx. at x k nx (eq_test x c);
    }
      where
        at : (x : ℕ) → x < c + 1 → x ≢ u → {t : Bool} → Test (x ≡ c) (x ≢ c) t → degree 1024 w x ≡ 1
            → (0 < w x u) × (w x u ≤ p)
        at x k nx (pass q) one = rw q (
          partner_of g' c u (rw alone.0 (mem_head u u [] refl)),
          omega (arith, g.turned c u, alone.1),
        )
        at x k nx (fail d) one = o.below x (omega arith) nx one

    module _ (few : r < bound) (l : p < r) where
      points : p < w c u
      points = omega (arith, alone.1, g.turned c u)

      apart : c ≢ u
      apart = pair_apart g c u (omega (arith, points))

      -- c is a leaf
      now_leaf : IsLeaf n now u c
      now_leaf = record {
        one = sym (degree_more (less_graph u p w g) 1024 le c)
            ∙ ap length (degree_kept g' u p c apart (λ k. points) ∙ alone.0);
        pair = omega (arith, less_with u p w c, points);
      }

      -- no lower cell is
      now_quiet : (x : ℕ) → x < c → degree n now x ≢ 1
      now_quiet x k one = go (eq_test x u) (degree_more (less_graph u p w g) 1024 le x ∙ one)
        where
          hub : degree 1024 now u ≢ 1
          hub =
              let y = s.stays in
              hub_two g' u p c y.0 (λ q. omega (arith, y.1, alone.1, ap (w u) q)) (omega (arith, alone.1))
              (omega (arith, y.1))

          go : {t : Bool} → Test (x ≡ u) (x ≢ u) t → degree 1024 now x ≡ 1 → ⊥
          go (pass q) d = hub (subst (λ y. degree 1024 now y ≡ 1) q d)
          go (fail nx) d = owing_quiet x k nx d

      now_first : first_step_of n (left w (leaves_at u cells)) ≡ some (leaf u c)
      now_first = rw (← o.graph) (first_leaf (less_graph u p w g) u c now_leaf now_quiet)

      pub owing_take : Owing n w u bound (c + 1) r (cells ++ c ∷ [])
      owing_take = record {
        first =
            ap (λ i. reduce i n w)
            (length-append cells (c ∷ []) ∙ ap (λ i. i + 1) (sym (length-map cells (leaf u))))
            ∙ reduce_append (leaves_at u cells) 1 n w (ap (λ i. reduce i n w) (length-map cells (leaf u)) ∙ o.first)
            ∙ ap (λ ss. leaves_at u cells ++ ss) (ap one now_first)
            ∙ sym (map-append (leaf u) cells (c ∷ []));
        graph =
            ap (λ x. less_all u x w) alone.1
            ∙ sym (less_leaf g' u p c alone.0 (omega (arith, alone.1)))
            ∙ ap (λ (x : Points). leafed x u c) o.graph
            ∙ sym (left_append w (leaves_at u cells) (leaf u c ∷ []))
            ∙ ap (left w) (sym (map-append (leaf u) cells (c ∷ [])));
        carries =
            let q = ap (λ (x : Points). x u c) o.graph in
            let k = carried_append w (leaves_at u cells) (leaf u c ∷ []) in
            omega (
              arith,
              ap (carried w) (map-append (leaf u) cells (c ∷ [])),
              k,
              q,
              less_from u p w c,
              alone.1,
              o.carries,
            );
        short = inr few;
        below = λ x k nx. at x k nx (eq_test x c);
      }
        where
          one : Option Step → List Step
          one x = elim x [ none ↦ [] | some t ↦ t ∷ [] ]

          at : (x : ℕ) → x < c + 1 → x ≢ u → {t : Bool} → Test (x ≡ c) (x ≢ c) t → degree 1024 w x ≡ 1
              → (0 < w x u) × (w x u ≤ r)
          at x k nx (pass q) d = rw q (omega (arith, points), omega (arith, alone.1, g.turned c u))
          at x k nx (fail m) d = let b = o.below x (omega arith) nx d in (b.0, omega (arith, b.1))
