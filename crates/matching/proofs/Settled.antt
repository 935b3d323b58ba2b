-- What a step does to the rings and chains that stand elsewhere. In order: degrees of two graphs; rows that stand in
-- the graph after a step and have no inner cell of degree above two before it stood before it (`Settled`, `kept_step`,
-- `kept_or_touched`); every step is such (`step_settled`). Assumes nothing.
use mathlib.Core.Path.{◌≡◌, refl, sym, ap, subst, ◌∙◌}
use mathlib.Core.Logic.{◌⊎◌, inl, inr, ◌≢◌, ⊎_elim}
use mathlib.Core.Bool.{Bool, true, false, cond}
use mathlib.Core.List.{List, [], ◌∷◌}
use Prim.Native.Nat.{ℕ, zero, suc, ◌+◌, ◌-◌, ◌≤◌, ◌<◌}
use native.Mathlib.Omega.{arith}
use lib.Dec.{ltb}
use lib.ListN.{length, length-append}
use borrow.Author.Tests.{lt-ltb, le-ltb}
use Rattle.matching.specs.Lists.{mem}
use Rattle.matching.specs.Pairs.{Points, Each, ι, touches}
use Rattle.matching.specs.Best.{walk}
use Rattle.matching.specs.Graph.{Graph, partners, degree, put, dropped}
use Rattle.matching.specs.Steps.{Rule, by_leaf, by_ring, by_chain, Step, leaf}
use Rattle.matching.specs.Steps.{ring, chain, leafed, ringed, chained}
use Rattle.matching.specs.Steps.{apply, inside}
use Rattle.matching.specs.Shapes.{IsRow, IsRing, IsChain, IsStep, first, last}
use Rattle.matching.specs.Frontier.{Proper}
use Rattle.matching.proofs.Tests.{Test, pass, fail, is_test, eq_test, lt_test, fails}
use Rattle.matching.proofs.Members.{Away, no_mem, mem_on, mem_head, mem_more, mem_apart, clash}
use Rattle.matching.proofs.Pairs.{Same, same_test}
use Rattle.matching.proofs.Put.{put_else, dropped_out, dropped_held, dropped_most}
use Rattle.matching.proofs.Partners.{Ascending, Between, between_only, partner_of, partners_ascending}
use Rattle.matching.proofs.Partners.{partners_few, partners_more_than_one}
use Rattle.matching.proofs.Rows.{AtEnd, is_run, run_outer, way_out, first_in}
use Rattle.matching.proofs.Exact.{step_graph}
use Rattle.matching.proofs.Find.{is_fits}

-- ---- degrees

degree_suc : (n : ℕ) (w : Points) (c : ℕ) → degree (suc n) w c ≡ degree n w c + ι (ltb 0 (w c n))
unfolding partners
degree_suc n w c =
    length-append (partners n w c) (cond (ltb 0 (w c n)) (n ∷ []) [])
    ∙ ap (◌+◌ (degree n w c)) (one (ltb 0 (w c n)))
  where
    one : (t : Bool) → length (cond t (n ∷ []) []) ≡ ι t
    one true = refl
    one false = refl

-- no new partners
pub degree_most : (n : ℕ) (w w' : Points) (c : ℕ) → ((x : ℕ) → 0 < w' c x → 0 < w c x) → degree n w' c ≤ degree n w c
unfolding partners
degree_most zero w w' c e = omega arith
degree_most (suc n) w w' c e =
    omega (
      arith,
      degree_suc n w c,
      degree_suc n w' c,
      go (lt_test 0 (w' c n)) (lt_test 0 (w c n)),
      degree_most n w w' c e,
    )
  where
    go : {s t : Bool} → Test (0 < w' c n) (w' c n ≤ 0) s → Test (0 < w c n) (w c n ≤ 0) t → ι s ≤ ι t
    go (pass h) (pass k) = omega arith
    go (pass h) (fail k) = absurd (omega (arith, e n h))
    go (fail h) t = omega arith

-- the same points
pub degree_kept : (n : ℕ) (w w' : Points) (c : ℕ) → ((x : ℕ) → w' c x ≡ w c x) → degree n w' c ≡ degree n w c
degree_kept n w w' c e =
    omega (
      arith,
      degree_most n w w' c (λ x h. omega (arith, e x)),
      degree_most n w' w c (λ x h. omega (arith, e x)),
    )

degree_upto : (n : ℕ) (w w' : Points) (c : ℕ) → ((x : ℕ) → x < n → w' c x ≡ w c x) → degree n w' c ≡ degree n w c
unfolding partners
degree_upto zero w w' c e = refl
degree_upto (suc n) w w' c e =
    omega (
      arith,
      degree_suc n w c,
      degree_suc n w' c,
      ap (λ (k : ℕ). ι (ltb 0 k)) (e n (omega arith)),
      degree_upto n w w' c (λ x l. e x (omega arith)),
    )

-- one partner less, the others the same
pub degree_less : (n : ℕ) (w w' : Points) (c x : ℕ) → x < n → ((y : ℕ) → y ≢ x → w' c y ≡ w c y) → 0 < w c x
    → w' c x ≡ 0 → degree n w c ≡ suc (degree n w' c)
degree_less zero w w' c x l e p z = absurd (omega arith)
degree_less (suc n) w w' c x l e p z = go (eq_test n x) (λ k. degree_less n w w' c x k e p z)
  where
    at : {k j : ℕ} → 0 < k → j ≡ 0 → (ι (ltb 0 k) ≡ 1) × (ι (ltb 0 j) ≡ 0)
    at {k} {j} h q = (ap ι (lt-ltb 0 k h), ap ι (le-ltb 0 j (omega arith)))

    same : (m : ℕ) → m ≤ x → degree m w' c ≡ degree m w c
    same m h = degree_upto m w w' c (λ y k. e y (omega arith))

    go : {t : Bool} → Test (n ≡ x) (n ≢ x) t → (x < n → degree n w c ≡ suc (degree n w' c))
        → degree (suc n) w c ≡ suc (degree (suc n) w' c)
    go (pass q) f =
        let i = at {k = w c n} {j = w' c n} (subst (λ y. 0 < w c y) (sym q) p) (ap (w' c) q ∙ z) in
        omega (arith, degree_suc n w c, degree_suc n w' c, i.0, i.1, same n (omega arith))
    go (fail k) f =
        omega (arith, degree_suc n w c, degree_suc n w' c, ap (λ (m : ℕ). ι (ltb 0 m)) (e n k), f (omega (arith, k)))

-- two cells that are all the partners
pub degree_two : {n : ℕ} {w : Points} → Graph n w → (c a b : ℕ) → ((x : ℕ) → 0 < w c x → (x ≡ a) ⊎ (x ≡ b))
    → degree n w c ≤ 2
degree_two {n} {w} g c a b only = go (partners n w c) refl
  where
    go : (ps : List ℕ) → partners n w c ≡ ps → length ps ≤ 2
    go [] e = omega arith
    go (x ∷ []) e = omega arith
    go (x ∷ y ∷ []) e = omega arith
    go (x ∷ y ∷ z ∷ ps) e =
        let up : Ascending (x ∷ y ∷ z ∷ ps) = rw e at (partners_ascending n w c) in
        let hx = mem_head x x (y ∷ z ∷ ps) refl in
        let hy = mem_on y x (y ∷ z ∷ ps) (mem_head y y (z ∷ ps) refl) in
        let hz = mem_on z x (y ∷ z ∷ ps) (mem_on z y (z ∷ ps) (mem_head z z ps refl)) in
        absurd (none (only x (partner_of g c x (rw e hx))) (only y (partner_of g c y (rw e hy)))
        (only z (partner_of g c z (rw e hz))) (up.0 y (mem_head y y (z ∷ ps) refl))
        (up.1.0 z (mem_head z z ps refl)))
      where
        none : (x ≡ a) ⊎ (x ≡ b) → (y ≡ a) ⊎ (y ≡ b) → (z ≡ a) ⊎ (z ≡ b) → x < y → y < z → ⊥
        none (inl p) (inl q) r l m = omega arith
        none (inr p) (inr q) r l m = omega arith
        none (inl p) (inr q) (inl r) l m = omega arith
        none (inl p) (inr q) (inr r) l m = omega arith
        none (inr p) (inl q) (inl r) l m = omega arith
        none (inr p) (inl q) (inr r) l m = omega arith

-- ---- rows that stay

-- A cell that has two pairs before, and after no others.
pub record Still (n : ℕ) (w w' : Points) (c : ℕ) : Type 0 where
  pub two : degree n w c ≡ 2
  pub held : (y : ℕ) → 0 < w' c y → 0 < w c y

-- What w' is to w after a step: a cell of degree two after it that had at most two pairs before is still, where it has
-- a partner that had at most two pairs before, too; a cell with more than two pairs had more than two.
pub record Settled (n : ℕ) (w w' : Points) : Type 0 where
  pub still : (c y : ℕ) → 0 < w' c y → degree n w' c ≡ 2 → degree n w c ≤ 2 → degree n w y ≤ 2 → Still n w w' c
  pub high : (a : ℕ) → 2 < degree n w' a → 2 < degree n w a

-- Each of some cells has at most two pairs; just two.
abbrev pub Low : ℕ → Points → List ℕ → Type 0
Low n w cs = (x : ℕ) → mem x cs ≡ true → degree n w x ≤ 2

abbrev Twos : ℕ → Points → List ℕ → Type 0
Twos n w cs = (x : ℕ) → mem x cs ≡ true → degree n w x ≡ 2

-- One of some cells has more than two pairs.
pub record Touched (n : ℕ) (w : Points) (xs : List ℕ) : Type 0 where
  pub cell : ℕ
  pub on : mem cell xs ≡ true
  pub high : 2 < degree n w cell

pub touched_or : (n : ℕ) (w : Points) (xs : List ℕ) → Low n w xs ⊎ Touched n w xs
touched_or n w [] = inl (λ x m. no_mem x m)
touched_or n w (c ∷ cs) = go (lt_test 2 (degree n w c)) (touched_or n w cs)
  where
    go : {t : Bool} → Test (2 < degree n w c) (degree n w c ≤ 2) t
        → Low n w cs ⊎ Touched n w cs → Low n w (c ∷ cs) ⊎ Touched n w (c ∷ cs)
    go (pass h) i = inr (record { cell = c; on = mem_head c c cs refl; high = h })
    go (fail h) (inl i) = inl (mem_more (λ x. degree n w x ≤ 2) c cs h i)
    go (fail h) (inr t) = inr (record { cell = t.cell; on = mem_on t.cell c cs t.on; high = t.high })

pub last_pair : (w : Points) (u : ℕ) (cs : List ℕ) (v : ℕ) → Each (λ a b. 0 < w a b) (walk u cs v) → 0 < w (last u cs) v
last_pair w u [] v p = p.0
last_pair w u (c ∷ cs) v p = last_pair w c cs v p.1

pub last_in : (c : ℕ) (cs : List ℕ) → mem (last c cs) (c ∷ cs) ≡ true
last_in c [] = mem_head c c [] refl
last_in c (x ∷ xs) = mem_on (last x xs) c (x ∷ xs) (last_in x xs)

pub last_inner : (u : ℕ) (cs : List ℕ) → 1 < length cs → mem (last u cs) cs ≡ true
last_inner u [] l = absurd (omega arith)
last_inner u (c ∷ cs) l = last_in c cs

-- u of a ring has two pairs or more
ring_more : {n : ℕ} {w : Points} → Graph n w → {u z : ℕ} {inner : List ℕ} → IsRing n w u z inner → 1 < degree n w u
ring_more {n} {w} g {u} {z} {inner} r =
    partners_more_than_one g u (first u inner) (last u inner) (λ q. (let l = r.towards in omega arith))
    (way_out g r.row) (omega (arith, last_pair w u inner u r.row.live, g.turned u (last u inner)))

module _ {n : ℕ} {w w' : Points} (g : Graph n w) (g' : Graph n w') (s : Settled n w w') where
  -- from a cell of the row on, each cell has the one before it
  still_on : (p : ℕ) (cs : List ℕ) (v : ℕ) → degree n w p ≤ 2 → Each (λ a b. 0 < w' a b) (walk p cs v) → Twos n w' cs
      → Low n w cs → (c : ℕ) → mem c cs ≡ true → Still n w w' c
  still_on p [] v d l t low = λ c m. no_mem c m
  still_on p (x ∷ xs) v d l t low =
      let h = mem_head x x xs refl in
      mem_more (Still n w w') x xs
      (s.still x p (omega (arith, l.0, g'.turned x p)) (t x h) (low x h) d)
      (still_on x xs v (low x h) l.1 (λ y m. t y (mem_on y x xs m)) (λ y m. low y (mem_on y x xs m)))

  stills : (u : ℕ) (cs : List ℕ) (v : ℕ) → 1 < length cs → Each (λ a b. 0 < w' a b) (walk u cs v) → Twos n w' cs
      → Low n w cs
      → (c : ℕ) → mem c cs ≡ true → Still n w w' c
  stills u [] v k l t low = absurd (omega arith)
  stills u (x ∷ []) v k l t low = absurd (omega arith)
  stills u (x ∷ y ∷ ys) v k l t low =
      let h = mem_head x x (y ∷ ys) refl in
      let j = mem_on y x (y ∷ ys) (mem_head y y ys refl) in
      mem_more (Still n w w') x (y ∷ ys)
      (s.still x y l.1.0 (t x h) (low x h) (low y j))
      (still_on x (y ∷ ys) v (low x h) l.1 (λ c m. t c (mem_on c x (y ∷ ys) m)) (λ c m. low c (mem_on c x (y ∷ ys) m)))

  held_on : (c : ℕ) (cs : List ℕ) (v : ℕ) → Still n w w' c → ((x : ℕ) → mem x cs ≡ true → Still n w w' x)
      → Each (λ a b. 0 < w' a b) (walk c cs v) → Each (λ a b. 0 < w a b) (walk c cs v)
  held_on c [] v k i l = (k.held v l.0, tt)
  held_on c (x ∷ xs) v k i l =
      (k.held x l.0, held_on x xs v (i x (mem_head x x xs refl)) (λ y m. i y (mem_on y x xs m)) l.1)

  held_row : (u : ℕ) (cs : List ℕ) (v : ℕ) → 1 < length cs → ((x : ℕ) → mem x cs ≡ true → Still n w w' x)
      → Each (λ a b. 0 < w' a b) (walk u cs v) → Each (λ a b. 0 < w a b) (walk u cs v)
  held_row u [] v k i l = absurd (omega arith)
  held_row u (x ∷ xs) v k i l =
      let h = i x (mem_head x x xs refl) in
      let back : 0 < w x u = h.held u (omega (arith, l.0, g'.turned x u)) in
      (omega (arith, back, g.turned x u), held_on x xs v h (λ y m. i y (mem_on y x xs m)) l.1)

  kept_row : {u v : ℕ} {inner : List ℕ} → IsRow n w' u inner v → Low n w inner → IsRow n w u inner v
  kept_row {u} {v} {inner} r low =
      let i = stills u inner v r.more r.live r.two low in
      record {
        live = held_row u inner v r.more i r.live;
        two = λ c m. (i c m).two;
        apart = r.apart;
        first_off = r.first_off;
        last_off = r.last_off;
        more = r.more;
      }

  kept_ring : {u z : ℕ} {inner : List ℕ} → IsRing n w' u z inner → Low n w inner → IsRing n w u z inner
  kept_ring {u} r low = record {
    row = kept_row r.row low;
    low = r.low;
    at = ⊎_elim (λ d. inl (λ q. omega (arith, s.high u (omega (arith, ring_more g' r, d))))) inr r.at;
    towards = r.towards;
  }

  kept_chain : {u v z : ℕ} {inner : List ℕ} → IsChain n w' u v z inner → 2 < degree n w' u → 2 < degree n w' v
      → Low n w inner → IsChain n w u v z inner
  kept_chain {u} {v} r hu hv low = record {
    row = kept_row r.row low;
    low = r.low;
    ends = r.ends;
    first_end = λ q. omega (arith, s.high u hu);
    last_end = λ q. omega (arith, s.high v hv);
  }

  -- a ring or a chain after the step that has no cell inside that had more than two pairs stood there before
  pub kept_step : (r : Rule) (c : ℕ) (t : Step) → r ≢ by_leaf → IsStep n w' r c t → Proper n w' t
      → Low n w (inside t) → IsStep n w r c t × Proper n w t
  kept_step by_ring c (leaf u v) d p o low = elim p [ ]
  kept_step by_ring c (chain u v z inner) d p o low = elim p [ ]
  kept_step by_chain c (leaf u v) d p o low = elim p [ ]
  kept_step by_chain c (ring u z inner) d p o low = elim p [ ]
  kept_step by_leaf c t d p o low = absurd (d refl)
  kept_step by_ring c (ring u z inner) d p o low = ((p.0, kept_ring p.1 low), tt)
  kept_step by_chain c (chain u v z inner) d p o low =
      ((p.0, kept_chain p.1 o.0 o.1 low), (s.high u o.0, s.high v o.1))

  pub kept_or_touched : (r : Rule) (c : ℕ) (t : Step) → r ≢ by_leaf → IsStep n w' r c t → Proper n w' t
      → (IsStep n w r c t × Proper n w t) ⊎ Touched n w (inside t)
  kept_or_touched r c t d p o = go (touched_or n w (inside t))
    where
      go : Low n w (inside t) ⊎ Touched n w (inside t)
          → (IsStep n w r c t × Proper n w t) ⊎ Touched n w (inside t)
      go (inl low) = inl (kept_step r c t d p o low)
      go (inr h) = inr h

-- ---- the pairs after a step

pub leafed_most : (w : Points) (u v a b : ℕ) → leafed w u v a b ≤ w a b
unfolding leafed
leafed_most w u v a b = go (touches v a b) (touches u a b)
  where
    go : (s t : Bool) → cond s 0 (cond t (w a b - w u v) (w a b)) ≤ w a b
    go true t = omega arith
    go false true = omega arith
    go false false = omega arith

put_held : (x y k : ℕ) (w : Points) (a b : ℕ) → 0 < put x y k w a b → Same x y a b ⊎ (0 < w a b)
unfolding put
put_held x y k w a b = go (same_test x y a b)
  where
    go : {N : Type 0} {t : Bool} → Test (Same x y a b) N t → 0 < cond t k (w a b) → Same x y a b ⊎ (0 < w a b)
    go (pass p) h = inl p
    go (fail o) h = inr h

put_off : (x y k : ℕ) (w : Points) (c : ℕ) → c ≢ x → c ≢ y → (z : ℕ) → put x y k w c z ≡ w c z
put_off x y k w c nx ny z = put_else x y k w c z (fails (same_test x y c z) off)
  where
    off : Same x y c z → ⊥
    off (inl q) = nx q.0
    off (inr q) = ny q.0

-- A pair that stays: away from the inner cells, and there before.
abbrev Stays : List ℕ → Points → ℕ → ℕ → Type 0
Stays inner w a b = Away inner a b × (0 < w a b)

stayed : (inner : List ℕ) (w : Points) (a b : ℕ) → 0 < dropped inner w a b → Stays inner w a b
stayed inner w a b h = (dropped_held inner w a b h, omega (arith, dropped_most inner w a b))

ring_held : (w : Points) (u z : ℕ) (inner : List ℕ) (a b : ℕ) → 0 < ringed w u z inner a b
    → Same u z a b ⊎ Stays inner w a b
unfolding ringed
ring_held w u z inner a b h = go (put_held u z _ (dropped inner w) a b h)
  where
    go : Same u z a b ⊎ (0 < dropped inner w a b) → Same u z a b ⊎ Stays inner w a b
    go (inl q) = inl q
    go (inr k) = inr (stayed inner w a b k)

chain_held : (w : Points) (u v z : ℕ) (inner : List ℕ) (a b : ℕ) → 0 < chained w u v z inner a b
    → Same u z a b ⊎ (Same v z a b ⊎ (Same u v a b ⊎ Stays inner w a b))
unfolding chained
chain_held w u v z inner a b = three _ _ _
  where
    three : (i j k : ℕ) → 0 < put u z i (put v z j (put u v k (dropped inner w))) a b
        → Same u z a b ⊎ (Same v z a b ⊎ (Same u v a b ⊎ Stays inner w a b))
    three i j k h =
        ⊎_elim inl (λ h. inr (⊎_elim inl (λ h. inr (⊎_elim inl (λ h. inr (stayed inner w a b h))
        (put_held u v k (dropped inner w) a b h)))
        (put_held v z j (put u v k (dropped inner w)) a b h)))
        (put_held u z i (put v z j (put u v k (dropped inner w))) a b h)

-- ---- every step is such

module _ {n : ℕ} {w : Points} (g : Graph n w) where
  -- the inner cells of a row have no pair with a cell outside
  row_else : {u v : ℕ} {inner : List ℕ} → IsRow n w u inner v → (c : ℕ) → mem c inner ≡ false → c ≢ u → c ≢ v
      → (x : ℕ) → dropped inner w c x ≡ w c x
  row_else {u} {v} {inner} r c off nu nv x = go (is_test (mem x inner))
    where
      ends : AtEnd u inner v x c → ⊥
      ends (inl q) = nu (sym q.0)
      ends (inr q) = nv (sym q.0)

      go : {t : Bool} → Test (mem x inner ≡ true) (mem x inner ≡ false) t → dropped inner w c x ≡ w c x
      go (pass m) =
          let no : 0 < w x c → ⊥ = λ h. ends (run_outer g u inner v (is_run g r) x c m off h) in
          omega (arith, dropped_most inner w c x, g.turned c x, no)
      go (fail m) = dropped_out inner w c x (off, m)

  -- where all cells of a ring have degree two, u has only inner cells as partners
  pub ring_next : {u z : ℕ} {inner : List ℕ} → IsRing n w u z inner → degree n w u ≡ 2 → (x : ℕ) → 0 < w u x
      → mem x inner ≡ true
  ring_next {u} {z} {inner} r two x h = go (between_only g ends x h)
    where
      ends : Between n w (first u inner) u (last u inner)
      ends = record {
        two = two;
        back = way_out g r.row;
        on = omega (arith, last_pair w u inner u r.row.live, g.turned u (last u inner));
        apart = λ e. (let l = r.towards in omega arith);
      }

      go : (first u inner ≡ x) ⊎ (last u inner ≡ x) → mem x inner ≡ true
      go (inl e) = rw (← e) (first_in g r.row)
      go (inr e) = rw (← e) (last_inner u inner r.row.more)

  -- a cell that is not the step's has the points that it had
  pub ring_same : {u z : ℕ} {inner : List ℕ} → IsRing n w u z inner → (c : ℕ) → mem c inner ≡ false → c ≢ u
      → (x : ℕ) → ringed w u z inner c x ≡ w c x
  unfolding ringed
  ring_same {u} {z} {inner} r c o d x =
      put_off u z _ (dropped inner w) c d (λ e. mem_apart z c inner r.low.here o (sym e)) x
      ∙ row_else r.row c o d d x

  pub chain_same : {u v z : ℕ} {inner : List ℕ} → IsChain n w u v z inner → (c : ℕ) → mem c inner ≡ false → c ≢ u
      → c ≢ v → (x : ℕ) → chained w u v z inner c x ≡ w c x
  unfolding chained
  chain_same {u} {v} {z} {inner} r c o nu nv x =
      let nz : c ≢ z = λ e. mem_apart z c inner r.low.here o (sym e) in
      put_off u z _ _ c nu nz x ∙ put_off v z _ _ c nv nz x ∙ put_off u v _ (dropped inner w) c nu nv x
      ∙ row_else r.row c o nu nv x

  -- of the inner cells only z has pairs, with the ends
  pub at_ring : {u z : ℕ} {inner : List ℕ} → IsRing n w u z inner → (c x : ℕ) → mem c inner ≡ true
      → 0 < ringed w u z inner c x → (c ≡ z) × (x ≡ u)
  at_ring {u} {z} {inner} r c x m h = go (ring_held w u z inner c x h)
    where
      go : Same u z c x ⊎ Stays inner w c x → (c ≡ z) × (x ≡ u)
      go (inl (inl q)) = absurd (mem_apart c u inner m r.row.first_off q.0)
      go (inl (inr q)) = q
      go (inr k) = clash m k.0.0

  pub at_chain : {u v z : ℕ} {inner : List ℕ} → IsChain n w u v z inner → (c x : ℕ) → mem c inner ≡ true
      → 0 < chained w u v z inner c x → (c ≡ z) × ((x ≡ u) ⊎ (x ≡ v))
  at_chain {u} {v} {z} {inner} r c x m h = go (chain_held w u v z inner c x h)
    where
      go : Same u z c x ⊎ (Same v z c x ⊎ (Same u v c x ⊎ Stays inner w c x)) → (c ≡ z) × ((x ≡ u) ⊎ (x ≡ v))
      go (inl (inl q)) = absurd (mem_apart c u inner m r.row.first_off q.0)
      go (inl (inr q)) = (q.0, inl q.1)
      go (inr (inl (inl q))) = absurd (mem_apart c v inner m r.row.last_off q.0)
      go (inr (inl (inr q))) = (q.0, inr q.1)
      go (inr (inr (inl (inl q)))) = absurd (mem_apart c u inner m r.row.first_off q.0)
      go (inr (inr (inl (inr q)))) = absurd (mem_apart c v inner m r.row.last_off q.0)
      go (inr (inr (inr k))) = clash m k.0.0

  -- where no pair is new
  pub fewer_settled : (w' : Points) → ((a b : ℕ) → w' a b ≤ w a b) → Settled n w w'
  fewer_settled w' most = record {
    still = λ c y h two low far. record {
      two = omega (arith, fewer c);
      held = λ x k. omega (arith, most c x);
    };
    high = λ a h. omega (arith, fewer a);
  }
    where
      fewer : (c : ℕ) → degree n w' c ≤ degree n w c
      fewer c = degree_most n w w' c (λ x h. omega (arith, most c x))

  pub leaf_settled : (u v : ℕ) → Settled n w (leafed w u v)
  leaf_settled u v = fewer_settled (leafed w u v) (leafed_most w u v)

  pub ring_settled : {u z : ℕ} {inner : List ℕ} → IsRing n w u z inner → Settled n w (ringed w u z inner)
  ring_settled {u} {z} {inner} r = record {
    still = λ c y h two low far. at_still c two low (is_test (mem c inner)) (eq_test c u);
    high = λ a h. at_high a h (is_test (mem a inner)) (eq_test a u);
  }
    where
      after : Graph n (ringed w u z inner)
      after = step_graph g (ring u z inner) (is_fits g by_ring z (ring u z inner) (refl, r))

      -- an inner cell has no partner but u
      at_inner : (c : ℕ) → mem c inner ≡ true → degree n (ringed w u z inner) c ≤ 1
      at_inner c m = partners_few after c u (λ x d. none x d (lt_test 0 (ringed w u z inner c x)))
        where
          none : (x : ℕ) → x ≢ u → {t : Bool} → Test (0 < ringed w u z inner c x) (ringed w u z inner c x ≤ 0) t
              → ringed w u z inner c x ≡ 0
          none x d (pass h) = absurd (d (at_ring r c x m h).1)
          none x d (fail h) = omega arith

      -- where all cells of the ring have degree two, u has no partner but z
      at_alone : degree n w u ≡ 2 → degree n (ringed w u z inner) u ≤ 1
      at_alone two = partners_few after u z (λ x d. none x d (lt_test 0 (ringed w u z inner u x)))
        where
          no : (x : ℕ) → x ≢ z → Same u z u x ⊎ Stays inner w u x → ⊥
          no x d (inl (inl q)) = d q.1
          no x d (inl (inr q)) = mem_apart z u inner r.low.here r.row.first_off (sym q.0)
          no x d (inr k) = clash (ring_next r two x k.1) k.0.1

          none : (x : ℕ) → x ≢ z → {t : Bool} → Test (0 < ringed w u z inner u x) (ringed w u z inner u x ≤ 0) t
              → ringed w u z inner u x ≡ 0
          none x d (pass h) = absurd (no x d (ring_held w u z inner u x h))
          none x d (fail h) = omega arith

      -- u has two pairs left only where it had more
      at_u : 1 < degree n (ringed w u z inner) u → 2 < degree n w u
      at_u h = let no : degree n w u ≡ 2 → ⊥ = λ e. omega (arith, at_alone e) in omega (arith, ring_more g r, no)

      else_same : (c : ℕ) → mem c inner ≡ false → c ≢ u → (x : ℕ) → ringed w u z inner c x ≡ w c x
      else_same = ring_same r

      at_still : (c : ℕ) → degree n (ringed w u z inner) c ≡ 2 → degree n w c ≤ 2
          → {s t : Bool} → Test (mem c inner ≡ true) (mem c inner ≡ false) s → Test (c ≡ u) (c ≢ u) t
          → Still n w (ringed w u z inner) c
      at_still c two low (pass m) t = absurd (omega (arith, at_inner c m))
      at_still c two low (fail o) (pass e) =
          absurd (omega (arith, at_u (omega (arith, ap (degree n (ringed w u z inner)) e)), ap (degree n w) e))
      at_still c two low (fail o) (fail d) = record {
        two = sym (degree_kept n w (ringed w u z inner) c (else_same c o d)) ∙ two;
        held = λ x h. omega (arith, else_same c o d x);
      }

      at_high : (a : ℕ) → 2 < degree n (ringed w u z inner) a
          → {s t : Bool} → Test (mem a inner ≡ true) (mem a inner ≡ false) s → Test (a ≡ u) (a ≢ u) t
          → 2 < degree n w a
      at_high a h (pass m) t = absurd (omega (arith, at_inner a m))
      at_high a h (fail o) (pass e) =
          let k = at_u (omega (arith, ap (degree n (ringed w u z inner)) e)) in omega (arith, ap (degree n w) e)
      at_high a h (fail o) (fail d) = omega (arith, degree_kept n w (ringed w u z inner) a (else_same a o d))

  pub chain_settled : {u v z : ℕ} {inner : List ℕ} → IsChain n w u v z inner → 2 < degree n w u → 2 < degree n w v
      → Settled n w (chained w u v z inner)
  chain_settled {u} {v} {z} {inner} r hu hv = record {
    still = λ c y h two low far. at_still c y h two low far (is_test (mem c inner)) (eq_test c u) (eq_test c v);
    high = λ a h. at_high a h (is_test (mem a inner)) (eq_test a u) (eq_test a v);
  }
    where
      after : Graph n (chained w u v z inner)
      after = step_graph g (chain u v z inner) (is_fits g by_chain z (chain u v z inner) (refl, r))

      else_same : (c : ℕ) → mem c inner ≡ false → c ≢ u → c ≢ v → (x : ℕ) → chained w u v z inner c x ≡ w c x
      else_same = chain_same r

      at_still : (c y : ℕ) → 0 < chained w u v z inner c y → degree n (chained w u v z inner) c ≡ 2
          → degree n w c ≤ 2 → degree n w y ≤ 2
          → {s t q : Bool} → Test (mem c inner ≡ true) (mem c inner ≡ false) s → Test (c ≡ u) (c ≢ u) t
          → Test (c ≡ v) (c ≢ v) q → Still n w (chained w u v z inner) c
      at_still c y h two low far (pass m) t q = absurd (no (at_chain r c y m h).1)
        where
          no : (y ≡ u) ⊎ (y ≡ v) → ⊥
          no (inl e) = omega (arith, ap (degree n w) e)
          no (inr e) = omega (arith, ap (degree n w) e)
      at_still c y h two low far (fail o) (pass e) q = absurd (omega (arith, ap (degree n w) e))
      at_still c y h two low far (fail o) (fail nu) (pass e) = absurd (omega (arith, ap (degree n w) e))
      at_still c y h two low far (fail o) (fail nu) (fail nv) = record {
        two = sym (degree_kept n w (chained w u v z inner) c (else_same c o nu nv)) ∙ two;
        held = λ x k. omega (arith, else_same c o nu nv x);
      }

      at_high : (a : ℕ) → 2 < degree n (chained w u v z inner) a
          → {s t q : Bool} → Test (mem a inner ≡ true) (mem a inner ≡ false) s → Test (a ≡ u) (a ≢ u) t
          → Test (a ≡ v) (a ≢ v) q → 2 < degree n w a
      at_high a h (pass m) t q = absurd (omega (arith, degree_two after a u v (λ x k. (at_chain r a x m k).1)))
      at_high a h (fail o) (pass e) q = omega (arith, ap (degree n w) e)
      at_high a h (fail o) (fail nu) (pass e) = omega (arith, ap (degree n w) e)
      at_high a h (fail o) (fail nu) (fail nv) =
          omega (arith, degree_kept n w (chained w u v z inner) a (else_same a o nu nv))

  pub step_settled : (r : Rule) (c : ℕ) (s : Step) → IsStep n w r c s → Proper n w s → Settled n w (apply w s)
  step_settled by_leaf c (ring u z inner) p o = elim p [ ]
  step_settled by_leaf c (chain u v z inner) p o = elim p [ ]
  step_settled by_ring c (leaf u v) p o = elim p [ ]
  step_settled by_ring c (chain u v z inner) p o = elim p [ ]
  step_settled by_chain c (leaf u v) p o = elim p [ ]
  step_settled by_chain c (ring u z inner) p o = elim p [ ]
  step_settled by_leaf c (leaf u v) p o = leaf_settled u v
  step_settled by_ring c (ring u z inner) p o = ring_settled p.1
  step_settled by_chain c (chain u v z inner) p o = chain_settled p.1 o.0 o.1
