-- The step at a rule and a cell. In order: what the tests of a ring and a chain tell; a ring and a chain are
-- determined by their cell; a step is found just where the description says that one stands (`step_is`, `step_found`,
-- `step_one`, `step_none`); such a step fits (`is_fits`); the first step of all (`first_step_is`, `first_step_first`,
-- `first_step_none`).
use mathlib.Core.Path.{◌≡◌, refl, sym, ap, subst, ◌∙◌}
use mathlib.Core.Logic.{◌⊎◌, inl, inr, ◌≢◌, ◌↔◌}
use mathlib.Core.Bool.{Bool, true, false, ◌&&◌, ◌||◌, not}
use mathlib.Core.List.{List, [], ◌∷◌}
use mathlib.Core.Option.{Option, some, none}
use Prim.Native.Nat.{ℕ, ◌≤◌, ◌<◌, min}
use native.Mathlib.Omega.{arith}
use lib.Dec.{ltb}
use lib.ListN.{length}
use Rattle.matching.specs.Lists.{mem}
use Rattle.matching.specs.Pairs.{Points}
use Rattle.matching.specs.Graph.{Graph, partners, degree}
use Rattle.matching.specs.Steps.{Rule, by_leaf, by_ring, by_chain, Step, leaf, ring, chain, name}
use Rattle.matching.specs.Shapes.{IsRow, Lowest, IsLeaf, IsRing, IsChain, IsStep, first, last, NoLater}
use Rattle.matching.specs.Find.{ReadRow, row, lowest, is_lowest, two, provided, leaf_of, ring_of, chain_of, or_else}
use Rattle.matching.specs.Find.{search, step_at, first_step_of}
use Rattle.matching.proofs.Tests.{Test, pass, fail, is_test, eq_test, lt_test, not_test, and_test, map_test, fails}
use Rattle.matching.proofs.Members.{no_mem, mem_on, mem_head, mem_more, mem_one, clash}
use Rattle.matching.proofs.Fits.{Segment, Fits}
use Rattle.matching.proofs.Put.{pair_below, pair_apart}
use Rattle.matching.proofs.Partners.{has_partner, partner_of, partners_one}
use Rattle.matching.proofs.Rows.{AtEnd, row_read, row_is, is_run, way_out, inner_below, row_of, run_two}
use Rattle.matching.proofs.Rows.{run_closed, rows_meet, rows_same}
use Rattle.matching.proofs.Search.{none_some, Searched, searched, search_some, search_first, search_found}

-- ---- what the tests tell

-- A test that decides P.
abbrev Decides : Type 0 → Bool → Type 0
Decides P t = Test P (P → ⊥) t

both : {P Q : Type 0} {s t : Bool} → Decides P s → Decides Q t → Decides (P × Q) (s && t)
both (pass p) (pass q) = pass (p, q)
both (pass p) (fail m) = fail (λ h. m h.1)
both (fail n) y = fail (λ h. n h.0)

either : {P Q : Type 0} {s t : Bool} → Decides P s → Decides Q t → Decides (P ⊎ Q) (s || t)
either (pass p) y = pass (inl p)
either (fail n) (pass q) = pass (inr q)
either {P} {Q} (fail n) (fail m) = fail neither
  where
    neither : P ⊎ Q → ⊥
    neither (inl p) = n p
    neither (inr q) = m q

decides_below : (a b : ℕ) → Decides (a < b) (ltb a b)
decides_below a b = map_test (λ h. h) (λ h k. omega arith) (lt_test a b)

not_two : (n : ℕ) (w : Points) (c : ℕ) → Decides (degree n w c ≢ 2) (not (two n w c))
not_two n w c = map_test (λ d. d) (λ e d. d e) (not_test (eq_test (degree n w c) 2))

lowest_le : (z : ℕ) (cs : List ℕ) → (lowest z cs ≤ z) × ((c : ℕ) → mem c cs ≡ true → lowest z cs ≤ c)
lowest_le z [] = (omega arith, λ c m. no_mem c m)
lowest_le z (x ∷ xs) =
    let i = lowest_le (min z x) xs in
    (omega (arith, i.0), mem_more (λ c. lowest (min z x) xs ≤ c) x xs (omega (arith, i.0)) i.1)

lowest_is : (z : ℕ) (cs : List ℕ) → ((c : ℕ) → mem c cs ≡ true → z ≤ c) → z ≡ lowest z cs
lowest_is z [] h = refl
lowest_is z (x ∷ xs) h =
    let e : min z x ≡ z = omega (arith, h x (mem_head x x xs refl)) in
    rw e (lowest_is z xs (λ c m. h c (mem_on c x xs m)))

lowest_test : (z : ℕ) (cs : List ℕ) → Decides (Lowest z cs) (is_lowest z cs)
lowest_test z cs = map_test is isn't (and_test (is_test (mem z cs)) (eq_test z (lowest z cs)))
  where
    is : (mem z cs ≡ true) × (z ≡ lowest z cs) → Lowest z cs
    is h = record { here = h.0; least = λ c m. omega (arith, (lowest_le z cs).1 c m) }

    isn't : (mem z cs ≡ false) ⊎ (z ≢ lowest z cs) → Lowest z cs → ⊥
    isn't (inl k) l = clash l.here k
    isn't (inr d) l = d (lowest_is z cs l.least)

-- The step x is there just where P holds.
record Where (P : Type 0) (x : Step) (o : Option Step) : Type 0 where
  there : (s : Step) → o ≡ some s → P × (x ≡ s)
  found : P → o ≡ some x

provided_where : {P : Type 0} {t : Bool} {x : Step} → Decides P t → Where P x (provided t x)
provided_where (pass p) = record { there = λ s h. (p, cc); found = λ h. refl }
provided_where (fail n) = record { there = λ s h. none_some refl h; found = λ h. absurd (n h) }

module _ (n : ℕ) (w : Points) (z u f : ℕ) (r : ReadRow) where
  abbrev RingAt : Type 0
  RingAt =
      (0 < w u f) × ((r.1 ≡ u) × ((1 < length r.0) × (Lowest z r.0
      × (((degree n w u ≢ 2) ⊎ (u < z)) × (f < last u r.0)))))

  ring_where : Where RingAt (ring u z r.0) (ring_of n w z u f r)
  ring_where =
      provided_where (both (decides_below 0 (w u f)) (both (eq_test r.1 u) (both (decides_below 1 (length r.0))
      (both (lowest_test z r.0) (both (either (not_two n w u) (decides_below u z)) (decides_below f (last u r.0)))))))

  abbrev ChainAt : Type 0
  ChainAt =
      (0 < w u f) × ((u < r.1) × ((1 < length r.0) × (Lowest z r.0
      × ((degree n w u ≢ 2) × (degree n w r.1 ≢ 2)))))

  chain_where : Where ChainAt (chain u r.1 z r.0) (chain_of n w z u f r)
  chain_where =
      provided_where (both (decides_below 0 (w u f)) (both (decides_below u r.1)
      (both (decides_below 1 (length r.0))
      (both (lowest_test z r.0) (both (not_two n w u) (not_two n w r.1))))))

-- The ring and the chain at z that leave u at f.
abbrev ring_from : ℕ → Points → ℕ → ℕ → ℕ → Option Step
ring_from n w z u f = ring_of n w z u f (row n (partners n w) u u f)

abbrev chain_from : ℕ → Points → ℕ → ℕ → ℕ → Option Step
chain_from n w z u f = chain_of n w z u f (row n (partners n w) u u f)

-- The search over the cells u and the ways f out of them.
abbrev ways : ℕ → (ℕ → ℕ → Option Step) → Option Step
ways n at = search (λ u. search (λ f. at u f) n) n

ways_some : (n : ℕ) (at : ℕ → ℕ → Option Step) (s : Step) → ways n at ≡ some s → (u f : ℕ) × (at u f ≡ some s)
ways_some n at s h =
    let i = search_some _ n s h in
    let j = search_some _ n s i.2 in
    (i.0, j.0, j.2)

-- What the search of one rule's steps tells, and what the search of all of them tells.
abbrev Sought : ℕ → Points → Rule → Option Step → Type 0
Sought n w r none = (c : ℕ) (t : Step) → IsStep n w r c t → ⊥
Sought n w r (some s) =
    ((name s).0 ≡ r) × (step_at n w (name s).0 (name s).1 ≡ some s)
    × ((c : ℕ) (t : Step) → IsStep n w r c t → (name s).1 ≤ c)

abbrev First : ℕ → Points → Option Step → Type 0
First n w none = (r : Rule) (c : ℕ) (t : Step) → IsStep n w r c t → ⊥
First n w (some s) =
    (step_at n w (name s).0 (name s).1 ≡ some s)
    × ((r : Rule) (c : ℕ) (t : Step) → IsStep n w r c t → NoLater (name s) (r, c))

module _ {n : ℕ} {w : Points} (g : Graph n w) where
  -- ---- a ring and a chain are determined by their cell

  two_off : {u v : ℕ} {inner : List ℕ} → IsRow n w u inner v → (c : ℕ) → degree n w c ≢ 2 → mem c inner ≡ false
  two_off {inner = inner} r c d = fails (is_test (mem c inner)) (λ m. d (r.two c m))

  -- the u of a ring is not inside another ring with the same z
  ring_off : {u z u' z' : ℕ} {inner inner' : List ℕ} → IsRing n w u z inner → IsRing n w u' z' inner' → z ≡ z'
      → mem u inner' ≡ false
  ring_off {u} {z} {u'} {z'} {inner} {inner'} r r' e = go r.at
    where
      go : (degree n w u ≢ 2) ⊎ (u < z) → mem u inner' ≡ false
      go (inl d) = two_off r'.row u d
      go (inr l) = fails (is_test (mem u inner')) (λ m. (let k = r'.low.least u m in omega arith))

  ring_meet : {u z u' z' : ℕ} {inner inner' : List ℕ} → IsRing n w u z inner → IsRing n w u' z' inner' → z ≡ z'
      → AtEnd u' inner' u' (first u inner) u
  ring_meet {z = z} r r' e =
      let off = ring_off r' r (sym e) in
      rows_meet g r.row r'.row z r.low.here (rw e r'.low.here) off off (ring_off r r' e)

  ring_one : {u z u' z' : ℕ} {inner inner' : List ℕ} → IsRing n w u z inner → IsRing n w u' z' inner' → z ≡ z'
      → ring u z inner ≡ ring u' z' inner'
  ring_one {u} {z} {u'} {z'} {inner} {inner'} r r' e = go (ring_meet r r' e) (ring_meet r' r (sym e))
    where
      go : AtEnd u' inner' u' (first u inner) u → AtEnd u inner u (first u' inner') u'
          → ring u z inner ≡ ring u' z' inner'
      go (inl p) y =
          let q = rows_same g r.row (inl refl) r'.row (inl refl) (sym p.0) (sym p.1) in
          cc (p.0, q.0)
      go (inr p) (inl q) = absurd (omega (arith, r'.towards))
      go (inr p) (inr q) = absurd (omega (arith, r.towards, r'.towards))

  chain_meet : {u v z u' v' z' : ℕ} {inner inner' : List ℕ}
      → IsChain n w u v z inner → IsChain n w u' v' z' inner' → z ≡ z' → AtEnd u' inner' v' (first v inner) u
  chain_meet {u} {v} {z} {u'} {v'} r r' e =
      rows_meet g r.row r'.row z r.low.here (rw e r'.low.here)
      (two_off r.row u' r'.first_end) (two_off r.row v' r'.last_end) (two_off r'.row u r.first_end)

  chain_one : {u v z u' v' z' : ℕ} {inner inner' : List ℕ}
      → IsChain n w u v z inner → IsChain n w u' v' z' inner' → z ≡ z' → chain u v z inner ≡ chain u' v' z' inner'
  chain_one {u} {v} {z} {u'} {v'} {z'} {inner} {inner'} r r' e = go (chain_meet r r' e) (chain_meet r' r (sym e))
    where
      go : AtEnd u' inner' v' (first v inner) u → AtEnd u inner v (first v' inner') u'
          → chain u v z inner ≡ chain u' v' z' inner'
      go (inl p) y =
          let q = rows_same g r.row (inr r.last_end) r'.row (inr r'.last_end) (sym p.0) (sym p.1) in
          cc (p.0, q.0, q.1)
      go (inr p) (inl q) = absurd (omega (arith, r'.ends))
      go (inr p) (inr q) = absurd (omega (arith, r.ends, r'.ends))

  -- ---- the step at a rule and a cell

  leaf_there : (v : ℕ) (ps : List ℕ) (s : Step) → partners n w v ≡ ps → leaf_of ps v ≡ some s → IsStep n w by_leaf v s
  leaf_there v [] s e h = none_some refl h
  leaf_there v (u ∷ []) s e h =
      subst (IsStep n w by_leaf v) (let q : leaf u v ≡ s = cc in q)
      (refl, record { one = ap length e; pair = partner_of g v u (rw e (mem_head u u [] refl)) })
  leaf_there v (u ∷ c ∷ ps) s e h = none_some refl h

  ring_there : (z u f : ℕ) (s : Step) → ring_from n w z u f ≡ some s → IsStep n w by_ring z s
  ring_there z u f s h = go ((ring_where n w z u f r).there s h)
    where
      r : ReadRow
      r = row n (partners n w) u u f

      go : RingAt n w z u f r × (ring u z r.0 ≡ s) → IsStep n w by_ring z s
      go ((way, (back, (more, (low, (at, towards))))), e) =
          let i = row_read g n u u f way in
          subst (IsStep n w by_ring z) e (
            refl,
            record {
              row = rw back at (row_is g u f r i more (rw back i.off));
              low = low;
              at = at;
              towards = let q : first u r.0 ≡ f = rw back at i.starts in omega arith;
            },
          )

  chain_there : (z u f : ℕ) (s : Step) → chain_from n w z u f ≡ some s → IsStep n w by_chain z s
  chain_there z u f s h = go ((chain_where n w z u f r).there s h)
    where
      r : ReadRow
      r = row n (partners n w) u u f

      go : ChainAt n w z u f r × (chain u r.1 z r.0 ≡ s) → IsStep n w by_chain z s
      go ((way, (ends, (more, (low, (first_end, last_end))))), e) =
          let i = row_read g n u u f way in
          let inner_two = run_two g u r.0 r.1 i.run r.1 in
          subst (IsStep n w by_chain z) e (
            refl,
            record {
              row = row_is g u f r i more (fails (is_test (mem r.1 r.0)) (λ m. last_end (inner_two m)));
              low = low;
              ends = ends;
              first_end = first_end;
              last_end = last_end;
            },
          )

  -- a step that is found is one in the description's words
  pub step_is : (r : Rule) (c : ℕ) (s : Step) → step_at n w r c ≡ some s → IsStep n w r c s
  unfolding step_at
  step_is by_leaf c s h = leaf_there c (partners n w c) s refl h
  step_is by_ring c s h = let i = ways_some n (ring_from n w c) s h in ring_there c i.0 i.1 s i.2
  step_is by_chain c s h = let i = ways_some n (chain_from n w c) s h in chain_there c i.0 i.1 s i.2

  -- its rule and its cell determine it
  pub step_one : (r : Rule) (c : ℕ) (s t : Step) → IsStep n w r c s → IsStep n w r c t → s ≡ t
  step_one by_leaf c (leaf u v) (ring u' z' inner') p q = elim q [ ]
  step_one by_leaf c (leaf u v) (chain u' v' z' inner') p q = elim q [ ]
  step_one by_leaf c (ring u z inner) t p q = elim p [ ]
  step_one by_leaf c (chain u v z inner) t p q = elim p [ ]
  step_one by_ring c (leaf u v) t p q = elim p [ ]
  step_one by_ring c (ring u z inner) (leaf u' v') p q = elim q [ ]
  step_one by_ring c (ring u z inner) (chain u' v' z' inner') p q = elim q [ ]
  step_one by_ring c (chain u v z inner) t p q = elim p [ ]
  step_one by_chain c (leaf u v) t p q = elim p [ ]
  step_one by_chain c (ring u z inner) t p q = elim p [ ]
  step_one by_chain c (chain u v z inner) (leaf u' v') p q = elim q [ ]
  step_one by_chain c (chain u v z inner) (ring u' z' inner') p q = elim q [ ]
  step_one by_leaf c (leaf u v) (leaf u' v') p q =
      cc (p.0, q.0, partners_one g v u p.1.one p.1.pair, partners_one g v' u' q.1.one q.1.pair)
  step_one by_ring c (ring u z inner) (ring u' z' inner') p q = ring_one p.1 q.1 (p.0 ∙ sym q.0)
  step_one by_chain c (chain u v z inner) (chain u' v' z' inner') p q = chain_one p.1 q.1 (p.0 ∙ sym q.0)

  -- the one step there is, is found
  ways_found : (at : ℕ → ℕ → Option Step) (r : Rule) (c : ℕ) (s : Step)
      → ((u f : ℕ) (t : Step) → at u f ≡ some t → IsStep n w r c t) → IsStep n w r c s
      → (u f : ℕ) → 0 < w u f → at u f ≡ some s → ways n at ≡ some s
  ways_found at r c s is p u f way e =
      let low = pair_below g u f way in
      search_found (λ u. search (at u) n) n u s low.0
      (search_found (at u) n f s low.1 e (λ j t q. step_one r c t s (is u j t q) p))
      (λ j t q. (let k = search_some (at j) n t q in step_one r c t s (is j k.0 t k.2) p))

  -- a step in the description's words is found
  pub step_found : (r : Rule) (c : ℕ) (s : Step) → IsStep n w r c s → step_at n w r c ≡ some s
  unfolding step_at
  step_found by_leaf c (ring u z inner) p = elim p [ ]
  step_found by_leaf c (chain u v z inner) p = elim p [ ]
  step_found by_ring c (leaf u v) p = elim p [ ]
  step_found by_ring c (chain u v z inner) p = elim p [ ]
  step_found by_chain c (leaf u v) p = elim p [ ]
  step_found by_chain c (ring u z inner) p = elim p [ ]
  step_found by_leaf c (leaf u v) p = rw (← p.0, partners_one g v u p.1.one p.1.pair)
  step_found by_ring c (ring u z inner) p =
      let r = p.1 in
      let f = first u inner in
      let way = way_out g r.row in
      ways_found (ring_from n w c) by_ring c (ring u z inner) (ring_there c) p u f way
      (rw (← p.0, row_of g r.row (inl refl)) ((ring_where n w z u f (inner, u)).found
      (way, (refl, (r.row.more, (r.low, (r.at, r.towards)))))))
  step_found by_chain c (chain u v z inner) p =
      let r = p.1 in
      let f = first v inner in
      let way = way_out g r.row in
      ways_found (chain_from n w c) by_chain c (chain u v z inner) (chain_there c) p u f way
      (rw (← p.0, row_of g r.row (inr r.last_end)) ((chain_where n w z u f (inner, v)).found
      (way, (r.ends, (r.row.more, (r.low, (r.first_end, r.last_end)))))))

  -- none is found just where none stands
  pub step_none : (r : Rule) (c : ℕ) → (step_at n w r c ≡ none) ↔ ((s : Step) → IsStep n w r c s → ⊥)
  step_none r c = (λ e s p. none_some e (step_found r c s p), λ nil. go nil (step_at n w r c) refl)
    where
      go : ((s : Step) → IsStep n w r c s → ⊥) → (o : Option Step) → step_at n w r c ≡ o → o ≡ none
      go nil none e = refl
      go nil (some s) e = absurd (nil s (step_is r c s e))

  -- ---- such a step fits

  row_fits : {u v : ℕ} {inner : List ℕ} → IsRow n w u inner v → Segment w u inner v
  row_fits {u} {v} {inner} r = record {
    closed = run_closed g u inner v (is_run g r);
    live = r.live;
    apart = r.apart;
    first_off = r.first_off;
    last_off = r.last_off;
    more = r.more;
  }

  pub is_fits : (r : Rule) (c : ℕ) (s : Step) → IsStep n w r c s → Fits w s
  is_fits by_leaf c (ring u z inner) p = elim p [ ]
  is_fits by_leaf c (chain u v z inner) p = elim p [ ]
  is_fits by_ring c (leaf u v) p = elim p [ ]
  is_fits by_ring c (chain u v z inner) p = elim p [ ]
  is_fits by_chain c (leaf u v) p = elim p [ ]
  is_fits by_chain c (ring u z inner) p = elim p [ ]
  is_fits by_leaf c (leaf u v) p = record {
    apart = pair_apart g u v pair;
    pair = pair;
    alone = λ x d. (let no : 0 < w v x → ⊥ = λ h. d (sym (only x h)) in omega arith);
  }
    where
      pair : 0 < w u v
      pair = omega (arith, p.1.pair, g.turned u v)

      only : (x : ℕ) → 0 < w v x → u ≡ x
      only x h = mem_one x u (rw (partners_one g v u p.1.one p.1.pair) at (has_partner g v x h))
  is_fits by_ring c (ring u z inner) p = (row_fits p.1.row, p.1.low.here)
  is_fits by_chain c (chain u v z inner) p =
      let e = p.1.ends in
      (row_fits p.1.row, p.1.low.here, (λ q. omega arith))

  pub step_fits : (r : Rule) (c : ℕ) (s : Step) → step_at n w r c ≡ some s → Fits w s
  step_fits r c s h = is_fits r c s (step_is r c s h)

  -- ---- the first step

  pub step_name : (r : Rule) (c : ℕ) (s : Step) → IsStep n w r c s → name s ≡ (r, c)
  step_name by_leaf c (ring u z inner) p = elim p [ ]
  step_name by_leaf c (chain u v z inner) p = elim p [ ]
  step_name by_ring c (leaf u v) p = elim p [ ]
  step_name by_ring c (chain u v z inner) p = elim p [ ]
  step_name by_chain c (leaf u v) p = elim p [ ]
  step_name by_chain c (ring u z inner) p = elim p [ ]
  step_name by_leaf c (leaf u v) p = ap (λ x. (by_leaf, x)) p.0
  step_name by_ring c (ring u z inner) p = ap (λ x. (by_ring, x)) p.0
  step_name by_chain c (chain u v z inner) p = ap (λ x. (by_chain, x)) p.0

  pub step_below : (r : Rule) (c : ℕ) (s : Step) → IsStep n w r c s → c < n
  step_below by_leaf c (ring u z inner) p = elim p [ ]
  step_below by_leaf c (chain u v z inner) p = elim p [ ]
  step_below by_ring c (leaf u v) p = elim p [ ]
  step_below by_ring c (chain u v z inner) p = elim p [ ]
  step_below by_chain c (leaf u v) p = elim p [ ]
  step_below by_chain c (ring u z inner) p = elim p [ ]
  step_below by_leaf c (leaf u v) p = omega (arith, (pair_below g v u p.1.pair).0)
  step_below by_ring c (ring u z inner) p = omega (arith, inner_below g p.1.row z p.1.low.here)
  step_below by_chain c (chain u v z inner) p = omega (arith, inner_below g p.1.row z p.1.low.here)

  sought : (r : Rule) → Sought n w r (search (step_at n w r) n)
  sought r = go (search (step_at n w r) n) (searched (step_at n w r) n)
    where
      go : (o : Option Step) → Searched (step_at n w r) n o → Sought n w r o
      go none h = λ c t p. none_some (h c (step_below r c t p)) (step_found r c t p)
      go (some s) h =
          let e : name s ≡ (r, h.0) = step_name r h.0 s (step_is r h.0 s h.2) in (
            ap (λ (x : Rule × ℕ). x.0) e,
            subst (λ (x : Rule × ℕ). step_at n w x.0 x.1 ≡ some s) (sym e) h.2,
            λ c t p. (let no : c < h.0 → ⊥ = λ l. none_some (h.3 c l) (step_found r c t p) in
                omega (arith, ap (λ (x : Rule × ℕ). x.1) e)),
          )

  first_step : First n w (first_step_of n w)
  unfolding first_step_of
  first_step =
      go (search (step_at n w by_leaf) n) (search (step_at n w by_ring) n) (search (step_at n w by_chain) n)
      (sought by_leaf) (sought by_ring) (sought by_chain)
    where
      go : (o p q : Option Step) → Sought n w by_leaf o → Sought n w by_ring p → Sought n w by_chain q
          → First n w (or_else o (or_else p q))
      go (some s) p q a b d = (a.1, after)
        where
          after : (r : Rule) (c : ℕ) (t : Step) → IsStep n w r c t → NoLater (name s) (r, c)
          after by_leaf c t h = inr (a.0, a.2 c t h)
          after by_ring c t h = inl (rw a.0 (omega arith))
          after by_chain c t h = inl (rw a.0 (omega arith))
      go none (some s) q a b d = (b.1, after)
        where
          after : (r : Rule) (c : ℕ) (t : Step) → IsStep n w r c t → NoLater (name s) (r, c)
          after by_leaf c t h = absurd (a c t h)
          after by_ring c t h = inr (b.0, b.2 c t h)
          after by_chain c t h = inl (rw b.0 (omega arith))
      go none none (some s) a b d = (d.1, after)
        where
          after : (r : Rule) (c : ℕ) (t : Step) → IsStep n w r c t → NoLater (name s) (r, c)
          after by_leaf c t h = absurd (a c t h)
          after by_ring c t h = absurd (b c t h)
          after by_chain c t h = inr (d.0, d.2 c t h)
      go none none none a b d = elim [ by_leaf ↦ a | by_ring ↦ b | by_chain ↦ d ]

  pub first_step_is : (s : Step) → first_step_of n w ≡ some s → step_at n w (name s).0 (name s).1 ≡ some s
  first_step_is s h = (subst (First n w) h first_step).0

  -- it is by the first rule that has one, at the lowest cell
  pub first_step_first : (s : Step) → first_step_of n w ≡ some s
      → (r : Rule) (c : ℕ) (t : Step) → IsStep n w r c t → NoLater (name s) (r, c)
  first_step_first s h = (subst (First n w) h first_step).1

  -- a leaf, where no lower cell is one
  pub first_leaf : (u v : ℕ) → IsLeaf n w u v → ((c : ℕ) → c < v → degree n w c ≢ 1)
      → first_step_of n w ≡ some (leaf u v)
  unfolding first_step_of
  first_leaf u v l none_below =
      ap (λ (o : Option Step). or_else o (or_else (search (step_at n w by_ring) n) (search (step_at n w by_chain) n)))
      (search_first (step_at n w by_leaf) n v (leaf u v) (step_below by_leaf v (leaf u v) (refl, l))
      (step_found by_leaf v (leaf u v) (refl, l)) (λ c k. (step_none by_leaf c).1 (off c k)))
    where
      off : (c : ℕ) → c < v → (s : Step) → IsStep n w by_leaf c s → ⊥
      off c k (ring _ z inner) p = elim p [ ]
      off c k (chain _ _ z inner) p = elim p [ ]
      off c k (leaf u' v') p = none_below c k (rw (← p.0) p.1.one)

  pub first_step_none : (first_step_of n w ≡ none) ↔ ((r : Rule) (c : ℕ) (s : Step) → IsStep n w r c s → ⊥)
  first_step_none = ((λ h. subst (First n w) h first_step), λ nil. go nil (first_step_of n w) first_step)
    where
      go : ((r : Rule) (c : ℕ) (s : Step) → IsStep n w r c s → ⊥) → (o : Option Step) → First n w o → o ≡ none
      go nil none f = refl
      go nil (some s) f = absurd (nil (name s).0 (name s).1 s (step_is (name s).0 (name s).1 s f.0))
