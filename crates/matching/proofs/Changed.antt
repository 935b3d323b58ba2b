-- Where a step can bring something new. In order: the cells whose degree a step changes (`changed_or_same`), so those
-- that become leaves (`new_leaf`) and rows (`new_row`); a step is not named again by its cell (`not_again`); the first
-- step is the one that no other comes before (`first_is`). Assumes nothing.
use mathlib.Core.Path.{◌≡◌, refl, sym, ap, subst, ◌∙◌}
use mathlib.Core.Logic.{◌⊎◌, inl, inr, ◌≢◌}
use mathlib.Core.Bool.{Bool, true, false, cond}
use mathlib.Core.List.{List, [], ◌∷◌}
use mathlib.Core.Option.{Option, some, none}
use Prim.Native.Nat.{ℕ, suc, ◌-◌, ◌≤◌, ◌<◌}
use native.Mathlib.Omega.{arith}
use lib.ListN.{length}
use Rattle.matching.specs.Lists.{mem, distinct}
use Rattle.matching.specs.Pairs.{Points, touches}
use Rattle.matching.specs.Graph.{Graph, partners, degree}
use Rattle.matching.specs.Steps.{Rule, by_leaf, by_ring, by_chain, Step, leaf}
use Rattle.matching.specs.Steps.{ring, chain, leafed, ringed, chained}
use Rattle.matching.specs.Steps.{apply, inside, name}
use Rattle.matching.specs.Shapes.{IsLeaf, IsStep, first, last, rank, NoLater}
use Rattle.matching.specs.Frontier.{Proper, Loses, Left}
use Rattle.matching.specs.Find.{first_step_of}
use Rattle.matching.proofs.Tests.{Test, pass, fail, is_test, eq_test, lt_test}
use Rattle.matching.proofs.Members.{no_mem, mem_on, mem_head, clash, distinct_cons}
use Rattle.matching.proofs.Sums.{touches_test}
use Rattle.matching.proofs.Put.{pair_below, pair_apart}
use Rattle.matching.proofs.Partners.{has_partner, partner_of}
use Rattle.matching.proofs.Rows.{way_out}
use Rattle.matching.proofs.Exact.{step_graph}
use Rattle.matching.proofs.Find.{is_fits, step_is, step_one, first_step_is}
use Rattle.matching.proofs.Find.{first_step_first, first_step_none}
use Rattle.matching.proofs.Settled.{degree_most, degree_less, degree_kept, Touched, leafed_most}
use Rattle.matching.proofs.Settled.{at_ring, at_chain, ring_same, chain_same, step_settled}
use Rattle.matching.proofs.Settled.{kept_or_touched, last_pair}

-- ---- chains where there is no leaf

module _ {n : ℕ} {w : Points} (g : Graph n w) where
  -- a cell with a pair has a degree
  degree_some : (c x : ℕ) → 0 < w c x → 0 < degree n w c
  degree_some c x h = go (partners n w c) (has_partner g c x h)
    where
      go : (ps : List ℕ) → mem x ps ≡ true → 0 < length ps
      go [] m = no_mem x m
      go (y ∷ ys) m = omega arith

  -- where there is no leaf every chain has ends of more than two pairs
  pub proper_quiet : ((x : ℕ) → degree n w x ≢ 1) → (r : Rule) (c : ℕ) (s : Step) → IsStep n w r c s → Proper n w s
  proper_quiet q by_leaf c (ring u z inner) p = elim p [ ]
  proper_quiet q by_leaf c (chain u v z inner) p = elim p [ ]
  proper_quiet q by_ring c (leaf u v) p = elim p [ ]
  proper_quiet q by_ring c (chain u v z inner) p = elim p [ ]
  proper_quiet q by_chain c (leaf u v) p = elim p [ ]
  proper_quiet q by_chain c (ring u z inner) p = elim p [ ]
  proper_quiet q by_leaf c (leaf u v) p = tt
  proper_quiet q by_ring c (ring u z inner) p = tt
  proper_quiet q by_chain c (chain u v z inner) p =
      let r = p.1 in
      let a = degree_some u (first v inner) (way_out g r.row) in
      let l : 0 < w v (last u inner) = omega (arith, last_pair w u inner v r.row.live, g.turned v (last u inner)) in
      let b = degree_some v (last u inner) l in (
        omega (arith, r.first_end, q u),
        omega (arith, r.last_end, q v),
      )

-- ---- which degrees change

-- A cell that goes in the step.
abbrev pub Goes : Step → ℕ → Type 0
Goes (leaf u v) x = x ≡ v
Goes (ring u z inner) x = mem x inner ≡ true
Goes (chain u v z inner) x = mem x inner ≡ true

module _ {n : ℕ} {w : Points} (g : Graph n w) where
  leaf_kept : {u v : ℕ} → IsLeaf n w u v → (x : ℕ) → x ≢ u → x ≢ v → (0 < w x u → w u v < w x u)
      → degree n (leafed w u v) x ≡ degree n w x
  unfolding leafed
  leaf_kept {u} {v} l x nu nv keeps =
      omega (
        arith,
        degree_most n w (leafed w u v) x (λ y h. omega (arith, leafed_most w u v x y)),
        degree_most n (leafed w u v) w x (λ y h. at y h (touches_test v x y) (touches_test u x y)),
      )
    where
      off : w x v ≡ 0
      off = g.turned x v ∙ (is_fits g by_leaf v (leaf u v) (refl, l)).alone x nu

      at : (y : ℕ) → 0 < w x y → {s t : Bool} → Test ((x ≡ v) ⊎ (y ≡ v)) ((x ≢ v) × (y ≢ v)) s
          → Test ((x ≡ u) ⊎ (y ≡ u)) ((x ≢ u) × (y ≢ u)) t → 0 < cond s 0 (cond t (w x y - w u v) (w x y))
      at y h (pass (inl q)) b = absurd (nv q)
      at y h (pass (inr q)) b = absurd (omega (arith, ap (w x) q, off))
      at y h (fail d) (pass (inl q)) = absurd (nu q)
      at y h (fail d) (pass (inr q)) =
          let e = ap (w x) q in
          let k = keeps (omega arith) in
          omega arith
      at y h (fail d) (fail k) = h

  -- a cell that loses its pair with u in a leaf step has one pair less
  pub leaf_less : {u v : ℕ} → IsLeaf n w u v → (x : ℕ) → x ≢ v → 0 < w x u → w x u ≤ w u v
      → degree n w x ≡ suc (degree n (leafed w u v) x)
  unfolding leafed
  leaf_less {u} {v} l x nv p low =
      degree_less n w (leafed w u v) x u (pair_below g x u p).1
      (λ y d. at y d (touches_test v x y) (touches_test u x y)) p
      (gone (touches_test v x u) (touches_test u x u))
    where
      nu : x ≢ u
      nu = pair_apart g x u p

      off : w x v ≡ 0
      off = g.turned x v ∙ (is_fits g by_leaf v (leaf u v) (refl, l)).alone x nu

      at : (y : ℕ) → y ≢ u → {s t : Bool} → Test ((x ≡ v) ⊎ (y ≡ v)) ((x ≢ v) × (y ≢ v)) s
          → Test ((x ≡ u) ⊎ (y ≡ u)) ((x ≢ u) × (y ≢ u)) t → cond s 0 (cond t (w x y - w u v) (w x y)) ≡ w x y
      at y d (pass (inl q)) b = absurd (nv q)
      at y d (pass (inr q)) b = sym (ap (w x) q ∙ off)
      at y d (fail k) (pass (inl q)) = absurd (nu q)
      at y d (fail k) (pass (inr q)) = absurd (d q)
      at y d (fail k) (fail j) = refl

      gone : {s t : Bool} → Test ((x ≡ v) ⊎ (u ≡ v)) ((x ≢ v) × (u ≢ v)) s
          → Test ((x ≡ u) ⊎ (u ≡ u)) ((x ≢ u) × (u ≢ u)) t → cond s 0 (cond t (w x u - w u v) (w x u)) ≡ 0
      gone (pass q) b = refl
      gone (fail k) (pass q) = omega arith
      gone (fail k) (fail j) = absurd (j.1 refl)

  -- the leaf has no pair left
  pub leaf_gone : {u v : ℕ} → IsLeaf n w u v → degree n (leafed w u v) v ≡ 0
  unfolding leafed
  leaf_gone {u} {v} l = none (partners n (leafed w u v) v) refl
    where
      after : Graph n (leafed w u v)
      after = step_graph g (leaf u v) (is_fits g by_leaf v (leaf u v) (refl, l))

      at : (y : ℕ) → {s : Bool} → Test ((v ≡ v) ⊎ (y ≡ v)) ((v ≢ v) × (y ≢ v)) s
          → cond s 0 (cond (touches u v y) (w v y - w u v) (w v y)) ≡ 0
      at y (pass q) = refl
      at y (fail d) = absurd (d.0 refl)

      none : (ps : List ℕ) → partners n (leafed w u v) v ≡ ps → length ps ≡ 0
      none [] e = refl
      none (y ∷ ys) e =
          absurd (omega (arith, at y (touches_test v v y), partner_of after v y (rw e (mem_head y y ys refl))))

  -- a step changes the degrees of no other cells
  pub changed_or_same : (r : Rule) (c : ℕ) (s : Step) → IsStep n w r c s → (x : ℕ)
      → (degree n (apply w s) x ≡ degree n w x) ⊎ (Loses w s x ⊎ Goes s x)
  changed_or_same by_leaf c (ring u z inner) p x = elim p [ ]
  changed_or_same by_leaf c (chain u v z inner) p x = elim p [ ]
  changed_or_same by_ring c (leaf u v) p x = elim p [ ]
  changed_or_same by_ring c (chain u v z inner) p x = elim p [ ]
  changed_or_same by_chain c (leaf u v) p x = elim p [ ]
  changed_or_same by_chain c (ring u z inner) p x = elim p [ ]
  changed_or_same by_leaf c (leaf u v) p x = go (eq_test x u) (eq_test x v) (lt_test 0 (w x u))
      (lt_test (w u v) (w x u))
    where
      go : {a b d e : Bool} → Test (x ≡ u) (x ≢ u) a → Test (x ≡ v) (x ≢ v) b → Test (0 < w x u) (w x u ≤ 0) d
          → Test (w u v < w x u) (w x u ≤ w u v) e
          → (degree n (leafed w u v) x ≡ degree n w x) ⊎ (Loses w (leaf u v) x ⊎ Goes (leaf u v) x)
      go (pass q) b d e = inr (inl (inl q))
      go (fail nu) (pass q) d e = inr (inr q)
      go (fail nu) (fail nv) (pass h) (fail k) = inr (inl (inr (h, k)))
      go (fail nu) (fail nv) (pass h) (pass k) = inl (leaf_kept p.1 x nu nv (λ i. k))
      go (fail nu) (fail nv) (fail h) e = inl (leaf_kept p.1 x nu nv (λ i. absurd (omega arith)))
  changed_or_same by_ring c (ring u z inner) p x = go (is_test (mem x inner)) (eq_test x u)
    where
      go : {a b : Bool} → Test (mem x inner ≡ true) (mem x inner ≡ false) a → Test (x ≡ u) (x ≢ u) b
          → (degree n (ringed w u z inner) x ≡ degree n w x) ⊎ ((x ≡ u) ⊎ (mem x inner ≡ true))
      go (pass m) b = inr (inr m)
      go (fail o) (pass q) = inr (inl q)
      go (fail o) (fail d) = inl (degree_kept n w (ringed w u z inner) x (ring_same g p.1 x o d))
  changed_or_same by_chain c (chain u v z inner) p x = go (is_test (mem x inner)) (eq_test x u) (eq_test x v)
    where
      go : {a b d : Bool} → Test (mem x inner ≡ true) (mem x inner ≡ false) a → Test (x ≡ u) (x ≢ u) b
          → Test (x ≡ v) (x ≢ v) d
          → (degree n (chained w u v z inner) x ≡ degree n w x) ⊎ (((x ≡ u) ⊎ (x ≡ v)) ⊎ (mem x inner ≡ true))
      go (pass m) b d = inr (inr m)
      go (fail o) (pass q) d = inr (inl (inl q))
      go (fail o) (fail nu) (pass q) = inr (inl (inr q))
      go (fail o) (fail nu) (fail nv) =
          inl (degree_kept n w (chained w u v z inner) x (chain_same g p.1 x o nu nv))

  -- a cell that goes and has a pair is the one that is left
  goes_left : (r : Rule) (c : ℕ) (s : Step) → IsStep n w r c s → (x : ℕ) → Goes s x → 0 < degree n (apply w s) x
      → Left s x
  goes_left by_leaf c (ring u z inner) p x q h = elim p [ ]
  goes_left by_leaf c (chain u v z inner) p x q h = elim p [ ]
  goes_left by_ring c (leaf u v) p x m h = elim p [ ]
  goes_left by_ring c (chain u v z inner) p x m h = elim p [ ]
  goes_left by_chain c (leaf u v) p x m h = elim p [ ]
  goes_left by_chain c (ring u z inner) p x m h = elim p [ ]
  goes_left by_leaf c (leaf u v) p x q h = absurd (omega (arith, ap (degree n (leafed w u v)) q, leaf_gone p.1))
  goes_left by_ring c (ring u z inner) p x m h = go (partners n (ringed w u z inner) x) refl
    where
      after : Graph n (ringed w u z inner)
      after = step_graph g (ring u z inner) (is_fits g by_ring c (ring u z inner) p)

      go : (ps : List ℕ) → partners n (ringed w u z inner) x ≡ ps → x ≡ z
      go [] e = absurd (omega (arith, ap length e))
      go (y ∷ ys) e = (at_ring g p.1 x y m (partner_of after x y (rw e (mem_head y y ys refl)))).0
  goes_left by_chain c (chain u v z inner) p x m h = go (partners n (chained w u v z inner) x) refl
    where
      after : Graph n (chained w u v z inner)
      after = step_graph g (chain u v z inner) (is_fits g by_chain c (chain u v z inner) p)

      go : (ps : List ℕ) → partners n (chained w u v z inner) x ≡ ps → x ≡ z
      go [] e = absurd (omega (arith, ap length e))
      go (y ∷ ys) e = (at_chain g p.1 x y m (partner_of after x y (rw e (mem_head y y ys refl)))).0

  -- ---- new leaves, and cells that come to have two pairs

  goes_one : (r : Rule) (c : ℕ) (s : Step) → IsStep n w r c s → (x : ℕ) → degree n (apply w s) x ≡ 1
      → degree n w x ≡ 1 → Goes s x → ⊥
  goes_one by_leaf c (ring u z inner) p x after one q = elim p [ ]
  goes_one by_leaf c (chain u v z inner) p x after one q = elim p [ ]
  goes_one by_ring c (leaf u v) p x after one m = elim p [ ]
  goes_one by_ring c (chain u v z inner) p x after one m = elim p [ ]
  goes_one by_chain c (leaf u v) p x after one m = elim p [ ]
  goes_one by_chain c (ring u z inner) p x after one m = elim p [ ]
  goes_one by_leaf c (leaf u v) p x after one q = omega (arith, ap (degree n (leafed w u v)) q, leaf_gone p.1)
  goes_one by_ring c (ring u z inner) p x after one m = omega (arith, p.1.row.two x m)
  goes_one by_chain c (chain u v z inner) p x after one m = omega (arith, p.1.row.two x m)

  -- a leaf after a step was another leaf before, or lost pairs, or is what is left of the row
  pub new_leaf : (r : Rule) (c : ℕ) (s : Step) → IsStep n w r c s → (x : ℕ) → degree n (apply w s) x ≡ 1
      → ((degree n w x ≡ 1) × (Goes s x → ⊥)) ⊎ (Loses w s x ⊎ Left s x)
  new_leaf r c s p x one = go (changed_or_same r c s p x)
    where
      go : (degree n (apply w s) x ≡ degree n w x) ⊎ (Loses w s x ⊎ Goes s x)
          → ((degree n w x ≡ 1) × (Goes s x → ⊥)) ⊎ (Loses w s x ⊎ Left s x)
      go (inl e) = inl (sym e ∙ one, goes_one r c s p x one (sym e ∙ one))
      go (inr (inl k)) = inr (inl k)
      go (inr (inr k)) = inr (inr (goes_left r c s p x k (omega arith)))

  goes_few : (r : Rule) (c : ℕ) (s : Step) → IsStep n w r c s → (x : ℕ) → Goes s x → degree n w x ≤ 2
  goes_few by_leaf c (ring u z inner) p x q = elim p [ ]
  goes_few by_leaf c (chain u v z inner) p x q = elim p [ ]
  goes_few by_ring c (leaf u v) p x m = elim p [ ]
  goes_few by_ring c (chain u v z inner) p x m = elim p [ ]
  goes_few by_chain c (leaf u v) p x m = elim p [ ]
  goes_few by_chain c (ring u z inner) p x m = elim p [ ]
  goes_few by_leaf c (leaf u v) p x q = omega (arith, ap (degree n w) q, p.1.one)
  goes_few by_ring c (ring u z inner) p x m = omega (arith, p.1.row.two x m)
  goes_few by_chain c (chain u v z inner) p x m = omega (arith, p.1.row.two x m)

  -- a cell that had more than two pairs and has two lost some
  pub new_two : (r : Rule) (c : ℕ) (s : Step) → IsStep n w r c s → (x : ℕ) → degree n (apply w s) x ≡ 2
      → 2 < degree n w x → Loses w s x
  new_two r c s p x two more = go (changed_or_same r c s p x)
    where
      go : (degree n (apply w s) x ≡ degree n w x) ⊎ (Loses w s x ⊎ Goes s x) → Loses w s x
      go (inl e) = absurd (omega arith)
      go (inr (inl k)) = k
      go (inr (inr k)) = absurd (omega (arith, goes_few r c s p x k))

  -- ---- rings and chains after a step

  step_after : (r : Rule) (c : ℕ) (s : Step) → IsStep n w r c s → Graph n (apply w s)
  step_after r c s p = step_graph g s (is_fits g r c s p)

  pub inside_two : (w' : Points) (r : Rule) (c : ℕ) (t : Step) → IsStep n w' r c t → (x : ℕ) → mem x (inside t) ≡ true
      → degree n w' x ≡ 2
  inside_two w' by_leaf c (ring u z inner) p x m = elim p [ ]
  inside_two w' by_leaf c (chain u v z inner) p x m = elim p [ ]
  inside_two w' by_ring c (leaf u v) p x m = elim p [ ]
  inside_two w' by_ring c (chain u v z inner) p x m = elim p [ ]
  inside_two w' by_chain c (leaf u v) p x m = elim p [ ]
  inside_two w' by_chain c (ring u z inner) p x m = elim p [ ]
  inside_two w' by_leaf c (leaf u v) p x m = no_mem x m
  inside_two w' by_ring c (ring u z inner) p x m = p.1.row.two x m
  inside_two w' by_chain c (chain u v z inner) p x m = p.1.row.two x m

  -- a ring or a chain after a step stood before it, or it has a cell inside that lost pairs and has two
  pub new_row : (r : Rule) (c : ℕ) (s : Step) → IsStep n w r c s → Proper n w s
      → (q : Rule) (d : ℕ) (t : Step) → q ≢ by_leaf → IsStep n (apply w s) q d t → Proper n (apply w s) t
      → (IsStep n w q d t × Proper n w t) ⊎ ((x : ℕ) × (mem x (inside t) ≡ true) × Loses w s x)
  new_row r c s p o q d t nl i k = go (kept_or_touched g (step_after r c s p) (step_settled g r c s p o) q d t nl i k)
    where
      go : (IsStep n w q d t × Proper n w t) ⊎ Touched n w (inside t)
          → (IsStep n w q d t × Proper n w t) ⊎ ((x : ℕ) × (mem x (inside t) ≡ true) × Loses w s x)
      go (inl h) = inl h
      go (inr h) =
          let x = h.cell in
          inr (x, h.on, new_two r c s p x (inside_two (apply w s) q d t i x h.on) h.high)

  -- ---- a step is not named again

  other : (z : ℕ) (cs : List ℕ) → 1 < length cs → distinct cs ≡ true → (y : ℕ) × (mem y cs ≡ true) × (y ≢ z)
  other z [] l d = absurd (omega arith)
  other z (a ∷ []) l d = absurd (omega arith)
  other z (a ∷ b ∷ cs) l d = go (eq_test a z)
    where
      go : {t : Bool} → Test (a ≡ z) (a ≢ z) t → (y : ℕ) × (mem y (a ∷ b ∷ cs) ≡ true) × (y ≢ z)
      go (pass e) = (
        b,
        mem_on b a (b ∷ cs) (mem_head b b cs refl),
        λ q. clash (mem_head a b cs (q ∙ sym e)) (distinct_cons a (b ∷ cs) d).0,
      )
      go (fail o) = (a, mem_head a a (b ∷ cs) refl, o)

  gone_again : (r : Rule) (c : ℕ) (s : Step) → r ≢ by_leaf → IsStep n w r c s → IsStep n (apply w s) r c s → ⊥
  gone_again by_ring c (leaf u v) d p i = elim p [ ]
  gone_again by_ring c (chain u v z inner) d p i = elim p [ ]
  gone_again by_chain c (leaf u v) d p i = elim p [ ]
  gone_again by_chain c (ring u z inner) d p i = elim p [ ]
  gone_again by_leaf c s d p i = d refl
  gone_again by_ring c (ring u z inner) d p i =
      let y = other z inner p.1.row.more p.1.row.apart in
      y.2 (goes_left by_ring c (ring u z inner) p y.0 y.1 (omega (arith, i.1.row.two y.0 y.1)))
  gone_again by_chain c (chain u v z inner) d p i =
      let y = other z inner p.1.row.more p.1.row.apart in
      y.2 (goes_left by_chain c (chain u v z inner) p y.0 y.1 (omega (arith, i.1.row.two y.0 y.1)))

  -- what stood before and stands after is not the step itself
  pub not_again : (r : Rule) (c : ℕ) (s t : Step) → r ≢ by_leaf → IsStep n w r c s → IsStep n w r c t
      → IsStep n (apply w s) r c t → ⊥
  not_again r c s t d p k i =
      gone_again r c s d p (subst (IsStep n (apply w s) r c) (sym (step_one g r c s t p k)) i)

  -- ---- the first step

  pub leaf_there : (x : ℕ) → degree n w x ≡ 1 → (s : Step) × IsStep n w by_leaf x s
  leaf_there x one = go (partners n w x) refl
    where
      go : (ps : List ℕ) → partners n w x ≡ ps → (s : Step) × IsStep n w by_leaf x s
      go [] e = absurd (omega (arith, ap length e))
      go (y ∷ ys) e =
          (leaf y x, (refl, record { one = one; pair = partner_of g x y (rw e (mem_head y y ys refl)) }))

  -- no step comes before it
  pub first_is : (r : Rule) (c : ℕ) (s : Step) → IsStep n w r c s
      → ((q : Rule) (d : ℕ) (t : Step) → IsStep n w q d t → NoLater (r, c) (q, d)) → first_step_of n w ≡ some s
  first_is r c s p least = go (first_step_of n w) refl
    where
      both : (q : Rule) (d : ℕ) → NoLater (r, c) (q, d) → NoLater (q, d) (r, c) → (q ≡ r) × (d ≡ c)
      both q d (inl a) (inl b) = absurd (omega arith)
      both q d (inl a) (inr b) = absurd (omega (arith, ap rank b.0))
      both q d (inr a) (inl b) = absurd (omega (arith, ap rank a.0))
      both q d (inr a) (inr b) = (b.0, omega arith)

      go : (o : Option Step) → first_step_of n w ≡ o → o ≡ some s
      go none e = absurd ((first_step_none g).0 e r c s p)
      go (some t) e =
          let i = step_is g (name t).0 (name t).1 t (first_step_is g t e) in
          let k = both (name t).0 (name t).1 (least (name t).0 (name t).1 t i) (first_step_first g t e r c s p) in
          let j : IsStep n w r c t = subst (λ x. IsStep n w r x t) k.1 (subst (λ x. IsStep n w x (name t).1 t) k.0 i) in
          ap some (step_one g r c t s j p)
