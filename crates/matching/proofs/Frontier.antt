-- Which cells name a step after a step: those that did before and are not its own, and those that it makes new
-- (`sought_after`); after a run of leaf steps at one cell (`sought_fewer`); the first step, by the cells that name
-- steps of each rule (`first_by`, `first_empty`, `first_same`). Assumes nothing.
use mathlib.Core.Path.{◌≡◌, refl, sym, ap, subst, ◌∙◌}
use mathlib.Core.Logic.{◌⊎◌, inl, inr, ◌≢◌}
use mathlib.Core.Bool.{true}
use mathlib.Core.Option.{Option, some, none}
use Prim.Native.Nat.{ℕ, ◌≤◌, ◌<◌}
use native.Mathlib.Omega.{arith}
use Rattle.matching.specs.Lists.{mem}
use Rattle.matching.specs.Pairs.{Points}
use Rattle.matching.specs.Graph.{Graph, degree}
use Rattle.matching.specs.Steps.{Rule, by_leaf, by_ring, by_chain, Step, leaf, ring, chain, apply, inside, name}
use Rattle.matching.specs.Shapes.{IsStep, rank, NoLater}
use Rattle.matching.specs.Find.{first_step_of}
use Rattle.matching.specs.Frontier.{Proper, Sought, On, NamedBy, Loses, Left, Afresh}
use Rattle.matching.proofs.Find.{step_name, step_is, first_step_is, first_step_first, first_step_none}
use Rattle.matching.proofs.More.{graph_to, is_more, is_less}
use Rattle.matching.proofs.Settled.{Touched, fewer_settled, kept_or_touched}
use Rattle.matching.proofs.Changed.{Goes, inside_two, new_leaf, new_row, not_again, proper_quiet, leaf_there, first_is}

ring_rule : by_ring ≢ by_leaf
ring_rule e = omega (arith, ap rank e)

chain_rule : by_chain ≢ by_leaf
chain_rule e = omega (arith, ap rank e)

-- a leaf step is at a cell of degree one, and there is one at each
pub leaf_degree : (n : ℕ) (w : Points) (c : ℕ) → Sought n w by_leaf c → degree n w c ≡ 1
leaf_degree n w c (ring u z inner, i, o) = elim i [ ]
leaf_degree n w c (chain u v z inner, i, o) = elim i [ ]
leaf_degree n w c (leaf u v, i, o) = rw (← i.0) i.1.one

leaf_sought : {n : ℕ} {w : Points} → Graph n w → (c : ℕ) → degree n w c ≡ 1 → Sought n w by_leaf c
leaf_sought g c one = leaf_any (leaf_there g c one)
  where
    leaf_any : {n : ℕ} {w : Points} {c : ℕ} → (s : Step) × IsStep n w by_leaf c s → Sought n w by_leaf c
    leaf_any (ring u z inner, i) = elim i [ ]
    leaf_any (chain u v z inner, i) = elim i [ ]
    leaf_any (leaf u v, i) = (leaf u v, i, tt)

-- where a cell is inside a step of a row, it is on it
row_on : (n : ℕ) (w : Points) (r : Rule) (d : ℕ) (t : Step) → IsStep n w r d t → (x : ℕ) → mem x (inside t) ≡ true
    → On x t
row_on n w by_leaf d (ring u z inner) i x m = elim i [ ]
row_on n w by_leaf d (chain u v z inner) i x m = elim i [ ]
row_on n w by_ring d (leaf u v) i x m = elim i [ ]
row_on n w by_ring d (chain u v z inner) i x m = elim i [ ]
row_on n w by_chain d (leaf u v) i x m = elim i [ ]
row_on n w by_chain d (ring u z inner) i x m = elim i [ ]
row_on n w by_leaf d (leaf u v) i x m = absurd (no m)
  where
    no : mem x (inside (leaf u v)) ≡ true → ⊥
    no q = (let y : ◌≡◌ {A = ℕ} 0 1 = cc in omega arith)
row_on n w by_ring d (ring u z inner) i x m = m
row_on n w by_chain d (chain u v z inner) i x m = m

module _ {n : ℕ} {w : Points} (g : Graph n w) (r : Rule) (c : ℕ) (s : Step) (p : IsStep n w r c s) (o : Proper n w s)
  where
    -- The cell d is new, by a cell that the step changes.
    abbrev New : Rule → ℕ → Type 0
    New q d = (x : ℕ) × Afresh w s q x × NamedBy n (apply w s) q x d

    abbrev Old : Rule → ℕ → Type 0
    Old q d = Sought n w q d × ((q, d) ≢ name s)

    not_own : (q : Rule) (d : ℕ) (t : Step) → q ≢ by_leaf → IsStep n w q d t → IsStep n (apply w s) q d t
        → (q, d) ≢ name s
    not_own q d t nl k i e =
        let same : ◌≡◌ {A = Rule × ℕ} (q, d) (r, c) = e ∙ step_name g r c s p in
        let rule : q ≡ r = ap (λ (x : Rule × ℕ). x.0) same in
        let cell : d ≡ c = ap (λ (x : Rule × ℕ). x.1) same in
        not_again g q d s t nl (subst (λ x. IsStep n w q x s) (sym cell) (subst (λ x. IsStep n w x c s) (sym rule) p))
        k i

    goes_own : (d : ℕ) (s' : Step) → (by_leaf, d) ≡ name s' → Goes s' d
    goes_own d (leaf u v) e = ap (λ (x : Rule × ℕ). x.1) e
    goes_own d (ring u z inner) e = absurd (ring_rule (sym (ap (λ (x : Rule × ℕ). x.0) e)))
    goes_own d (chain u v z inner) e = absurd (chain_rule (sym (ap (λ (x : Rule × ℕ). x.0) e)))

    row_after : (q : Rule) (d : ℕ) → q ≢ by_leaf → Sought n (apply w s) q d
        → Old q d ⊎ ((x : ℕ) × Loses w s x × NamedBy n (apply w s) q x d)
    row_after q d nl (t, i, k) = go (new_row g r c s p o q d t nl i k)
      where
        go : (IsStep n w q d t × Proper n w t) ⊎ ((x : ℕ) × (mem x (inside t) ≡ true) × Loses w s x)
            → Old q d ⊎ ((x : ℕ) × Loses w s x × NamedBy n (apply w s) q x d)
        go (inl h) = inl ((t, h.0, h.1), not_own q d t nl h.0 i)
        go (inr h) = inr (h.0, h.2, (t, i, row_on n (apply w s) q d t i h.0 h.1))

    pub sought_after : (q : Rule) (d : ℕ) → Sought n (apply w s) q d → Old q d ⊎ New q d
    sought_after by_leaf d (ring u z inner, i, k) = elim i [ ]
    sought_after by_leaf d (chain u v z inner, i, k) = elim i [ ]
    sought_after by_leaf d (leaf u v, i, k) = go (new_leaf g r c s p d (leaf_degree n (apply w s) d (leaf u v, i, k)))
      where
        go : ((degree n w d ≡ 1) × (Goes s d → ⊥)) ⊎ (Loses w s d ⊎ Left s d) → Old by_leaf d ⊎ New by_leaf d
        go (inl h) = inl (leaf_sought g d h.0, λ e. h.1 (goes_own d s e))
        go (inr h) = inr (d, h, (leaf u v, i, sym i.0))
    sought_after by_ring d h = row_after by_ring d ring_rule h
    sought_after by_chain d h = row_after by_chain d chain_rule h

-- ---- pairs that only lose points

module _ {n : ℕ} {w w' : Points} (g : Graph n w) (g' : Graph n w') (less : (a b : ℕ) → w' a b ≤ w a b) where
  -- a ring or a chain stood before, or it is on a cell that had more than two pairs
  pub sought_fewer : (q : Rule) (d : ℕ) → q ≢ by_leaf → Sought n w' q d
      → Sought n w q d ⊎ ((x : ℕ) × (2 < degree n w x) × (degree n w' x ≡ 2) × NamedBy n w' q x d)
  sought_fewer q d nl (t, i, k) = go (kept_or_touched g g' (fewer_settled g w' less) q d t nl i k)
    where
      go : (IsStep n w q d t × Proper n w t) ⊎ Touched n w (inside t)
          → Sought n w q d ⊎ ((x : ℕ) × (2 < degree n w x) × (degree n w' x ≡ 2) × NamedBy n w' q x d)
      go (inl h) = inl (t, h.0, h.1)
      go (inr h) =
          let x = h.cell in
          inr (x, h.high, inside_two g w' q d t i x h.on, (t, i, row_on n w' q d t i x h.on))

-- ---- the first step

module _ {n : ℕ} {w : Points} (g : Graph n w) where
  -- where no leaf is sought, what is a step of a rule is sought
  sought_quiet : ((d : ℕ) → Sought n w by_leaf d → ⊥) → (q : Rule) (d : ℕ) (t : Step) → IsStep n w q d t
      → Sought n w q d
  sought_quiet quiet q d t i = (t, i, proper_quiet g (λ x one. quiet x (leaf_sought g x one)) q d t i)

  pub first_by : (r : Rule) (c : ℕ) (s : Step) → IsStep n w r c s
      → ((q : Rule) → rank q < rank r → (d : ℕ) → Sought n w q d → ⊥) → ((d : ℕ) → Sought n w r d → c ≤ d)
      → first_step_of n w ≡ some s
  first_by r c s p before least = first_is g r c s p (at r before least)
    where
      at : (r : Rule) → ((q : Rule) → rank q < rank r → (d : ℕ) → Sought n w q d → ⊥)
          → ((d : ℕ) → Sought n w r d → c ≤ d)
          → (q : Rule) (d : ℕ) (t : Step) → IsStep n w q d t → NoLater (r, c) (q, d)
      at by_leaf b l by_leaf d (ring u z inner) i = elim i [ ]
      at by_leaf b l by_leaf d (chain u v z inner) i = elim i [ ]
      at by_ring b l by_leaf d (ring u z inner) i = elim i [ ]
      at by_ring b l by_leaf d (chain u v z inner) i = elim i [ ]
      at by_ring b l by_ring d (leaf u v) i = elim i [ ]
      at by_ring b l by_ring d (chain u v z inner) i = elim i [ ]
      at by_chain b l by_leaf d (ring u z inner) i = elim i [ ]
      at by_chain b l by_leaf d (chain u v z inner) i = elim i [ ]
      at by_chain b l by_ring d (leaf u v) i = elim i [ ]
      at by_chain b l by_ring d (chain u v z inner) i = elim i [ ]
      at by_leaf b l by_leaf d (leaf u v) i = inr (refl, l d (leaf u v, i, tt))
      at by_leaf b l by_ring d t i = inl (omega arith)
      at by_leaf b l by_chain d t i = inl (omega arith)
      at by_ring b l by_leaf d (leaf u v) i = absurd (b by_leaf (omega arith) d (leaf u v, i, tt))
      at by_ring b l by_ring d (ring u z inner) i = inr (refl, l d (ring u z inner, i, tt))
      at by_ring b l by_chain d t i = inl (omega arith)
      at by_chain b l by_leaf d (leaf u v) i = absurd (b by_leaf (omega arith) d (leaf u v, i, tt))
      at by_chain b l by_ring d (ring u z inner) i = absurd (b by_ring (omega arith) d (ring u z inner, i, tt))
      at by_chain b l by_chain d t i = inr (refl, l d (sought_quiet (b by_leaf (omega arith)) by_chain d t i))

  pub first_empty : ((q : Rule) (d : ℕ) → Sought n w q d → ⊥) → first_step_of n w ≡ none
  first_empty empty = (first_step_none g).1 (λ q d t i. empty q d (sought_quiet (empty by_leaf) q d t i))

  -- where a chain is the first step its ends have more than two pairs
  pub first_proper : (s : Step) → first_step_of n w ≡ some s → Proper n w s
  first_proper s e = at s (step_is g (name s).0 (name s).1 s (first_step_is g s e)) (first_step_first g s e)
    where
      at : (t : Step) → IsStep n w (name t).0 (name t).1 t
          → ((q : Rule) (d : ℕ) (t' : Step) → IsStep n w q d t' → NoLater (name t) (q, d)) → Proper n w t
      at (leaf u v) i l = tt
      at (ring u z inner) i l = tt
      at (chain u v z inner) i l = proper_quiet g quiet by_chain z (chain u v z inner) i
        where
          no : (x : ℕ) → NoLater (by_chain, z) (by_leaf, x) → ⊥
          no x (inl k) = omega arith
          no x (inr k) = chain_rule k.0

          quiet : (x : ℕ) → degree n w x ≢ 1
          quiet x one = (let t = leaf_there g x one in no x (l by_leaf x t.0 t.1))

  -- more cells change nothing
  pub first_same : (k : ℕ) → n ≤ k → first_step_of n w ≡ first_step_of k w
  first_same k le = go (first_step_of k w) refl
    where
      go : (o : Option Step) → first_step_of k w ≡ o → first_step_of n w ≡ o
      go none e =
          (first_step_none g).1 (λ q d t i. (first_step_none (graph_to g k le)).0 e q d t (is_more g k le q d t i))
      go (some s) e =
          let h = graph_to g k le in
          let i = step_is h (name s).0 (name s).1 s (first_step_is h s e) in
          first_is g (name s).0 (name s).1 s (is_less g k le (name s).0 (name s).1 s i)
          (λ q d t j. first_step_first h s e q d t (is_more g k le q d t j))
