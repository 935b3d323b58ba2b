-- The ring or the chain through a cell of degree two. In order: where its row comes back to it there is no chain, and
-- the ring is named by the lowest cell but one (`closed_row`, `through_no_chain`, `through_ring`); where the two ways
-- out of it lead to cells not of degree two it is named by the lowest cell on them (`ways_read`, `through_ways`), and
-- it is a ring just where the two are one cell (`through_same_end`, `through_two_ends`). Assumes nothing.
use mathlib.Core.Path.{◌≡◌, refl, sym, ap, subst, ◌∙◌}
use mathlib.Core.Logic.{◌⊎◌, inl, inr, ◌≢◌, ⊎_elim}
use mathlib.Core.Bool.{Bool, true, false}
use mathlib.Core.List.{List, [], ◌∷◌}
use Prim.Native.Nat.{ℕ, ◌≤◌, ◌<◌}
use native.Mathlib.Omega.{arith}
use lib.ListN.{length}
use Rattle.matching.specs.Lists.{mem, distinct}
use Rattle.matching.specs.Pairs.{Points}
use Rattle.matching.specs.Graph.{Graph, degree}
use Rattle.matching.specs.Steps.{Rule, by_leaf, by_ring, by_chain, Step, leaf, ring, chain, inside}
use Rattle.matching.specs.Shapes.{IsRow, IsRing, IsStep, Lowest, first, last}
use Rattle.matching.specs.Find.{ReadRow}
use Rattle.matching.proofs.Tests.{Test, pass, fail, is_test, eq_test, passes, fails}
use Rattle.matching.proofs.Members.{no_mem, mem_head, mem_more, clash, distinct_cons}
use Rattle.matching.proofs.Rows.{AtEnd, Run, Read, is_run, run_outer, run_live, run_two, run_distinct}
use Rattle.matching.proofs.Rows.{spread, way_out, first_in}
use Rattle.matching.proofs.Partners.{Between, between_only}
use Rattle.matching.proofs.Settled.{last_pair, last_in, last_inner}

-- the first and the last of two or more cells
ends_apart : (u : ℕ) (cs : List ℕ) → 1 < length cs → distinct cs ≡ true → first u cs ≢ last u cs
ends_apart u [] l d e = omega arith
ends_apart u (a ∷ []) l d e = omega arith
ends_apart u (a ∷ b ∷ cs) l d e =
    clash (subst (λ y. mem y (b ∷ cs) ≡ true) (sym e) (last_in b cs)) (distinct_cons a (b ∷ cs) d).0

-- A cell of the ring from u over some cells.
abbrev pub Round : ℕ → List ℕ → ℕ → Type 0
Round u cells c = (mem c cells ≡ true) ⊎ (c ≡ u)

module _ {n : ℕ} {w : Points} (g : Graph n w) where
  off_row : {u v : ℕ} {inner : List ℕ} → IsRow n w u inner v → (c : ℕ) → degree n w c ≢ 2 → mem c inner ≡ false
  off_row {inner = inner} r c d = fails (is_test (mem c inner)) (λ m. d (r.two c m))

  -- a ring of cells of degree two has no pairs with other cells
  round : {u : ℕ} {cells : List ℕ} → IsRow n w u cells u → degree n w u ≡ 2 → (c d : ℕ) → 0 < w c d
      → Round u cells c → Round u cells d
  round {u} {cells} r two c d l (inl k) = go (is_test (mem d cells))
    where
      go : {t : Bool} → Test (mem d cells ≡ true) (mem d cells ≡ false) t → Round u cells d
      go (pass q) = inl q
      go (fail o) = inr (⊎_elim (λ e. sym e.0) (λ e. sym e.0) (run_outer g u cells u (is_run g r) c d k o l))
  round {u} {cells} r two c d l (inr e) = inl (next (between_only g ends d (subst (λ y. 0 < w y d) e l)))
    where
      ends : Between n w (first u cells) u (last u cells)
      ends = record {
        two = two;
        back = way_out g r;
        on = omega (arith, last_pair w u cells u r.live, g.turned u (last u cells));
        apart = ends_apart u cells r.more r.apart;
      }

      next : (first u cells ≡ d) ⊎ (last u cells ≡ d) → mem d cells ≡ true
      next (inl q) = rw (← q) (first_in g r)
      next (inr q) = rw (← q) (last_inner u cells r.more)

  round_two : {u : ℕ} {cells : List ℕ} → IsRow n w u cells u → degree n w u ≡ 2 → (c : ℕ) → Round u cells c
      → degree n w c ≡ 2
  round_two r two c (inl k) = r.two c k
  round_two r two c (inr e) = ap (degree n w) e ∙ two

  -- ---- a ring of cells of degree two

  -- a row that comes back to where it started is one
  pub closed_row : (x : ℕ) (cells : List ℕ) → Run n w x cells x → mem x cells ≡ false → 0 < w x (first x cells)
      → IsRow n w x cells x
  closed_row x [] r off l = absurd (omega (arith, g.loop x))
  closed_row x (c ∷ []) r off l = absurd (r.0.apart refl)
  closed_row x (c ∷ d ∷ ds) r off l = record {
    live = run_live g x (c ∷ d ∷ ds) x (omega arith) r;
    two = run_two g x (c ∷ d ∷ ds) x r;
    apart = run_distinct g x (c ∷ d ∷ ds) x r off;
    first_off = off;
    last_off = off;
    more = omega arith;
  }

  module _ {x lo next : ℕ} {cells : List ℕ} (r : IsRow n w x cells x) (two : degree n w x ≡ 2) (up : lo < next)
      (lo_on : Round x cells lo) (next_on : Round x cells next)
      (least : (c : ℕ) → Round x cells c → (c ≡ lo) ⊎ (next ≤ c)) where
    -- the row of a step through x stays on the ring
    on_round : {u v : ℕ} {inner : List ℕ} → IsRow n w u inner v → mem x inner ≡ true
        → (c : ℕ) → mem c inner ≡ true → Round x cells c
    on_round {u} {v} {inner} i h = spread g (Round x cells) u inner v (is_run g i) (λ c d k. round r two c d) x h
        (inr refl)

    end_round : {u v : ℕ} {inner : List ℕ} → IsRow n w u inner v → mem x inner ≡ true → Round x cells u
    end_round {u} {v} {inner} i h =
        round r two (first v inner) u (omega (arith, way_out g i, g.turned u (first v inner)))
        (on_round i h (first v inner) (first_in g i))

    -- there is no chain through x, and the ring is named by the lowest cell but one
    pub through_no_chain : (d : ℕ) (t : Step) → IsStep n w by_chain d t → mem x (inside t) ≡ true → ⊥
    through_no_chain d (leaf u v) p h = elim p [ ]
    through_no_chain d (ring u z inner) p h = elim p [ ]
    through_no_chain d (chain u v z inner) p h = p.1.first_end (round_two r two u (end_round p.1.row h))

    pub through_ring : (d : ℕ) (t : Step) → IsStep n w by_ring d t → mem x (inside t) ≡ true → d ≡ next
    through_ring d (leaf u v) p h = elim p [ ]
    through_ring d (chain u v z inner) p h = elim p [ ]
    through_ring d (ring u z inner) p h = sym p.0 ∙ same
      where
        i : IsRow n w u inner u
        i = p.1.row

        u_two : degree n w u ≡ 2
        u_two = round_two r two u (end_round i h)

        below : u < z
        below = ⊎_elim (λ k. absurd (k u_two)) (λ k. k) p.1.at

        -- the ring's cells are those of the step
        back : (c : ℕ) → Round x cells c → Round u inner c
        back c (inl k) =
            spread g (Round u inner) x cells x (is_run g r) (λ a b m. round i u_two a b) (first x cells) (first_in g r)
            (round i u_two x (first x cells) (way_out g r) (inl h)) c k
        back c (inr e) = inl (subst (λ y. mem y inner ≡ true) (sym e) h)

        above : (c : ℕ) → Round u inner c → (z ≤ c) ⊎ (c ≡ u)
        above c (inl k) = inl (p.1.low.least c k)
        above c (inr e) = inr e

        same : z ≡ next
        same = go (least u (end_round i h)) (least z (on_round i h z p.1.low.here)) (above lo (back lo lo_on))
            (above next (back next next_on))
          where
            go : (u ≡ lo) ⊎ (next ≤ u) → (z ≡ lo) ⊎ (next ≤ z) → (z ≤ lo) ⊎ (lo ≡ u) → (z ≤ next) ⊎ (next ≡ u)
                → z ≡ next
            go (inl a) (inl b) c d = absurd (omega (arith, below, up))
            go (inl a) (inr b) c (inl d) = omega (arith, below, up)
            go (inl a) (inr b) c (inr d) = absurd (omega (arith, below, up))
            go (inr a) b (inl c) d = absurd (omega (arith, below, up))
            go (inr a) b (inr c) d = absurd (omega (arith, below, up))

-- ---- the two ways out of a cell

-- The cell c is x, or on one of the two ways out of it.
abbrev pub Ways : ℕ → List ℕ → List ℕ → ℕ → Type 0
Ways x cells more c = (c ≡ x) ⊎ ((mem c cells ≡ true) ⊎ (mem c more ≡ true))

-- The two ways out of x, over these cells of degree two to cells not of degree two.
pub record WaysOut (n : ℕ) (w : Points) (x : ℕ) (cells : List ℕ) (a : ℕ) (more : List ℕ) (b : ℕ) : Type 0 where
  pub mid : Between n w (first a cells) x (first b more)
  pub one : Run n w x cells a
  pub other : Run n w x more b
  pub one_end : degree n w a ≢ 2
  pub other_end : degree n w b ≢ 2

-- two rows read from x
pub ways_read : {n : ℕ} {w : Points} {x f h : ℕ} {r q : ReadRow} → Between n w f x h → Read n w x x f r
    → Read n w x x h q
    → degree n w r.1 ≢ 2 → degree n w q.1 ≢ 2 → WaysOut n w x r.0 r.1 q.0 q.1
ways_read b i k da db = record {
  mid = rw (i.starts, k.starts) b;
  one = i.run;
  other = k.run;
  one_end = da;
  other_end = db;
}

-- the first cell on a way, or the cell behind it
first_or : (e : ℕ) (cs : List ℕ) (d : ℕ) → first e cs ≡ d → (mem d cs ≡ true) ⊎ (d ≡ e)
first_or e [] d q = inr (sym q)
first_or e (c ∷ cs) d q = inl (mem_head d c cs q)

-- what a cell has and each hands on to its partners is had behind a way, and on it
along : (n : ℕ) (w : Points) (P : ℕ → Type 0) → ((c d : ℕ) → 0 < w c d → P c → P d) → (p : ℕ) (cs : List ℕ) (e : ℕ)
    → Run n w p cs e → 0 < w p (first e cs) → P p → P e
along n w P on p [] e r l k = on p e l k
along n w P on p (c ∷ cs) e r l k = along n w P on c cs e r.1 r.0.on (on p c l k)

along_two : (n : ℕ) (w : Points) (P : ℕ → Type 0) → ((c d : ℕ) → 0 < w c d → degree n w d ≡ 2 → P c → P d)
    → (p : ℕ) (cs : List ℕ) (e : ℕ) → Run n w p cs e → 0 < w p (first e cs) → P p → (c : ℕ) → mem c cs ≡ true → P c
along_two n w P on p [] e r l k = λ c m. no_mem c m
along_two n w P on p (c ∷ cs) e r l k =
    let here = on p c l r.0.two k in
    mem_more P c cs here (along_two n w P on c cs e r.1 r.0.on here)

module _ {n : ℕ} {w : Points} (g : Graph n w) {x a b : ℕ} {cells more : List ℕ} (o : WaysOut n w x cells a more b) where
  -- a partner of a cell on the ways is on them, or behind one of them
  next_way : (c d : ℕ) → 0 < w c d → Ways x cells more c → Ways x cells more d ⊎ ((d ≡ a) ⊎ (d ≡ b))
  next_way c d l (inl e) = go (between_only g o.mid d (subst (λ y. 0 < w y d) e l))
    where
      go : (first a cells ≡ d) ⊎ (first b more ≡ d) → Ways x cells more d ⊎ ((d ≡ a) ⊎ (d ≡ b))
      go (inl q) = ⊎_elim (λ k. inl (inr (inl k))) (λ k. inr (inl k)) (first_or a cells d q)
      go (inr q) = ⊎_elim (λ k. inl (inr (inr k))) (λ k. inr (inr k)) (first_or b more d q)
  next_way c d l (inr (inl m)) = go (is_test (mem d cells))
    where
      go : {t : Bool} → Test (mem d cells ≡ true) (mem d cells ≡ false) t → Ways x cells more d ⊎ ((d ≡ a) ⊎ (d ≡ b))
      go (pass k) = inl (inr (inl k))
      go (fail off) =
          ⊎_elim (λ e. inl (inl (sym e.0))) (λ e. inr (inl (sym e.0))) (run_outer g x cells a o.one c d m off l)
  next_way c d l (inr (inr m)) = go (is_test (mem d more))
    where
      go : {t : Bool} → Test (mem d more ≡ true) (mem d more ≡ false) t → Ways x cells more d ⊎ ((d ≡ a) ⊎ (d ≡ b))
      go (pass k) = inl (inr (inr k))
      go (fail off) =
          ⊎_elim (λ e. inl (inl (sym e.0))) (λ e. inr (inr (sym e.0))) (run_outer g x more b o.other c d m off l)

  ends_not : (d : ℕ) → degree n w d ≡ 2 → (d ≡ a) ⊎ (d ≡ b) → ⊥
  ends_not d two (inl e) = o.one_end (sym (ap (degree n w) e) ∙ two)
  ends_not d two (inr e) = o.other_end (sym (ap (degree n w) e) ∙ two)

  ways_two : (c : ℕ) → Ways x cells more c → degree n w c ≡ 2
  ways_two c (inl e) = ap (degree n w) e ∙ o.mid.two
  ways_two c (inr (inl m)) = run_two g x cells a o.one c m
  ways_two c (inr (inr m)) = run_two g x more b o.other c m

  -- the cells of a step through x are on the ways
  on_ways : {u v : ℕ} {inner : List ℕ} → IsRow n w u inner v → mem x inner ≡ true → (c : ℕ) → mem c inner ≡ true
      → Ways x cells more c
  on_ways {u} {v} {inner} i h = spread g (Ways x cells more) u inner v (is_run g i) on x h (inl refl)
    where
      on : (c d : ℕ) → mem d inner ≡ true → 0 < w c d → Ways x cells more c → Ways x cells more d
      on c d m l k = ⊎_elim (λ y. y) (λ e. absurd (ends_not d (i.two d m) e)) (next_way c d l k)

  -- the ends of a step through x are behind the ways
  end_way : (c d : ℕ) → 0 < w c d → Ways x cells more c → degree n w d ≢ 2 → (d ≡ a) ⊎ (d ≡ b)
  end_way c d l k far = ⊎_elim (λ y. absurd (far (ways_two d y))) (λ e. e) (next_way c d l k)

  -- a ring of cells of degree two is not through x
  not_round : {u z : ℕ} {inner : List ℕ} → IsRing n w u z inner → degree n w u ≡ 2 → mem x inner ≡ true → ⊥
  not_round {u} {z} {inner} i two h =
      o.one_end (round_two g i.row two a
      (along n w (Round u inner) (round g i.row two) x cells a o.one o.mid.back (inl h)))

  -- the cells on the ways are those of the step
  ways_on : {u v : ℕ} {inner : List ℕ} → IsRow n w u inner v → degree n w u ≢ 2 → degree n w v ≢ 2 → mem x inner ≡ true
      → (c : ℕ) → Ways x cells more c → mem c inner ≡ true
  ways_on {u} {v} {inner} i du dv h c = at
    where
      In : ℕ → Type 0
      In c = mem c inner ≡ true

      on : (c d : ℕ) → 0 < w c d → degree n w d ≡ 2 → In c → In d
      on c d l two k = passes (is_test (mem d inner)) (λ q. ends (run_outer g u inner v (is_run g i) c d k q l))
        where
          ends : AtEnd u inner v c d → ⊥
          ends (inl e) = du (ap (degree n w) e.0 ∙ two)
          ends (inr e) = dv (ap (degree n w) e.0 ∙ two)

      at : Ways x cells more c → In c
      at (inl e) = subst In (sym e) h
      at (inr (inl m)) = along_two n w In on x cells a o.one o.mid.back h c m
      at (inr (inr m)) = along_two n w In on x more b o.other o.mid.on h c m

  -- a ring or a chain through x is named by the lowest cell on the ways
  module _ {m : ℕ} (here : Ways x cells more m) (least : (c : ℕ) → Ways x cells more c → m ≤ c) where
    lowest_way : {u v z : ℕ} {inner : List ℕ} → IsRow n w u inner v → degree n w u ≢ 2 → degree n w v ≢ 2
        → Lowest z inner → mem x inner ≡ true → z ≡ m
    lowest_way {z = z} i du dv l h =
        omega (arith, l.least m (ways_on i du dv h m here), least z (on_ways i h z l.here))

    pub through_ways : (q : Rule) (d : ℕ) (t : Step) → IsStep n w q d t → mem x (inside t) ≡ true → d ≡ m
    through_ways by_leaf d (ring u z inner) p h = elim p [ ]
    through_ways by_leaf d (chain u v z inner) p h = elim p [ ]
    through_ways by_ring d (leaf u v) p h = elim p [ ]
    through_ways by_ring d (chain u v z inner) p h = elim p [ ]
    through_ways by_chain d (leaf u v) p h = elim p [ ]
    through_ways by_chain d (ring u z inner) p h = elim p [ ]
    through_ways by_leaf d (leaf u v) p h = no_mem x h
    through_ways by_ring d (ring u z inner) p h = go (eq_test (degree n w u) 2)
      where
        go : {t : Bool} → Test (degree n w u ≡ 2) (degree n w u ≢ 2) t → d ≡ m
        go (pass e) = absurd (not_round p.1 e h)
        go (fail d2) = sym p.0 ∙ lowest_way p.1.row d2 d2 p.1.low h
    through_ways by_chain d (chain u v z inner) p h =
        sym p.0 ∙ lowest_way p.1.row p.1.first_end p.1.last_end p.1.low h

  -- it is a ring where the ways end at one cell, a chain where they do not
  pub through_same_end : (d : ℕ) (t : Step) → IsStep n w by_ring d t → mem x (inside t) ≡ true → a ≡ b
  through_same_end d (leaf u v) p h = elim p [ ]
  through_same_end d (chain u v z inner) p h = elim p [ ]
  through_same_end d (ring u z inner) p h = go (eq_test (degree n w u) 2)
    where
      i : IsRow n w u inner u
      i = p.1.row

      -- the cell behind a way, which starts inside the ring
      behind : degree n w u ≢ 2 → (p : ℕ) (cs : List ℕ) (e : ℕ) → Run n w p cs e → 0 < w p (first e cs)
          → degree n w e ≢ 2
          → mem p inner ≡ true → u ≡ e
      behind du p [] e r l far k =
          ⊎_elim (λ y. y.0) (λ y. y.0) (run_outer g u inner u (is_run g i) p e k (off_row g i e far) l)
      behind du p (c ∷ cs) e r l far k =
          behind du c cs e r.1 r.0.on far (passes (is_test (mem c inner))
          (λ q. du (ends (run_outer g u inner u (is_run g i) p c k q l))))
        where
          ends : AtEnd u inner u p c → degree n w u ≡ 2
          ends (inl y) = ap (degree n w) y.0 ∙ r.0.two
          ends (inr y) = ap (degree n w) y.0 ∙ r.0.two

      go : {t : Bool} → Test (degree n w u ≡ 2) (degree n w u ≢ 2) t → a ≡ b
      go (pass e) = absurd (not_round p.1 e h)
      go (fail d2) =
          sym (behind d2 x cells a o.one o.mid.back o.one_end h)
          ∙ behind d2 x more b o.other o.mid.on o.other_end h

  pub through_two_ends : (d : ℕ) (t : Step) → IsStep n w by_chain d t → mem x (inside t) ≡ true → a ≢ b
  through_two_ends d (leaf u v) p h q = elim p [ ]
  through_two_ends d (ring u z inner) p h q = elim p [ ]
  through_two_ends d (chain u v z inner) p h q =
      let i = p.1.row in
      let eu = end_way (first v inner) u (omega (arith, way_out g i, g.turned u (first v inner)))
      (on_ways i h (first v inner) (first_in g i)) p.1.first_end in
      let ev = end_way (last u inner) v (last_pair w u inner v i.live)
      (on_ways i h (last u inner) (last_inner u inner i.more)) p.1.last_end in
      omega (arith, p.1.ends, at u eu, at v ev)
    where
      at : (e : ℕ) → (e ≡ a) ⊎ (e ≡ b) → e ≡ a
      at e (inl k) = k
      at e (inr k) = k ∙ sym q
