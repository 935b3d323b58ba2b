-- What the row of z shows where no ring and no chain is named by z. In order: the cells on the row of a step (`On`,
-- `OnAll`), which z is (`named_on`), and so is a partner of a cell on it that has degree two (`partner_on`); a lower
-- cell of degree two on it (`Lower`) and what it rules out (`lower_chain`, `lower_two`, `lower_other`); a row whose two
-- ways meet (`Passed`) and what that rules out (`met_chain`, `met_lowest`); the loop that walks both ways in turns
-- (`WayAt`, `Turns`). Assumes nothing.
use mathlib.Core.Path.{◌≡◌, refl, sym, ap, ◌∙◌, subst}
use mathlib.Core.Logic.{◌⊎◌, inl, inr, ◌≢◌, ⊎_map}
use mathlib.Core.Bool.{Bool, true, false, true≢false}
use mathlib.Core.List.{List, [], ◌∷◌}
use Prim.Native.Nat.{ℕ, ◌≤◌, ◌<◌}
use native.Mathlib.Omega.{arith}
use lib.ListN.{length}
use Rattle.std.specs.Prelude.{Option, None, Some, IfSome, is_some}
use Rattle.matching.specs.Lists.{mem}
use Rattle.matching.specs.Pairs.{Points, Each}
use Rattle.matching.specs.Best.{walk}
use Rattle.matching.specs.Graph.{Graph, partners, degree}
use Rattle.matching.specs.Steps.{Rule, by_leaf, by_ring, by_chain, Step, leaf, ring, chain}
use Rattle.matching.specs.Shapes.{IsRow, Lowest, IsRing, IsStep, first, last}
use Rattle.matching.proofs.Tests.{Test, pass, fail, is_test}
use Rattle.matching.proofs.Members.{mem_on, mem_head, mem_cases, mem_more, mem_one}
use Rattle.matching.proofs.Partners.{Between, between_only}
use Rattle.matching.proofs.Rows.{Run, is_run, run_outer, way_out, first_in, onward_between}
use Rattle.slots.specs.Slots.{Holds, graph_of, Joins}
use Rattle.slots.specs.Found.{Next}
use Rattle.slots.specs.declared.read.Other.{Other}
use Rattle.slots.proofs.Graphs.{holds_graph}
use Rattle.slots.proofs.Holding.{joins_pair}
use Rattle.slots.proofs.Scanning.{joins_turned}
use Rattle.finding.specs.Finding.{Unnamed}
use Rattle.finding.specs.Walks.{Onward}
use Rattle.finding.specs.declared.Stop.{Stop}
use Rattle.finding.proofs.Turned.{Back, back}
use Rattle.finding.proofs.Ways.{last_in}

-- ---- the cells on a row

-- The cell x is an inner cell or an end.
abbrev OnRow : ℕ → List ℕ → ℕ → ℕ → Type 0
OnRow u inner v x = (mem x inner ≡ true) ⊎ ((u ≡ x) ⊎ (v ≡ x))

abbrev pub On : Step → ℕ → Type 0
On (leaf u v) x = (u ≡ x) ⊎ (v ≡ x)
On (ring u z inner) x = OnRow u inner u x
On (chain u v z inner) x = OnRow u inner v x

-- The cell x is on every step of the rule that is named by z.
abbrev pub OnAll : Points → Rule → ℕ → ℕ → Type 0
OnAll w r z x = (s : Step) → IsStep 1024 w r z s → On s x

named_on : (w : Points) (r : Rule) (z : ℕ) → OnAll w r z z
named_on w by_leaf z (ring u y inner) p = elim p [ ]
named_on w by_leaf z (chain u v y inner) p = elim p [ ]
named_on w by_ring z (leaf u v) p = elim p [ ]
named_on w by_ring z (chain u v y inner) p = elim p [ ]
named_on w by_chain z (leaf u v) p = elim p [ ]
named_on w by_chain z (ring u y inner) p = elim p [ ]
named_on w by_leaf z (leaf u v) p = inr p.0
named_on w by_ring z (ring u y inner) p = inl (rw (← p.0) p.1.low.here)
named_on w by_chain z (chain u v y inner) p = inl (rw (← p.0) p.1.low.here)

-- the last pair of a walk
pub last_live : (w : Points) (u : ℕ) (cs : List ℕ) (v : ℕ) → Each (λ a b. 0 < w a b) (walk u cs v) → 0 < w (last u cs) v
last_live w u [] v p = p.0
last_live w u (c ∷ cs) v p = last_live w c cs v p.1

module _ {w : Points} (g : Graph 1024 w) where
  inner_next : {u v : ℕ} {inner : List ℕ} → IsRow 1024 w u inner v → (x y : ℕ) → mem x inner ≡ true → 0 < w x y
      → OnRow u inner v y
  inner_next {u} {v} {inner} r x y m h = go (is_test (mem y inner))
    where
      go : {t : Bool} → Test (mem y inner ≡ true) (mem y inner ≡ false) t → OnRow u inner v y
      go (pass q) = inl q
      go (fail o) = inr (⊎_map (λ k. k.0) (λ k. k.0) (run_outer g u inner v (is_run g r) x y m o h))

  -- a ring's u of degree two has two partners, the first and the last inner cell
  ring_between : {u z : ℕ} {inner : List ℕ} → IsRing 1024 w u z inner → degree 1024 w u ≡ 2
      → Between 1024 w (first u inner) u (last u inner)
  ring_between {u} {z} {inner} r two = record {
    two = two;
    back = way_out g r.row;
    on = omega (arith, last_live w u inner u r.row.live, g.turned u (last u inner));
    apart = λ e. (let l = r.towards in omega arith);
  }

  pub ring_next : {u z : ℕ} {inner : List ℕ} → IsRing 1024 w u z inner → degree 1024 w u ≡ 2 → (y : ℕ) → 0 < w u y
      → mem y inner ≡ true
  ring_next {u} {z} {inner} r two y h = go (between_only g (ring_between r two) y h)
    where
      last_inner : (cs : List ℕ) → 1 < length cs → mem (last u cs) cs ≡ true
      last_inner [] l = absurd (omega arith)
      last_inner (c ∷ cs) l = last_in c cs

      go : (first u inner ≡ y) ⊎ (last u inner ≡ y) → mem y inner ≡ true
      go (inl e) = rw (← e) (first_in g r.row)
      go (inr e) = rw (← e) (last_inner inner r.row.more)

  partner_on : (r : Rule) (z x y : ℕ) → r ≢ by_leaf → OnAll w r z x → degree 1024 w x ≡ 2 → 0 < w x y
      → OnAll w r z y
  partner_on by_ring z x y d on two h (leaf u v) p = elim p [ ]
  partner_on by_ring z x y d on two h (chain u v c inner) p = elim p [ ]
  partner_on by_chain z x y d on two h (leaf u v) p = elim p [ ]
  partner_on by_chain z x y d on two h (ring u c inner) p = elim p [ ]
  partner_on by_leaf z x y d on two h s p = absurd (d refl)
  partner_on by_ring z x y d on two h (ring u c inner) p = go (on (ring u c inner) p)
    where
      end : u ≡ x → OnRow u inner u y
      end e = inl (ring_next p.1 (rw e two) y (rw e h))

      go : OnRow u inner u x → OnRow u inner u y
      go (inl m) = inner_next p.1.row x y m h
      go (inr (inl e)) = end e
      go (inr (inr e)) = end e
  partner_on by_chain z x y d on two h (chain u v c inner) p = go (on (chain u v c inner) p)
    where
      go : OnRow u inner v x → OnRow u inner v y
      go (inl m) = inner_next p.1.row x y m h
      go (inr (inl e)) = absurd (p.1.first_end (rw e two))
      go (inr (inr e)) = absurd (p.1.last_end (rw e two))

-- ---- lower cells of degree two

-- The cell x of degree two is on the row and below z.
pub record Lower (w : Points) (r : Rule) (z x : ℕ) : Type 0 where
  pub on : OnAll w r z x
  pub below : x < z
  pub two : degree 1024 w x ≡ 2

-- on a chain it is an inner cell
chain_lower : {w : Points} {z x : ℕ} → Lower w by_chain z x → Unnamed w by_chain z
chain_lower {w = w} {z = z} {x = x} l (leaf u v) p = elim p [ ]
chain_lower {w = w} {z = z} {x = x} l (ring u _ inner) p = elim p [ ]
chain_lower {w} {z} {x} l (chain u v c inner) p = go (l.on (chain u v c inner) p)
  where
    go : OnRow u inner v x → ⊥
    go (inl m) = (let k = p.1.low.least x m in omega (arith, p.0, l.below))
    go (inr (inl e)) = p.1.first_end (rw e l.two)
    go (inr (inr e)) = p.1.last_end (rw e l.two)

-- on a ring it is u
ring_lower : {w : Points} {z x : ℕ} → Lower w by_ring z x
    → (u c : ℕ) (inner : List ℕ) → IsStep 1024 w by_ring z (ring u c inner) → u ≡ x
ring_lower {w} {z} {x} l u c inner p = go (l.on (ring u c inner) p)
  where
    go : OnRow u inner u x → u ≡ x
    go (inl m) = (let k = p.1.low.least x m in absurd (omega (arith, p.0, l.below)))
    go (inr (inl e)) = e
    go (inr (inr e)) = e

pub lower_chain : {w : Points} {r : Rule} {z x : ℕ} → r ≡ by_chain → Lower w r z x → Unnamed w r z
lower_chain e l = rw e (chain_lower (rw e at l))

pub lower_two : {w : Points} (r : Rule) {z x y : ℕ} → r ≢ by_leaf → Lower w r z x → Lower w r z y → x ≢ y
    → Unnamed w r z
lower_two {w = w} by_ring {z = z} {y = y} d l k n (leaf u v) p = elim p [ ]
lower_two {w = w} by_ring {z = z} {y = y} d l k n (chain u v _ inner) p = elim p [ ]
lower_two by_leaf d l k n s p = d refl
lower_two by_ring d l k n (ring u c inner) p = n (sym (ring_lower l u c inner p) ∙ ring_lower k u c inner p)
lower_two by_chain d l k n s p = chain_lower l s p

-- a ring's cell of another degree is u too
pub lower_other : {w : Points} (r : Rule) {z x : ℕ} (y : ℕ) → r ≢ by_leaf → Lower w r z x → OnAll w r z y
    → degree 1024 w y ≢ 2 → Unnamed w r z
lower_other {w = w} by_ring {z = z} {x = x} y d l on n (leaf u v) p = elim p [ ]
lower_other {w = w} by_ring {z = z} {x = x} y d l on n (chain u v _ inner) p = elim p [ ]
lower_other by_leaf y d l on n s p = d refl
lower_other {w} by_ring {z} {x} y d l on n (ring u c inner) p = go (on (ring u c inner) p)
  where
    end : u ≡ y → ⊥
    end e = n (ap (degree 1024 w) (sym e ∙ ring_lower l u c inner p) ∙ l.two)

    go : OnRow u inner u y → ⊥
    go (inl m) = n (p.1.row.two y m)
    go (inr (inl e)) = end e
    go (inr (inr e)) = end e
lower_other by_chain y d l on n s p = chain_lower l s p

-- ---- a ring of cells of degree two

-- what z has, and each cell hands on to its partners, the end u of a row with z inside has
row_spread : (P : ℕ → Type 0) {w : Points} → Graph 1024 w → ((x y : ℕ) → P x → 0 < w x y → P y)
    → {u v z : ℕ} {inner : List ℕ} → IsRow 1024 w u inner v → mem z inner ≡ true → P z → P u
row_spread P {w} g on {u} {v} {z} {inner} r m p = go z b.passed b.run b.way p
  where
    b : Back 1024 w u inner v z
    b = back 1024 w u inner v (is_run g r) z m

    go : (x : ℕ) (cs : List ℕ) → Run 1024 w x cs u → 0 < w x (first u cs) → P x → P u
    go x [] t h q = on x u q h
    go x (c ∷ cs) t h q = go c cs t.1 t.0.on (on x c q h)

-- The cells of degree two that both ways have passed, z among them; z is the lowest of them where no lower one was
-- seen. A partner of theirs was passed too, or a way stands at it.
pub record Passed (w : Points) (z last at next_last next_at : ℕ) (seen : Option ℕ) (past : List ℕ) : Type 0 where
  pub named : mem z past ≡ true
  pub here : mem last past ≡ true
  pub next : mem next_last past ≡ true
  pub two : (x : ℕ) → mem x past ≡ true → degree 1024 w x ≡ 2
  pub low : seen ≡ None → (x : ℕ) → mem x past ≡ true → z ≤ x
  pub onward : (x y : ℕ) → mem x past ≡ true → 0 < w x y → (mem y past ≡ true) ⊎ ((at ≡ y) ⊎ (next_at ≡ y))

module _ {w : Points} (g : Graph 1024 w) {z last at next_last next_at : ℕ} {seen : Option ℕ} {past : List ℕ}
    (p : Passed w z last at next_last next_at seen past) where
  -- the ways have met: a row with z inside ends at a cell that was passed
  met_end : at ≡ next_last → next_at ≡ last → {u v c : ℕ} {inner : List ℕ} → IsRow 1024 w u inner v
      → Lowest c inner → c ≡ z → mem u past ≡ true
  met_end a b r l q =
      row_spread (λ x. mem x past ≡ true) g (λ x y m h. go y (p.onward x y m h)) r l.here (rw q p.named)
    where
      go : (y : ℕ) → (mem y past ≡ true) ⊎ ((at ≡ y) ⊎ (next_at ≡ y)) → mem y past ≡ true
      go y (inl m) = m
      go y (inr (inl e)) = rw (← e, a) p.next
      go y (inr (inr e)) = rw (← e, b) p.here

  met_no_chain : at ≡ next_last → next_at ≡ last → Unnamed w by_chain z
  met_no_chain a b (leaf u v) s = elim s [ ]
  met_no_chain a b (ring u _ inner) s = elim s [ ]
  met_no_chain a b (chain u v c inner) s =
      s.1.first_end (p.two u (met_end a b s.1.row s.1.low s.0))

  pub met_chain : {r : Rule} → r ≡ by_chain → at ≡ next_last → next_at ≡ last → Unnamed w r z
  met_chain e a b = rw e (met_no_chain a b)

  -- z is the lowest of the ring
  pub met_lowest : (r : Rule) → r ≢ by_leaf → at ≡ next_last → next_at ≡ last → seen ≡ None → Unnamed w r z
  met_lowest by_ring d a b q (leaf u v) s = elim s [ ]
  met_lowest by_ring d a b q (chain u v _ inner) s = elim s [ ]
  met_lowest by_leaf d a b q s y = d refl
  met_lowest by_ring d a b q (ring u c inner) s = go s.1.at
    where
      m : mem u past ≡ true
      m = met_end a b s.1.row s.1.low s.0

      go : (degree 1024 w u ≢ 2) ⊎ (u < c) → ⊥
      go (inl n) = n (p.two u m)
      go (inr l) = omega (arith, p.low q u m, s.0)
  met_lowest by_chain d a b q s y = met_no_chain a b s y

-- ---- the loop that walks both ways

-- A way stands at a cell of the row.
pub record WayAt (e : ℕ) (w1 : List ℕ) (r : Rule) (z : ℕ) (s : Stop) : Type 0 where
  pub joins : Joins e w1 s.slot s.last s.end
  pub below : s.end < 1024
  pub on : OnAll (graph_of e w1) r z s.end

some_none : {x : ℕ} → ◌≡◌ {A = Option ℕ} (Some x) None → ⊥
some_none q = (let y : ◌≡◌ {A = ℕ} 0 1 = cc in omega arith)

pub seen_some : {P : ℕ → Type 0} (o : Option ℕ) → IfSome o P → is_some o ≡ true → (c : ℕ) × P c
seen_some None p q = absurd (true≢false (sym q))
seen_some (Some c) p q = (c, p)

-- Both ways, the lower cell that was seen, if one was, and the cells that were passed.
pub record Turns (e : ℕ) (w1 : List ℕ) (r : Rule) (z : ℕ) (way other : Stop) (seen : Option ℕ) : Type 0 where
  pub here : WayAt e w1 r z way
  pub next : WayAt e w1 r z other
  pub lower : IfSome seen (Lower (graph_of e w1) r z)
  pub past : List ℕ
  pub passed : Passed (graph_of e w1) z way.last way.end other.last other.end seen past

module _ {e : ℕ} {w1 w2 : List ℕ} {r : Rule} (h : Holds e w1 w2) (d : r ≢ by_leaf) where
  abbrev w : Points
  w = graph_of e w1

  -- the partner of a cell of degree two on the row
  stands : {z : ℕ} {s : Stop} → OnAll w r z s.last → degree 1024 w s.last ≡ 2 → Joins e w1 s.slot s.last s.end
      → s.end < 1024 → WayAt e w1 r z s
  stands {z} {s} on two j l = record {
    joins = j;
    below = l;
    on = partner_on (holds_graph h) r z s.last s.end d on two (joins_pair h j);
  }

  goes_on : {z : ℕ} {s t : Stop} → OnAll w r z s.end → degree 1024 w s.end ≡ 2 → Onward e w1 s t → WayAt e w1 r z t
  goes_on on two o = stands (rw o.last on) (rw o.last two) (rw o.last o.next.joins) o.next.below

  -- the two partners of a cell of degree two
  next_only : {x prev slot : ℕ} {s : Other} → degree 1024 w x ≡ 2 → Joins e w1 slot x prev → Next e w1 x prev s
      → (y : ℕ) → 0 < w x y → (prev ≡ y) ⊎ (s.partner ≡ y)
  next_only {x} {prev} {slot} {s} two j n y l = go (partners 1024 w x) refl
    where
      go : (ps : List ℕ) → partners 1024 w x ≡ ps → (prev ≡ y) ⊎ (s.partner ≡ y)
      go [] q = absurd (omega (arith, ap length q))
      go (a ∷ []) q = absurd (omega (arith, ap length q))
      go (a ∷ b ∷ []) q =
          rw (n.partner a b q)
          (between_only (holds_graph h) (onward_between (holds_graph h) prev x a b q (joins_pair h j)) y l)
      go (a ∷ b ∷ c ∷ ps) q = absurd (omega (arith, ap length q))

  pub turns_start : {z f i : ℕ} → degree 1024 w z ≡ 2 → Joins e w1 i z f → f < 1024
      → {t : Stop} → Onward e w1 (record { end = z; last = f; slot = i }) t
      → Turns e w1 r z (record { end = f; last = z; slot = i }) t None
  turns_start {z} two j l {t} o =
      let on = named_on w r z in
      let here = mem_head z z [] refl in
      record {
        here = stands on two j l;
        next = goes_on on two o;
        lower = tt;
        past = z ∷ [];
        passed = record {
          named = here;
          here = here;
          next = mem_head t.last z [] (sym o.last);
          two = λ x m. rw (← mem_one x z m) two;
          low = λ q x m. omega (arith, mem_one x z m);
          onward = λ x y m k. inr (next_only two j o.next y (rw (mem_one x z m) k));
        };
      }

  -- the way whose turn it is goes on, and the other has its turn
  pub turns_on : {z : ℕ} {seen seen' : Option ℕ} {way other : Stop} → Turns e w1 r z way other seen → degree 1024 w
      way.end ≡ 2
      → ((way.end < z) × (seen' ≡ Some way.end)) ⊎ ((z ≤ way.end) × (seen' ≡ seen)) → {t : Stop} → Onward e w1 way t
      → Turns e w1 r z other t seen'
  turns_on {z} {seen} {seen'} {way} {other} s two k {t} o =
      record {
        here = s.next;
        next = goes_on s.here.on two o;
        lower = go k;
        past = way.end ∷ s.past;
        passed = record {
          named = mem_on z way.end s.past p.named;
          here = mem_on other.last way.end s.past p.next;
          next = mem_head t.last way.end s.past (sym o.last);
          two = mem_more (λ x. degree 1024 w x ≡ 2) way.end s.past two p.two;
          low = low k;
          onward = λ x y m l. onward y (mem_cases x way.end s.past m) l;
        };
      }
    where
      p : Passed w z way.last way.end other.last other.end seen s.past
      p = s.passed

      go : ((way.end < z) × (seen' ≡ Some way.end)) ⊎ ((z ≤ way.end) × (seen' ≡ seen)) → IfSome seen' (Lower w r z)
      go (inl q) = rw q.1 (record { on = s.here.on; below = q.0; two = two })
      go (inr q) = rw q.1 s.lower

      low : ((way.end < z) × (seen' ≡ Some way.end)) ⊎ ((z ≤ way.end) × (seen' ≡ seen)) → seen' ≡ None
          → (x : ℕ) → mem x (way.end ∷ s.past) ≡ true → z ≤ x
      low (inl q) u = absurd (some_none (sym q.1 ∙ u))
      low (inr q) u = mem_more (λ x. z ≤ x) way.end s.past q.0 (p.low (sym q.1 ∙ u))

      onward : {x : ℕ} (y : ℕ) → (way.end ≡ x) ⊎ (mem x s.past ≡ true) → 0 < w x y
          → (mem y (way.end ∷ s.past) ≡ true) ⊎ ((other.end ≡ y) ⊎ (t.end ≡ y))
      onward y (inl q) l =
          ⊎_map (λ i. subst (λ x. mem x (way.end ∷ s.past) ≡ true) i (mem_on way.last way.end s.past p.here)) inr
          (next_only two (joins_turned s.here.joins) o.next y (rw q l))
      onward {x} y (inr m) l = beyond (p.onward x y m l)
        where
          beyond : (mem y s.past ≡ true) ⊎ ((way.end ≡ y) ⊎ (other.end ≡ y))
              → (mem y (way.end ∷ s.past) ≡ true) ⊎ ((other.end ≡ y) ⊎ (t.end ≡ y))
          beyond (inl i) = inl (mem_on y way.end s.past i)
          beyond (inr (inl i)) = inl (mem_head y way.end s.past i)
          beyond (inr (inr i)) = inr (inl i)
