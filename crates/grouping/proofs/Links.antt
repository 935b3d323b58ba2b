-- The cells of a class linked behind its first cell. In order: those of some cells that are not below k, and links that
-- stay where the words of their cells do (`leads_kept`); the cell that a number names (`named_some`); one cell more,
-- which stays as it is (`link_none`, `link_own`) or is put behind the first cell (`link_put`); the cells one by one
-- (`Linking`); the labels after levelling are ready (`link_there`), and at the end the links lead from a first cell
-- over its class (`linked_class`). Assumes nothing.
use mathlib.Core.Path.{◌≡◌, refl, sym, ap, subst, ◌∙◌}
use mathlib.Core.Logic.{◌⊎◌, inl, inr, ◌≢◌}
use mathlib.Core.Bool.{Bool, true, false, cond}
use mathlib.Core.List.{List, [], ◌∷◌}
use Rattle.std.specs.Prelude.{None, Some}
use Prim.Native.Nat.{ℕ, zero, suc, ◌+◌, ◌*◌, ◌-◌, ◌/◌, ◌%◌, ◌≤◌, ◌<◌, max}
use native.Mathlib.Omega.{arith}
use lib.Dec.{ltb}
use lib.ListN.{length, set, length-set}
use lib.Seq.{get_or-set_same, get_or-set_other}
use borrow.Author.Tests.{lt-ltb, le-ltb}
use Rattle.buffers.specs.Map.{at_labels, link_field}
use Rattle.matching.specs.Lists.{mem, All}
use Rattle.matching.specs.Pairs.{Points}
use Rattle.matching.specs.Graph.{Graph}
use Rattle.matching.proofs.Tests.{Test, pass, fail, is_test, eq_test, lt_test, fails}
use Rattle.matching.proofs.Members.{no_mem, mem_cases, mem_not}
use Rattle.matching.proofs.Alls.{all_map, all_mem}
use Rattle.matching.proofs.Where.{Rises, where_below, where_rises}
use Rattle.matching.proofs.Reached.{reached_own}
use Rattle.grouping.specs.Labels.{Labels, class, Levelled}
use Rattle.grouping.specs.Finding.{words_in, label_in, link_in, named, FrontKept, Leads, from, LinkThere, Linked}
use Rattle.grouping.proofs.Labelling.{front_none, front_set, front_all}
use Rattle.grouping.proofs.Classes.{class_in, class_out, class_cells, named_own}

-- ---- cells that are not below k

from_low : (k : ℕ) (xs : List ℕ) → All (λ x. k ≤ x) (from k xs)
from_low k [] = tt
from_low k (x ∷ xs) = go (lt_test x k) (from_low k xs)
  where
    go : {t : Bool} → Test (x < k) (k ≤ x) t → All (λ y. k ≤ y) (from k xs)
        → All (λ y. k ≤ y) (cond t (from k xs) (x ∷ from k xs))
    go (pass l) i = i
    go (fail l) i = (l, i)

from_each : (P : ℕ → Type 0) (k : ℕ) (xs : List ℕ) → All P xs → All P (from k xs)
from_each P k [] p = tt
from_each P k (x ∷ xs) p = go (ltb x k) (from_each P k xs p.1)
  where
    go : (t : Bool) → All P (from k xs) → All P (cond t (from k xs) (x ∷ from k xs))
    go true i = i
    go false i = (p.0, i)

from_all : (k : ℕ) (xs : List ℕ) → All (λ x. k ≤ x) xs → from k xs ≡ xs
from_all k [] p = refl
from_all k (x ∷ xs) p = rw (le-ltb x k p.0) (ap (λ ys. x ∷ ys) (from_all k xs p.1))

from_none : (k : ℕ) (xs : List ℕ) → All (λ x. x < k) xs → from k xs ≡ []
from_none k [] p = refl
from_none k (x ∷ xs) p = rw (lt-ltb x k p.0) (from_none k xs p.1)

-- whether c is one of them
from_out : (c : ℕ) (xs : List ℕ) → mem c xs ≡ false → from c xs ≡ from (suc c) xs
from_out c [] h = refl
from_out c (x ∷ xs) h = go (lt_test x c) (lt_test x (suc c)) (from_out c xs (mem_not c x xs h).1)
  where
    go : {s t : Bool} → Test (x < c) (c ≤ x) s → Test (x < suc c) (suc c ≤ x) t → from c xs ≡ from (suc c) xs
        → cond s (from c xs) (x ∷ from c xs) ≡ cond t (from (suc c) xs) (x ∷ from (suc c) xs)
    go (pass l) (pass m) i = i
    go (pass l) (fail m) i = absurd (omega arith)
    go (fail l) (pass m) i = absurd ((mem_not c x xs h).0 (omega arith))
    go (fail l) (fail m) i = ap (λ ys. x ∷ ys) i

from_in : (c : ℕ) (xs : List ℕ) → Rises xs → mem c xs ≡ true → from c xs ≡ c ∷ from (suc c) xs
from_in c [] r h = no_mem c h
from_in c (x ∷ xs) r h = go (mem_cases c x xs h) (from_in c xs r.1)
  where
    go : (x ≡ c) ⊎ (mem c xs ≡ true) → (mem c xs ≡ true → from c xs ≡ c ∷ from (suc c) xs)
        → from c (x ∷ xs) ≡ c ∷ from (suc c) (x ∷ xs)
    go (inl e) i =
        rw (e, le-ltb c c (omega arith), lt-ltb c (suc c) (omega arith)) (ap (λ ys. c ∷ ys) (from_out c xs none))
      where
        none : mem c xs ≡ false
        none = fails (is_test (mem c xs)) (λ m. let l = all_mem (λ y. x < y) xs r.0 c m in omega arith)
    go (inr m) i =
        let l = all_mem (λ y. x < y) xs r.0 c m in
        rw (lt-ltb x c l, lt-ltb x (suc c) (omega arith)) (i m)

pub leads_kept : (f g : ℕ → ℕ) (p : ℕ) (xs : List ℕ) → All (λ x. f x ≡ g x) xs → Leads f p xs → Leads g p xs
leads_kept f g p [] k h = h
leads_kept f g p (x ∷ xs) k h = (h.0, leads_kept f g (g x) xs k.1 (rw k.0 at h.1))

-- the cell that a label or a link names
pub named_none : (x : ℕ) → named x ≡ None → x ≡ 0
named_none zero e = refl
named_none (suc d) e = cc

pub named_some : (x d : ℕ) → named x ≡ Some d → x ≡ suc d
named_some zero d e = cc
named_some (suc c) d e = cc

-- ---- one cell more

-- a cell that does not name a cell below it is in no links
from_same : (n : ℕ) (l : Labels) (c d : ℕ) → (d < c → l c ≢ suc d)
    → from (max (suc c) (suc d)) (class n l d) ≡ from (max c (suc d)) (class n l d)
from_same n l c d f = go (lt_test d c)
  where
    go : {t : Bool} → Test (d < c) (c ≤ d) t
        → from (max (suc c) (suc d)) (class n l d) ≡ from (max c (suc d)) (class n l d)
    go (pass b) =
        let e : max (suc c) (suc d) ≡ suc c = omega arith in
        let q : max c (suc d) ≡ c = omega arith in
        rw (e, q) (sym (from_out c (class n l d) (class_out n l c d (f b))))
    go (fail b) = ap (λ (k : ℕ). from k (class n l d)) (omega arith)

-- The words with v at the cell c and u at the cell d.
abbrev pub put_behind : List ℕ → ℕ → ℕ → ℕ → ℕ → List ℕ
put_behind w2 c v d u = set (set w2 (at_labels + c) v) (at_labels + d) u

module _ {n : ℕ} {l : Labels} {c : ℕ} {w2 : List ℕ} (h : LinkThere n l (suc c) w2) where
  link_idle : ((d : ℕ) → d < c → l c ≢ suc d) → Linked n l c w2 w2
  link_idle f = record {
    there = record {
      room = h.room;
      cells = h.cells;
      within = omega (arith, h.within);
      labels = h.labels;
      low = h.low;
      first = h.first;
      links = λ d b e. rw (from_same n l c d (f d)) at (h.links d b e);
      small = h.small;
    };
    front = front_none;
  }

  -- no pairs, or the first cell
  pub link_none : named (label_in w2 c) ≡ None → Linked n l c w2 w2
  link_none e = link_idle (λ d b q. omega (arith, h.labels c h.within, named_none _ e, q))

  pub link_own : {d : ℕ} → named (label_in w2 c) ≡ Some d → d ≡ c → Linked n l c w2 w2
  link_own e z = link_idle (λ d b q. omega (arith, h.labels c h.within, named_some _ _ e, z, q))

  -- put behind the first cell d, whose word is now u; its own is v
  module _ (d : ℕ) (b : d < c) (e : l c ≡ suc d) (u v : ℕ) where
    put_cell : words_in (put_behind w2 c v d u) c ≡ v
    put_cell =
        get_or-set_other (set w2 (at_labels + c) v) (at_labels + d) (at_labels + c) u 0 (λ q. omega arith)
        ∙ get_or-set_same w2 (at_labels + c) v 0 (omega (arith, h.room, h.within, h.cells))

    put_first : words_in (put_behind w2 c v d u) d ≡ u
    put_first =
        get_or-set_same (set w2 (at_labels + c) v) (at_labels + d) u 0
        (omega (arith, length-set w2 (at_labels + c) v, h.room, h.within, h.cells))

    put_else : (x : ℕ) → x ≢ c → x ≢ d → words_in (put_behind w2 c v d u) x ≡ words_in w2 x
    put_else x p q =
        get_or-set_other (set w2 (at_labels + c) v) (at_labels + d) (at_labels + x) u 0 (λ z. q (omega arith))
        ∙ get_or-set_other w2 (at_labels + c) (at_labels + x) v 0 (λ z. p (omega arith))

    put_each : (P : ℕ → ℕ → Type 0) → P c v → P d u → ((x : ℕ) → x < n → P x (words_in w2 x))
        → (x : ℕ) → x < n → P x (words_in (put_behind w2 c v d u) x)
    put_each P pc pd p x m = go (eq_test x c) (eq_test x d)
      where
        go : {s t : Bool} → Test (x ≡ c) (x ≢ c) s → Test (x ≡ d) (x ≢ d) t → P x (words_in (put_behind w2 c v d u) x)
        go (pass q) y = rw (q, put_cell) pc
        go (fail f) (pass q) = rw (q, put_first) pd
        go (fail f) (fail k) = rw (put_else x f k) (p x m)

    module _ (ev : v ≡ suc d + link_in w2 d * link_field) (eu : u ≡ suc d + (c + 1) * link_field) where
      next : ℕ → ℕ
      next = link_in (put_behind w2 c v d u)

      own_name : l d ≡ suc d
      own_name = h.first c d h.within e

      few : d < 1024
      few = omega (arith, h.within, h.cells)

      put_here : Leads next (next d) (from (max c (suc d)) (class n l d))
      unfolding next
      put_here =
          let k : max c (suc d) ≡ c = omega arith in
          rw (k, from_in c (class n l d) (where_rises _ n) (class_in n l c d h.within e)) (on, after)
        where
          on : next d ≡ suc c
          on = omega (arith, put_first, eu, few)

          kept : All (λ x. link_in w2 x ≡ next x) (from (suc c) (class n l d))
          kept =
              all_map (λ x m. ap (λ z. z / link_field) (sym (put_else x (λ q. omega arith) (λ q. omega arith))))
              (from (suc c) (class n l d)) (from_low (suc c) (class n l d))

          before : Leads (link_in w2) (link_in w2 d) (from (suc c) (class n l d))
          before =
              let k : max (suc c) (suc d) ≡ suc c = omega arith in
              rw k at (h.links d (omega (arith, h.within)) own_name)

          after : Leads next (next c) (from (suc c) (class n l d))
          after =
              let k : link_in w2 d ≡ next c = omega (arith, put_cell, ev, few) in
              subst (λ p. Leads next p (from (suc c) (class n l d))) k
              (leads_kept (link_in w2) next (link_in w2 d) (from (suc c) (class n l d)) kept before)

      put_there : (x : ℕ) → x < n → l x ≡ suc x → x ≢ d → Leads next (next x) (from (max c (suc x)) (class n l x))
      unfolding next
      put_there x m q f =
          rw (from_same n l c x (λ _ z. f (omega (arith, e)))) at
          (subst (λ p. Leads next p cs) (same x q)
          (leads_kept (link_in w2) next (link_in w2 x) cs kept (h.links x m q)))
        where
          cs : List ℕ
          cs = from (max (suc c) (suc x)) (class n l x)

          same : (y : ℕ) → l y ≡ suc x → link_in w2 y ≡ next y
          same y p =
              ap (λ z. z / link_field)
              (sym (put_else y (λ z. f (omega (arith, e, p, ap l z))) (λ z. f (omega (arith, own_name, p, ap l z)))))

          kept : All (λ y. link_in w2 y ≡ next y) cs
          kept =
              from_each (λ y. link_in w2 y ≡ next y) (max (suc c) (suc x)) (class n l x)
              (all_map (λ y p. same y p.1) (class n l x) (class_cells n l x))

      put_links : (x : ℕ) → x < n → l x ≡ suc x → Leads next (next x) (from (max c (suc x)) (class n l x))
      put_links x m q = go (eq_test x d)
        where
          go : {t : Bool} → Test (x ≡ d) (x ≢ d) t → Leads next (next x) (from (max c (suc x)) (class n l x))
          go (pass z) = rw z put_here
          go (fail f) = put_there x m q f

      link_behind : Linked n l c w2 (put_behind w2 c v d u)
      unfolding next
      link_behind = record {
        there = record {
          room = omega (arith, h.room, long);
          cells = h.cells;
          within = omega (arith, h.within);
          labels = put_each (λ x z. z % link_field ≡ l x) (omega (arith, ev, few, e)) (omega (arith, eu, few, own_name))
              h.labels;
          low = h.low;
          first = h.first;
          links = put_links;
          small = put_each (λ x z. z / link_field ≤ 1024)
              (omega (arith, ev, few, h.small d (omega (arith, h.within))))
              (omega (arith, eu, few, h.within, h.cells)) h.small;
        };
        front = kept;
      }
        where
          kept : FrontKept w2 (put_behind w2 c v d u)
          kept = front_set (front_set front_none c v) d u

          long : length (put_behind w2 c v d u) ≡ length w2
          long = kept.long

  pub link_put : {d : ℕ} → named (label_in w2 c) ≡ Some d → d ≢ c
      → Linked n l c w2
      (put_behind w2 c (d + 1 + link_in w2 d * link_field) d (d + 1 + (c + 1) * link_field))
  link_put {d} e f =
      let q = h.labels c h.within in
      let s = named_some _ d e in
      link_behind d (omega (arith, q, h.low c h.within, f, s)) (sym q ∙ s) _ _ (omega arith) (omega arith)

-- ---- cell by cell

-- The cells from c on are linked.
pub record Linking (n c : ℕ) (w2 w2' : List ℕ) : Type 0 where
  pub front : FrontKept w2 w2'
  pub there : (l : Labels) → LinkThere n l n w2 → LinkThere n l c w2'

module _ {n c : ℕ} {w2 w2' : List ℕ} (s : Linking n c w2 w2') where
  pub linking_there : 0 < c → {l : Labels} → LinkThere n l n w2 → LinkThere n l (suc (c - 1)) w2'
  linking_there p {l} h = let e : suc (c - 1) ≡ c = omega arith in rw e (s.there l h)

  pub linking_more : 0 < c → {l : Labels} → LinkThere n l n w2 → {w2'' : List ℕ}
      → ((n : ℕ) (l : Labels) → LinkThere n l (suc (c - 1)) w2' → Linked n l (c - 1) w2' w2'')
      → Linking n (c - 1) w2 w2''
  linking_more p {l} h f = record {
    front = front_all s.front (f n l (linking_there p h)).front;
    there = λ k g. (f n k (linking_there p g)).there;
  }

  pub linking_last : c ≤ 0 → (l : Labels) → LinkThere n l n w2 → Linked n l 0 w2 w2'
  linking_last z l h = record {
    there = let e : c ≡ 0 = omega arith in rw e at (s.there l h);
    front = s.front;
  }

-- ---- before and after

pub link_there : {n : ℕ} {w : Points} {w2 : List ℕ} → Graph n w → n ≤ 1024 → 8192 ≤ length w2
    → Levelled n w (words_in w2) → LinkThere n (words_in w2) n w2
link_there {n} {w} {w2} g few room h = record {
  room = room;
  cells = few;
  within = omega arith;
  labels = λ c b. omega (arith, low c b);
  low = low;
  first = λ c d b e. named_own g h.sweeps (words_in w2) h.labelled h.level c d b e;
  links = λ d b e. none d b;
  small = λ c b. omega (arith, low c b);
}
  where
    low : (c : ℕ) → c < n → words_in w2 c ≤ suc c
    low c b = h.labelled.low c c b (reached_own n w c g b h.sweeps)

    none : (d : ℕ) → d < n → Leads (link_in w2) (link_in w2 d) (from (max n (suc d)) (class n (words_in w2) d))
    none d b =
        let k : max n (suc d) ≡ n = omega arith in
        rw (k, from_none n (class n (words_in w2) d) (where_below _ n)) (omega (arith, low d b))

pub linked_class : {n : ℕ} {l : Labels} {w2 : List ℕ} → LinkThere n l 0 w2 → (d : ℕ) → d < n → l d ≡ suc d
    → Leads (link_in w2) (suc d) (class n l d)
linked_class {n} {l} {w2} h d b e =
    subst (λ cs. Leads (link_in w2) (suc d) cs) (sym all) (refl, rest)
  where
    all : class n l d ≡ d ∷ from (suc d) (class n l d)
    all =
        sym (from_all d (class n l d) (all_map (λ c p. omega (arith, p.1, h.low c p.0)) (class n l d)
        (class_cells n l d)))
        ∙ from_in d (class n l d) (where_rises _ n) (class_in n l d d b e)

    rest : Leads (link_in w2) (link_in w2 d) (from (suc d) (class n l d))
    rest = let k : max 0 (suc d) ≡ suc d = omega arith in rw k at (h.links d b e)
