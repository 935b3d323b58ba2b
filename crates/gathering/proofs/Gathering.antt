-- What is gathered in the second buffer. In order: words of a part (`only_set`, `only_then`); the starts of the runs
-- stored one by one (`StartsTo`); words set to zero; the cells that links lead over, stored one by one (`Walked`); what
-- is found at a row; the rows of the cell at a place met in order, so that the points found and stored are the graph's
-- (`RowTo`); the points of the places, one place after the other (`RowsTo`). Assumes nothing.
use mathlib.Core.Path.{◌≡◌, refl, sym, ap, ◌∙◌}
use mathlib.Core.Logic.{◌⊎◌, inl, inr, ◌≢◌}
use mathlib.Core.Bool.{Bool, true, false}
use mathlib.Core.List.{List, [], ◌∷◌}
use Rattle.std.specs.Prelude.{Option, None, Some}
use Prim.Native.Nat.{ℕ, zero, suc, ◌+◌, ◌*◌, ◌-◌, ◌/◌, ◌%◌, ◌≤◌, ◌<◌}
use native.Mathlib.Omega.{arith}
use native.Mathlib.Numerals.{add-one}
use lib.ListN.{length, get_or, set, drop, length-set}
use lib.ListN.{length-replicate}
use Rattle.std.proofs.lemmas.List.{get_or-take, get_or-drop}
use lib.Seq.{get_or-set_same, get_or-set_other}
use borrow.Rule.Slice.PartMut.{mid_of, put_mid, same_len_mid, mid_len, take_put, drop_put}
use borrow.Author.Tests.{lt-ltb, le-ltb, eq-eqb, ne_eqb}
use Rattle.buffers.specs.Map.{unit, at_starts, at_points, at_places, at_labels, link_field}
use Rattle.buffers.specs.Buffers.{zeros}
use Rattle.matching.specs.Lists.{mem}
use Rattle.matching.specs.Pairs.{Points}
use Rattle.matching.specs.Listed.{short_below, short_list}
use Rattle.matching.proofs.Tests.{Test, pass, fail, is_test, eq_test, lt_test, fails}
use Rattle.matching.proofs.Members.{clash, mem_past}
use Rattle.matching.proofs.Alls.{all_map, all_mem, all_members}
use Rattle.matching.proofs.Where.{Rises, all_place, rises_place}
use Rattle.cellfile.specs.Words.{no_entry, row_word, points_room}
use Rattle.grouping.specs.Finding.{link_in, named, Leads}
use Rattle.grouping.proofs.Links.{named_none, named_some}
use Rattle.gathering.specs.Gathered.{cell_in, points_in, Only, RunEnd, StartsThere, LinksThere, Gathers}
use Rattle.gathering.specs.Gathered.{points_between, PlacesThere, RowIn, PointsIn}
use Rattle.gathering.proofs.Runs.{before, run_few, run_skip, run_longer, run_within, run_met, run_missed}
use Rattle.gathering.proofs.Runs.{run_ends}

-- ---- words of a part

pub only_none : (k m : ℕ) (w2 : List ℕ) → Only k m w2 w2
only_none k m w2 = record { long = refl; same = λ j z. refl }

pub only_set : {k m : ℕ} {w2 w2' : List ℕ} → Only k m w2 w2' → (t v : ℕ) → k ≤ t → t < m → Only k m w2 (set w2' t v)
only_set {k} {m} {w2} {w2'} o t v l h = record {
  long = length-set w2' t v ∙ o.long;
  same = λ j z. get_or-set_other w2' t j v 0 (off j z) ∙ o.same j z;
}
  where
    off : (j : ℕ) → (j < k) ⊎ (m ≤ j) → j ≢ t
    off j (inl z) = λ e. omega arith
    off j (inr z) = λ e. omega arith

only_then : {k m k' m' : ℕ} {w2 w2' w2'' : List ℕ} → Only k m w2 w2' → Only k' m' w2' w2'' → k ≤ k' → m' ≤ m
    → Only k m w2 w2''
only_then {k} {m} {k'} {m'} o p l h = record {
  long = p.long ∙ o.long;
  same = λ j z. p.same j (wider j z) ∙ o.same j z;
}
  where
    wider : (j : ℕ) → (j < k) ⊎ (m ≤ j) → (j < k') ⊎ (m' ≤ j)
    wider j (inl z) = inl (omega arith)
    wider j (inr z) = inr (omega arith)

-- ---- the starts of the runs

-- Those of the cells below a are stored, and i is that of a.
pub record StartsTo (n : ℕ) (w : Points) (a i : ℕ) (w2 w2' : List ℕ) : Type 0 where
  pub at : i ≡ length (short_below n w a)
  pub starts : (b : ℕ) → b < a → get_or w2' (at_starts + b) 0 ≡ length (short_below n w b)
  pub only : Only at_starts at_points w2 w2'

module _ {n : ℕ} {w : Points} {r a i : ℕ} {w1 w2 w2' : List ℕ} (h : StartsThere n w r w1 w2)
    (g : StartsTo n w a i w2 w2') where
  pub starts_more : {j : ℕ} → a < n → RunEnd i r a w1 j → StartsTo n w (a + 1) j w2 (set w2' (at_starts + a) i)
  starts_more {j} l e = record {
    at = rw add-one (run_ends n w h.rows l (rw g.at at e));
    starts = λ b m. at b m (eq_test b a);
    only = only_set g.only (at_starts + a) i (omega arith) (omega (arith, h.cells));
  }
    where
      at : (b : ℕ) → b < a + 1 → {t : Bool} → Test (b ≡ a) (b ≢ a) t
          → get_or (set w2' (at_starts + a) i) (at_starts + b) 0 ≡ length (short_below n w b)
      at b m (pass q) =
          rw q (get_or-set_same w2' (at_starts + a) i 0 (omega (arith, h.room2, h.cells, g.only.long)) ∙ g.at)
      at b m (fail d) =
          get_or-set_other w2' (at_starts + a) (at_starts + b) i 0 (λ q. d (omega arith))
          ∙ g.starts b (omega (arith, d))

-- ---- words set to zero

pub part_blank : (a e : ℕ) (w ys : List ℕ) → a ≤ e → e ≤ length w → ys ≡ zeros (length (mid_of a (e - a) w))
    → Only a e w (put_mid a (e - a) w ys)
part_blank a e w ys n l z = record { long = same_len_mid a (e - a) w ys wide; same = same }
  where
    wide : length ys ≡ length (mid_of a (e - a) w)
    wide = ap length z ∙ length-replicate {A = ℕ} (length (mid_of a (e - a) w)) 0

    same : (j : ℕ) → (j < a) ⊎ (e ≤ j) → get_or (put_mid a (e - a) w ys) j 0 ≡ get_or w j 0
    same j (inl m) =
        sym (get_or-take a (put_mid a (e - a) w ys) j 0 m)
        ∙ ap (λ (xs : List ℕ). get_or xs j 0) (take_put a (e - a) w ys (omega arith))
        ∙ get_or-take a w j 0 m
    same j (inr m) =
        let q : e + (j - e) ≡ j = omega arith in
        let h = get_or-drop e (put_mid a (e - a) w ys) (j - e) 0 in
        let k = get_or-drop e w (j - e) 0 in
        sym (rw q at h)
        ∙ ap (λ (xs : List ℕ). get_or xs (j - e) 0) (drop_put a e w ys n l (wide ∙ mid_len a e w l))
        ∙ rw q at k

-- ---- the cells that links lead over

-- Where the links lead on, the next cell is the one at place k.
leads_next : (next : ℕ → ℕ) (p : ℕ) (cs : List ℕ) (k : ℕ) → p ≢ 0 → Leads next p (drop k cs)
    → (k < length cs) × (p ≡ suc (get_or cs k 0)) × Leads next (next (get_or cs k 0)) (drop (suc k) cs)
leads_next next p [] zero n h = absurd (n h)
leads_next next p (c ∷ cs) zero n h = (omega arith, h.0, h.1)
leads_next next p [] (suc k) n h = absurd (n h)
leads_next next p (c ∷ cs) (suc k) n h =
    let i = leads_next next p cs k n h in
    (omega (arith, i.0), i.1, i.2)

-- Where they do not, there are no more than k.
leads_end : (next : ℕ → ℕ) (cs : List ℕ) (k : ℕ) → Leads next 0 (drop k cs) → length cs ≤ k
leads_end next [] k h = omega arith
leads_end next (c ∷ cs) zero h = absurd (omega (arith, h.0))
leads_end next (c ∷ cs) (suc k) h = omega (arith, leads_end next cs k h)

-- The first k cells are stored, and c is the next one.
pub record Walked (cs : List ℕ) (w2 w2' : List ℕ) (k c : ℕ) : Type 0 where
  pub within : k < length cs
  pub here : c ≡ get_or cs k 0
  pub leads : Leads (link_in w2) (link_in w2 c) (drop (suc k) cs)
  pub cells : (i : ℕ) → i < k → cell_in w2' i ≡ get_or cs i 0
  pub others : (i : ℕ) → i < 12 → (cell_in w2' i < 1024) ⊎ (cell_in w2' i ≡ cell_in w2 i)
  pub only : Only at_places (at_places + 12) w2 w2'

module _ {cs : List ℕ} {d : ℕ} {w2 w2' : List ℕ} {k c : ℕ} (h : LinksThere cs d w2) (g : Walked cs w2 w2' k c) where
  pub walk_low : c < 1024
  walk_low = omega (arith, g.here, all_place (λ x. x < 1024) cs h.low k g.within)

  -- c is stored
  module _ (l : k < 12) where
    abbrev after : List ℕ
    after = set w2' (at_places + k) c

    kept : (j : ℕ) → j ≢ at_places + k → get_or after j 0 ≡ get_or w2' j 0
    kept j o = get_or-set_other w2' (at_places + k) j c 0 o

    set_here : cell_in after k ≡ c
    set_here = get_or-set_same w2' (at_places + k) c 0 (omega (arith, h.room2, g.only.long))

    link : link_in after c ≡ link_in w2 c
    link =
        ap (λ x. x / link_field)
        (kept (at_labels + c) (λ e. omega arith) ∙ g.only.same (at_labels + c) (inr (omega arith)))

    all : (i : ℕ) → i < k + 1 → cell_in after i ≡ get_or cs i 0
    all i m = go (eq_test i k)
      where
        go : {t : Bool} → Test (i ≡ k) (i ≢ k) t → cell_in after i ≡ get_or cs i 0
        go (pass e) = rw e (set_here ∙ g.here)
        go (fail o) = kept (at_places + i) (λ e. o (omega arith)) ∙ g.cells i (omega (arith, o))

    old : (i : ℕ) → i < 12 → (cell_in after i < 1024) ⊎ (cell_in after i ≡ cell_in w2 i)
    old i m = go (eq_test i k)
      where
        go : {t : Bool} → Test (i ≡ k) (i ≢ k) t → (cell_in after i < 1024) ⊎ (cell_in after i ≡ cell_in w2 i)
        go (pass e) = inl (rw e (omega (arith, set_here, walk_low)))
        go (fail o) = rw (kept (at_places + i) (λ e. o (omega arith))) (g.others i m)

    still : Only at_places (at_places + 12) w2 after
    still = only_set g.only (at_places + k) c (omega arith) (omega arith)

    pub walk_more : {n : ℕ} → named (link_in after c) ≡ Some n → Walked cs w2 after (k + 1) n
    walk_more {n} e =
        let s : link_in w2 c ≡ suc n = sym link ∙ named_some _ n e in
        let x = leads_next (link_in w2) (link_in w2 c) cs (suc k) (λ z. omega (arith, s, z)) g.leads in
        let y : get_or cs (suc k) 0 ≡ n = omega (arith, s, x.1) in
        record {
          within = omega (arith, x.0);
          here = rw add-one (sym y);
          leads = rw add-one (rw y at x.2);
          cells = all;
          others = old;
          only = still;
        }

    pub walk_last : named (link_in after c) ≡ None → Gathers cs w2 after (Some (k + 1))
    walk_last e =
        let z : link_in w2 c ≡ 0 = sym link ∙ named_none _ e in
        record {
          told = (
            omega arith,
            omega (arith, g.within, leads_end (link_in w2) cs (suc k) (rw z at g.leads)),
            all,
          );
          others = old;
          only = still;
        }

-- Between neighbours is no member.
between : (cs : List ℕ) → Rises cs → (j b : ℕ) → suc j < length cs → get_or cs j 0 < b → b < get_or cs (suc j) 0
    → mem b cs ≡ false
between [] a j b l m o = absurd (omega arith)
between (x ∷ []) a j b l m o = absurd (omega arith)
between (x ∷ y ∷ ys) a zero b l m o =
    mem_past b x (y ∷ ys) (λ e. omega arith) ∙ fails (is_test (mem b (y ∷ ys))) (λ h. omega (arith, above h))
  where
    above : mem b (y ∷ ys) ≡ true → y ≤ b
    above = all_mem (λ z. y ≤ z) (y ∷ ys) (omega arith, all_map (λ z k. omega arith) ys a.1.0) b
between (x ∷ y ∷ ys) a (suc j) b l m o =
    mem_past b x (y ∷ ys) (λ e. omega (arith, all_place (λ z. x < z) (y ∷ ys) a.0 j (omega arith)))
    ∙ between (y ∷ ys) a.1 j b (omega arith) m o

-- What is found at a row.
module _ (w1 : List ℕ) (e end b : ℕ) where
  points_none : end ≤ e → points_between w1 e end b ≡ None
  points_none l = rw (le-ltb e end l)

  points_other : e < end → get_or w1 e 0 / unit ≢ b → points_between w1 e end b ≡ None
  points_other l d = rw (lt-ltb e end l, ne_eqb (get_or w1 e 0 / unit) b d)

  points_own : e < end → get_or w1 e 0 / unit ≡ b → points_between w1 e end b ≡ Some (get_or w1 e 0 % unit)
  points_own l q = rw (lt-ltb e end l, eq-eqb (get_or w1 e 0 / unit) b q)

-- Points, if they are not 0.
abbrev some_points : ℕ → Option ℕ
some_points zero = None
some_points (suc x) = Some (suc x)

some_pass : (x : ℕ) → 0 < x → some_points x ≡ Some x
some_pass zero l = absurd (omega arith)
some_pass (suc x) l = refl

some_is : (x y : ℕ) → some_points x ≡ Some y → (y ≡ x) × (0 < x)
some_is zero y e = cc
some_is (suc x) y e = (cc, omega arith)

some_none : (x : ℕ) → some_points x ≡ None → x ≡ 0
some_none zero e = refl
some_none (suc x) e = cc

-- The points from place i to those behind it and before j are stored, and before the row e stand those of the lower
-- cells and those of the cell at place i with cells below that at place j.
pub record RowTo (n : ℕ) (w : Points) (cs : List ℕ) (k i e j : ℕ) (w2 w2' : List ℕ) : Type 0 where
  pub row : RowIn w cs j i w2 w2'
  pub met : j < k → e ≡ before n w (get_or cs i 0) (get_or cs j 0)

module _ {w : Points} {cs : List ℕ} {k : ℕ} {w1 w2 : List ℕ} (p : PlacesThere w cs k w1 w2) where
  low : (j : ℕ) → j < k → get_or cs j 0 < p.n
  low j m = all_place (λ c. c < p.n) cs p.low j (omega (arith, p.count))

  rising : (h j : ℕ) → h < j → j < k → get_or cs h 0 < get_or cs j 0
  rising h j m b = rises_place cs p.rise h j m (omega (arith, p.count))

  -- the cell at place i, of which the run starts and ends within the rows
  module _ (i : ℕ) (l : i + 1 < k) where
    inner : suc (get_or cs i 0) < p.n
    inner = omega (arith, rising i (i + 1) (omega arith) l, low (i + 1) l)

    start : get_or w2 (at_starts + cell_in w2 i) 0 ≡ length (short_below p.n w (get_or cs i 0))
    start = rw (p.places i (omega arith)) (p.starts (get_or cs i 0) (omega (arith, inner)))

    end : get_or w2 (at_starts + cell_in w2 i + 1) 0 ≡ length (short_below p.n w (suc (get_or cs i 0)))
    end =
        let e : at_starts + get_or cs i 0 + 1 ≡ at_starts + suc (get_or cs i 0) = omega arith in
        rw (p.places i (omega arith), e) (p.starts (suc (get_or cs i 0)) inner)

    pub row_few : get_or w2 (at_starts + cell_in w2 i + 1) 0 ≤ 4096
    row_few = omega (arith, end, run_few p.n w (get_or cs i 0) (omega (arith, inner)), p.most)

    -- the cells between two neighbours
    apart : (j : ℕ) → suc j < k → (b : ℕ) → get_or cs j 0 < b → b < get_or cs (suc j) 0 → w (get_or cs i 0) b ≡ 0
    apart j m b x y = go (lt_test 0 (w (get_or cs i 0) b))
      where
        go : {t : Bool} → Test (0 < w (get_or cs i 0) b) (w (get_or cs i 0) b ≤ 0) t → w (get_or cs i 0) b ≡ 0
        go (pass h) =
            clash (sym (p.closed (get_or cs i 0) b h)
            ∙ all_place (λ c. mem c cs ≡ true) cs (all_members cs) i (omega (arith, p.count)))
            (between cs p.rise j b (omega (arith, p.count)) x y)
        go (fail h) = omega arith

    pub row_none : RowTo p.n w cs k i (get_or w2 (at_starts + cell_in w2 i) 0) (i + 1) w2 w2
    row_none = record {
      row = record {
        points = λ j m b. absurd (omega arith);
        light = p.light;
        only = only_none (at_points + 12 * i) (at_points + 12 * i + 12) w2;
      };
      met = λ b. start ∙ sym (run_skip p.n w (get_or cs i 0) 0 (get_or cs (i + 1) 0) (omega arith)
          (λ c x y. skip c y (lt_test (get_or cs i 0) c)) ∙ omega arith);
    }
      where
        skip : (c : ℕ) → c < get_or cs (i + 1) 0 → {t : Bool} → Test (get_or cs i 0 < c) (c ≤ get_or cs i 0) t
            → (c ≤ get_or cs i 0) ⊎ (w (get_or cs i 0) c ≡ 0)
        skip c y (pass x) = inr (apart i (omega arith) c x (rw add-one at y))
        skip c y (fail x) = inl x

    module _ {e j : ℕ} {w2' : List ℕ} (g : RowTo p.n w cs k i e j w2 w2') (m : i < j) (b : j < k) where
      row_cell : cell_in w2' j ≡ get_or cs j 0
      row_cell = g.row.only.same (at_places + j) (inr (omega (arith, p.few))) ∙ p.places j b

      -- the points found are the graph's
      found : points_between w1 e (get_or w2 (at_starts + cell_in w2 i + 1) 0) (cell_in w2' j)
          ≡ some_points (w (get_or cs i 0) (get_or cs j 0))
      found = rw (row_cell, end, g.met b) (go (lt_test 0 (w a c)))
        where
          a : ℕ
          a = get_or cs i 0

          c : ℕ
          c = get_or cs j 0

          at : ℕ
          at = before p.n w a c

          stop : ℕ
          stop = length (short_below p.n w (suc a))

          word : at < stop → get_or w1 at 0 ≡ row_word (get_or (short_list p.n w) at no_entry)
          word q = p.rows at (omega (arith, run_few p.n w a (omega (arith, inner))))

          other : w a c ≡ 0 → {t : Bool} → Test (at < stop) (stop ≤ at) t → points_between w1 at stop c ≡ None
          other z (pass q) =
              let f = run_missed p.n w a c (omega (arith, inner)) (low j b) z q in
              points_other w1 at stop c q
              (λ y. omega (arith, word q, f, p.small a (get_or (short_list p.n w) at no_entry).1))
          other z (fail q) = points_none w1 at stop c q

          go : {t : Bool} → Test (0 < w a c) (w a c ≤ 0) t → points_between w1 at stop c ≡ some_points (w a c)
          go (pass h) =
              let q = run_within p.n w a c (omega (arith, inner)) (low j b) (rising i j m b) h in
              let f = run_met p.n w a c (omega (arith, inner)) (low j b) (rising i j m b) h in
              let y : get_or w1 at 0 ≡ c * unit + w a c = word q ∙ ap row_word f in
              let u : get_or w1 at 0 % unit ≡ w a c = omega (arith, p.small a c) in
              points_own w1 at stop c q (omega (arith, p.small a c)) ∙ ap Some u ∙ sym (some_pass (w a c) h)
          go (fail h) =
              let z : w a c ≡ 0 = omega arith in
              other z (lt_test at stop) ∙ sym (ap some_points z)

      before_next : suc j < k → before p.n w (get_or cs i 0) (get_or cs (suc j) 0)
          ≡ before p.n w (get_or cs i 0) (suc (get_or cs j 0))
      before_next q =
          run_skip p.n w (get_or cs i 0) (suc (get_or cs j 0)) (get_or cs (suc j) 0) (rising j (suc j) (omega arith) q)
          (λ c x y. inr (apart j q c x y))

      before_same : w (get_or cs i 0) (get_or cs j 0) ≡ 0
          → before p.n w (get_or cs i 0) (suc (get_or cs j 0)) ≡ before p.n w (get_or cs i 0) (get_or cs j 0)
      before_same z =
          run_skip p.n w (get_or cs i 0) (get_or cs j 0) (suc (get_or cs j 0)) (omega arith)
          (λ c x y. inr (let q : c ≡ get_or cs j 0 = omega arith in rw q z))

      stored : {x : ℕ} → x ≡ w (get_or cs i 0) (get_or cs j 0)
          → RowIn w cs (j + 1) i w2 (set w2' (at_points + (12 * i + j)) x)
      stored {x} v = record {
        points = λ h y q. at h y q (eq_test h j);
        light = λ h q. small h q (eq_test (at_points + h) t);
        only = only_set g.row.only t x (omega arith) (omega (arith, p.few));
      }
        where
          t : ℕ
          t = at_points + (12 * i + j)

          here : get_or (set w2' t x) t 0 ≡ x
          here = get_or-set_same w2' t x 0 (omega (arith, p.few, p.room2, g.row.only.long))

          at : (h : ℕ) → i < h → h < j + 1 → {u : Bool} → Test (h ≡ j) (h ≢ j) u
              → points_in (set w2' t x) i h ≡ w (get_or cs i 0) (get_or cs h 0)
          at h y q (pass z) = rw z (here ∙ v)
          at h y q (fail d) =
              get_or-set_other w2' t (at_points + (12 * i + h)) x 0 (λ z. d (omega arith))
              ∙ g.row.points h y (omega (arith, d))

          small : (h : ℕ) → h < 144 → {u : Bool} → Test (at_points + h ≡ t) (at_points + h ≢ t) u
              → get_or (set w2' t x) (at_points + h) 0 < points_room
          small h q (pass z) = rw z (omega (arith, here, v, p.small (get_or cs i 0) (get_or cs j 0)))
          small h q (fail d) = rw (get_or-set_other w2' t (at_points + h) x 0 d) (g.row.light h q)

      -- the row at e was met, or it was not
      module _ {x : ℕ}
          (v : points_between w1 e (get_or w2 (at_starts + cell_in w2 i + 1) 0) (cell_in w2' j) ≡ Some x) where
        met : (x ≡ w (get_or cs i 0) (get_or cs j 0)) × (0 < w (get_or cs i 0) (get_or cs j 0))
        met = some_is _ x (sym found ∙ v)

        pub row_in : RowTo p.n w cs k i (e + 1) (j + 1) w2 (set w2' (at_points + (12 * i + j)) x)
        row_in = record {
          row = stored met.0;
          met = λ q.
              let z : e + 1 ≡ suc e = omega arith in
              rw (z, add-one j, before_next (omega arith))
              (ap suc (g.met b) ∙ sym (run_longer p.n w (get_or cs i 0) (get_or cs j 0) (omega (arith, inner)) (low j b)
              (rising i j m b) met.1));
        }

      pub row_out : points_between w1 e (get_or w2 (at_starts + cell_in w2 i + 1) 0) (cell_in w2' j) ≡ None
          → RowTo p.n w cs k i e (j + 1) w2 (set w2' (at_points + (12 * i + j)) 0)
      row_out v =
          let z = some_none _ (sym found ∙ v) in
          record {
            row = stored (sym z);
            met = λ q. rw (add-one j, before_next (omega arith), before_same z) (g.met b);
          }

pub row_all : {n : ℕ} {w : Points} {cs : List ℕ} {k i e j : ℕ} {w2 w2' : List ℕ} → RowTo n w cs k i e j w2 w2' → k ≤ j
    → RowIn w cs k i w2 w2'
row_all g l = record {
  points = λ j m b. g.row.points j m (omega arith);
  light = g.row.light;
  only = g.row.only;
}

-- ---- the points of the places

-- Those from the places below i are stored.
pub record RowsTo (w : Points) (cs : List ℕ) (k i : ℕ) (w2 w2' : List ℕ) : Type 0 where
  pub points : (h j : ℕ) → h < i → h < j → j < k → points_in w2' h j ≡ w (get_or cs h 0) (get_or cs j 0)
  pub light : (m : ℕ) → m < 144 → get_or w2' (at_points + m) 0 < points_room
  pub only : Only at_points at_places w2 w2'

module _ {w : Points} {cs : List ℕ} {k : ℕ} {w1 w2 : List ℕ} (p : PlacesThere w cs k w1 w2) where
  module _ {i : ℕ} {w2' : List ℕ} (g : RowsTo w cs k i w2 w2') where
    pub rows_there : PlacesThere w cs k w1 w2'
    rows_there = record {
      room1 = p.room1;
      room2 = omega (arith, p.room2, g.only.long);
      few = p.few;
      count = p.count;
      places = λ j l. g.only.same (at_places + j) (inr (omega arith)) ∙ p.places j l;
      rise = p.rise;
      n = p.n;
      cells = p.cells;
      low = p.low;
      closed = p.closed;
      small = p.small;
      most = p.most;
      rows = p.rows;
      starts = λ a l. g.only.same (at_starts + a) (inl (omega (arith, p.cells))) ∙ p.starts a l;
      light = g.light;
    }

    pub rows_more : {w2'' : List ℕ} → i + 1 < k → RowIn w cs k i w2' w2'' → RowsTo w cs k (i + 1) w2 w2''
    rows_more {w2''} l r = record {
      points = λ h j x m b. at h j x m b (eq_test h i);
      light = r.light;
      only = only_then g.only r.only (omega arith) (omega (arith, p.few));
    }
      where
        at : (h j : ℕ) → h < i + 1 → h < j → j < k → {t : Bool} → Test (h ≡ i) (h ≢ i) t
            → points_in w2'' h j ≡ w (get_or cs h 0) (get_or cs j 0)
        at h j x m b (pass e) = rw e (r.points j (omega arith) b)
        at h j x m b (fail d) =
            r.only.same (at_points + (12 * h + j)) (inl (omega (arith, d, p.few)))
            ∙ g.points h j (omega (arith, d)) m b

pub rows_all : {w : Points} {cs : List ℕ} {k i : ℕ} {w2 w2' : List ℕ} → RowsTo w cs k i w2 w2' → k ≤ i + 1
    → PointsIn w cs k w2 w2'
rows_all g l = record { points = λ h j m b. g.points h j (omega arith) m b; light = g.light; only = g.only }
