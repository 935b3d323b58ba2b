-- The groups solved one by one. In order: words that stay while a group is solved (`Beside`, `laid_on`); what stands is
-- laid out at the start (`out_links` to `out_there`); a group, gathered (`group_links`, `group_places`), joined
-- (`group_join`) and done (`group_solved`); cells that name no group are passed over (`groups_skip`); whether a cell's
-- label names the cell (`names_own`); the groups solved so far and their points (`Solving`), up to all of them. Assumes
-- nothing.
use mathlib.Core.Path.{◌≡◌, refl, sym, ap, subst, ◌∙◌}
use mathlib.Core.Logic.{◌⊎◌, inl, inr, ◌≢◌}
use mathlib.Core.Bool.{Bool, true, false}
use mathlib.Core.List.{List, []}
use Rattle.std.specs.Prelude.{Option, None, Some}
use Prim.Native.Nat.{ℕ, zero, suc, ◌+◌, ◌*◌, ◌-◌, ◌/◌, ◌%◌, ◌≤◌, ◌<◌}
use native.Mathlib.Omega.{arith}
use native.Mathlib.Numerals.{add-one}
use lib.Dec.{eqb}
use lib.ListN.{length, get_or, take}
use lib.Seq.{get_or-take}
use borrow.Author.Tests.{eq-eqb, eqb-true}
use Rattle.std.specs.Option.{option_eq}
use Rattle.buffers.specs.Map.{at_sets, at_starts, at_points, at_places, at_labels, link_field, at_table}
use Rattle.matching.specs.Pairs.{Points, sum, hit}
use Rattle.matching.specs.Pairing.{Once, seen}
use Rattle.matching.specs.Listed.{short_list}
use Rattle.matching.specs.Solve.{solution}
use Rattle.matching.specs.Groups.{largest, solve_each}
use Rattle.matching.specs.Origin.{all_short}
use Rattle.matching.proofs.Tests.{Test, pass, fail, eq_test}
use Rattle.matching.proofs.Alls.{all_map}
use Rattle.matching.proofs.Where.{where_rises}
use Rattle.matching.proofs.Grouped.{groups_sum, groups_pairing}
use Rattle.cellfile.specs.Words.{points_room}
use Rattle.partners.specs.Table.{tag, TrailKept, TableOnly}
use Rattle.partners.specs.Entering.{Empty}
use Rattle.sets.specs.Sets.{Forgotten}
use Rattle.grouping.specs.Labels.{Labels, class, classes, Levelled}
use Rattle.grouping.specs.Finding.{words_in, label_in, link_in, named, Leads, LinkThere, Linked}
use Rattle.grouping.proofs.Classes.{class_cells, classes_next, classes_skip, labels_class, class_none, labels_largest}
use Rattle.grouping.proofs.Classes.{labels_parts, class_closed}
use Rattle.grouping.proofs.Links.{leads_kept, link_there, linked_class}
use Rattle.gathering.specs.Gathered.{cell_in, Only, Starts, StartsThere, StartsIn, Blank, LinksThere, Gathers}
use Rattle.gathering.specs.Gathered.{PlacesThere, PointsIn}
use Rattle.solving.specs.Left.{SolvedIn}
use Rattle.solving.specs.Joined.{JoinThere, Joins, Laid, GroupsThere, GroupSolved, LabelsThere}
use Rattle.solving.specs.Joined.{SetOut}

-- ---- words that stay

-- Only the words for crate sets and the table changed.
pub record Beside (w2 w2' : List ℕ) : Type 0 where
  pub long : length w2' ≡ length w2
  pub low : (j : ℕ) → j < at_points → get_or w2' j 0 ≡ get_or w2 j 0
  pub high : (j : ℕ) → at_labels ≤ j → j < at_table → get_or w2' j 0 ≡ get_or w2 j 0

beside_only : {w2 w2' : List ℕ} {k m : ℕ} → at_points ≤ k → m ≤ at_labels → Only k m w2 w2' → Beside w2 w2'
beside_only l h o = record {
  long = o.long;
  low = λ j p. o.same j (inl (omega arith));
  high = λ j p q. o.same j (inr (omega arith));
}

beside_table : {w2 w2' : List ℕ} → length w2' ≡ length w2 → TableOnly w2 w2' → Beside w2 w2'
beside_table s o = record { long = s; low = λ j p. o j (omega arith); high = λ j p q. o j q }

beside_all : {w2 w2' w2'' : List ℕ} → Beside w2 w2' → Beside w2' w2'' → Beside w2 w2''
beside_all a b = record {
  long = b.long ∙ a.long;
  low = λ j p. b.low j p ∙ a.low j p;
  high = λ j p q. b.high j p q ∙ a.high j p q;
}

beside_trail : {w2 w2' : List ℕ} → Beside w2 w2' → TrailKept w2 w2'
beside_trail a j l = a.low j (omega arith)

-- the word of a cell
beside_word : {w2 w2' : List ℕ} → Beside w2 w2' → (c : ℕ) → c < 1024 → words_in w2' c ≡ words_in w2 c
beside_word a c l = a.high (at_labels + c) (omega arith) (omega arith)

beside_leads : {n : ℕ} (l : Labels) {w2 w2' : List ℕ} → n ≤ 1024 → Beside w2 w2' → (d : ℕ)
    → Leads (link_in w2) (suc d) (class n l d) → Leads (link_in w2') (suc d) (class n l d)
beside_leads {n} l {w2} {w2'} few a d h =
    leads_kept (link_in w2) (link_in w2') (suc d) (class n l d)
    (all_map (λ c p. ap (λ (x : ℕ). x / link_field) (sym (beside_word a c (omega (arith, p.0))))) (class n l d)
    (class_cells n l d)) h

-- ---- what stands while groups are solved

module _ {n : ℕ} {w : Points} {l : Labels} {w1 w2 : List ℕ} (p : Laid n w l w1 w2) where
  laid_starts : {w2' : List ℕ} → Beside w2 w2' → Starts n w w2'
  laid_starts a x m = a.low (at_starts + x) (omega (arith, p.cells)) ∙ p.starts x m

  laid_on : {w1' w2' : List ℕ} → length w1' ≡ length w1 → take at_sets w1' ≡ take at_sets w1 → Beside w2 w2'
      → ((i : ℕ) → i < 12 → cell_in w2' i < 1024) → ((x : ℕ) → x < 144 → get_or w2' (at_points + x) 0 < points_room)
      → Laid n w l w1' w2'
  laid_on {w1'} {w2'} s e a places light = record {
    room1 = omega (arith, p.room1);
    room2 = omega (arith, a.long, p.room2);
    cells = p.cells;
    graph = p.graph;
    small = p.small;
    levelled = p.levelled;
    most = p.most;
    rows = λ i m. row i m ∙ p.rows i m;
    starts = laid_starts a;
    labels = λ c m.
        ap (λ (x : ℕ). x % link_field) (beside_word a c (omega (arith, p.cells))) ∙ p.labels c m;
    leads = λ d m q. beside_leads l p.cells a d (p.leads d m q);
    places = places;
    light = light;
  }
    where
      row : (i : ℕ) → i < length (short_list n w) → get_or w1' i 0 ≡ get_or w1 i 0
      row i m =
          let b : i < at_sets = omega (arith, p.most) in
          sym (get_or-take at_sets w1' i 0 b) ∙ ap (λ (ws : List ℕ). get_or ws i 0) e ∙ get_or-take at_sets w1 i 0 b

  -- the pairs of some of the groups are a part of a pairing
  some_less : (j d : ℕ) (f : Points) → sum f (solve_each w (classes n l d)) ≤ sum f (solve_each w (classes n l (j + d)))
  some_less zero d f = let z : 0 + d ≡ d = omega arith in rw z (omega arith)
  some_less (suc j) d f =
      let z : suc j + d ≡ (j + d) + 1 = omega arith in
      rw z (omega (arith, some_less j d f, classes_next n w l (j + d) f))

  some_once : (d : ℕ) → d ≤ n → Once (solve_each w (classes n l d))
  some_once d m c =
      let z : (n - d) + d ≡ n = omega arith in
      let v = p.levelled in
      omega (
        arith,
        some_less (n - d) d (hit c),
        ap (λ x. sum (hit c) (solve_each w (classes n l x))) z,
        (groups_pairing p.graph (classes n l n)
            (labels_parts p.graph v.sweeps l v.labelled v.level)).once c,
      )

-- ---- at the start

module _ {n : ℕ} {w : Points} {l : Labels} {r : ℕ} {w1 w2 : List ℕ} (p : LabelsThere n w l r w1 w2) where
  pub out_links : LinkThere n l n w2
  out_links =
      subst (λ k. LinkThere n k n w2) p.labels
      (link_there p.graph p.cells p.room2 (subst (Levelled n w) (sym p.labels) p.levelled))

  module _ {w2a : List ℕ} (a : Linked n l 0 w2 w2a) where
    pub out_starts : StartsThere n w r w1 w2a
    out_starts = record {
      room1 = p.room1;
      room2 = omega (arith, a.front.long, p.room2);
      most = p.most;
      cells = p.cells;
      rows = p.rows;
    }

    pub out_there : {w2b w2c w2d : List ℕ} → StartsIn n w w2a w2b → Blank w2b w2c → length w2d ≡ length w2c
        → Empty w2d × TableOnly w2c w2d → SetOut n w l w1 w2 w2d
    out_there {w2b} {w2c} {w2d} b c s e = record {
      there = record {
        laid = record {
          room1 = p.room1;
          room2 = omega (arith, a.front.long, b.only.long, c.only.long, p.room2);
          cells = p.cells;
          graph = p.graph;
          small = p.small;
          levelled = p.levelled;
          most = omega (arith, p.most, p.rows.count);
          rows = λ i m. p.rows.row i (omega (arith, p.rows.count));
          starts = λ x m. late.low (at_starts + x) (omega (arith, p.cells)) ∙ b.starts x m;
          labels = λ x m.
              ap (λ (y : ℕ). y % link_field) (word x (omega (arith, p.cells))) ∙ a.there.labels x m;
          leads = λ d m q.
              leads_kept (link_in w2a) (link_in w2d) (suc d) (class n l d)
              (all_map (λ x h. ap (λ (y : ℕ). y / link_field) (sym (word x (omega (arith, h.0, p.cells)))))
              (class n l d) (class_cells n l d)) (linked_class a.there d m q);
          places = λ i m.
              let z : at_places + i ≡ at_points + (144 + i) = omega arith in
              omega (
                arith,
                e.1 (at_places + i) (omega arith),
                ap (λ j. get_or w2c j 0) z,
                c.zeros (144 + i) (omega arith),
              );
          light = λ x m. omega (arith, e.1 (at_points + x) (omega arith), c.zeros x (omega arith));
        };
        few = λ x m. absurd (omega arith);
        mates = λ x m. e.0 x m;
      };
      aside = λ j m.
          e.1 j (omega arith) ∙ c.only.same j (inl (omega arith)) ∙ b.only.same j (inl (omega arith))
          ∙ a.front.same j (omega arith);
    }
      where
        late : Beside w2b w2d
        late = beside_all (beside_only (omega arith) (omega arith) c.only) (beside_table s e.1)

        word : (x : ℕ) → x < 1024 → words_in w2d x ≡ words_in w2a x
        word x m = beside_word late x m ∙ b.only.same (at_labels + x) (inr (omega arith))

-- ---- a group

module _ {n : ℕ} {w : Points} {l : Labels} {d : ℕ} {w1 w2 : List ℕ} (p : GroupsThere n w l d w1 w2) where
  abbrev cs : List ℕ
  cs = class n l d

  abbrev v : Levelled n w l
  v = p.laid.levelled

  pub group_links : d < n → l d ≡ suc d → LinksThere (class n l d) d w2
  group_links low first = record {
    room2 = p.laid.room2;
    leads = p.laid.leads d low first;
    low = all_map (λ c q. omega (arith, q.0, p.laid.cells)) cs (class_cells n l d);
  }

  pub group_crowded : {w2a : List ℕ} → Gathers (class n l d) w2 w2a None → 12 < largest n w
  group_crowded a = omega (arith, a.told, labels_class p.laid.graph v.sweeps l v.labelled d)

  module _ {w2a : List ℕ} {k : ℕ} (a : Gathers (class n l d) w2 w2a (Some k)) where
    first_part : Beside w2 w2a
    first_part = beside_only (omega arith) (omega arith) a.only

    pub group_places : PlacesThere w (class n l d) k w1 w2a
    group_places = record {
      room1 = p.laid.room1;
      room2 = omega (arith, a.only.long, p.laid.room2);
      few = a.told.0;
      count = a.told.1;
      places = a.told.2;
      rise = where_rises _ n;
      n = n;
      cells = p.laid.cells;
      low = all_map (λ c q. q.0) cs (class_cells n l d);
      closed = class_closed p.laid.graph v.sweeps l v.labelled v.level d;
      small = p.laid.small;
      most = p.laid.most;
      rows = p.laid.rows;
      starts = laid_starts p.laid first_part;
      light = λ x m. rw (a.only.same (at_points + x) (inl (omega arith))) (p.laid.light x m);
    }

    module _ {w2b : List ℕ} (b : PointsIn w (class n l d) k w2a w2b) where
      second_part : Beside w2 w2b
      second_part = beside_all first_part (beside_only (omega arith) (omega arith) b.only)

      cell_still : (i : ℕ) → i < 12 → cell_in w2b i ≡ cell_in w2a i
      cell_still i m = b.only.same (at_places + i) (inr (omega arith))

      cell_low : (i : ℕ) → i < 12 → cell_in w2b i < 1024
      cell_low i m = go (a.others i m)
        where
          go : (cell_in w2a i < 1024) ⊎ (cell_in w2a i ≡ cell_in w2 i) → cell_in w2b i < 1024
          go (inl h) = omega (arith, cell_still i m)
          go (inr h) = omega (arith, cell_still i m, p.laid.places i m)

      module _ (low : d < n) {w1a : List ℕ} (f : Forgotten k w1 w1a) where
        pub group_join : JoinThere w (class n l d) (solve_each w (classes n l d)) k w1a w2b
        group_join = record {
          room1 = omega (arith, f.long, p.laid.room1);
          room2 = omega (arith, second_part.long, p.laid.room2);
          few = a.told.0;
          count = a.told.1;
          rise = where_rises _ n;
          cells = λ i m. cell_still i (omega (arith, a.told.0)) ∙ a.told.2 i m;
          places = cell_low;
          points = b.points;
          light = b.light;
          none = f.none;
          mates = λ c m.
              b.only.same (at_table + c) (inr (omega arith)) ∙ a.only.same (at_table + c) (inr (omega arith))
              ∙ p.mates c m;
          once = rw (add-one d) at (some_once p.laid (d + 1) (omega arith));
        }

        module _ {w1b w2c : List ℕ} {r : ℕ} (same1 : length w1b ≡ length w1a) (same2 : length w2c ≡ length w2b)
            (j : Joins w (class n l d) (solve_each w (classes n l d)) w1a w1b w2b w2c r) where
          pub group_solved : GroupSolved n w l d w1b w2 w2c r
          group_solved = record {
            there = record {
              laid = laid_on p.laid (omega (arith, f.long)) (j.front ∙ f.front) third_part
                  (λ i m. omega (arith, j.only (at_places + i) (omega arith), cell_low i m))
                  (λ x m. omega (arith, j.only (at_points + x) (omega arith), b.light x m));
              few = λ x m. go x m (eq_test x d);
              mates = rw (add-one d) j.mates;
            };
            value = j.value;
            light = j.light;
            aside = beside_trail third_part;
          }
            where
              third_part : Beside w2 w2c
              third_part = beside_all second_part (beside_table same2 j.only)

              go : (x : ℕ) → x < d + 1 → {t : Bool} → Test (x ≡ d) (x ≢ d) t → length (class n l x) ≤ 12
              go x m (pass e) = omega (arith, ap (λ (y : ℕ). length (class n l y)) e, a.told.1)
              go x m (fail e) = p.few x (omega arith)

  -- a cell that names no group, since its label is another's or none
  groups_skip : d < n → label_in w2 d ≢ d + 1 → GroupsThere n w l (d + 1) w1 w2
      × ((f : Points) → sum f (solve_each w (classes n l (d + 1))) ≡ sum f (solve_each w (classes n l d)))
  groups_skip low other = (
    record { laid = p.laid; few = λ x m. go x m (eq_test x d); mates = rw same p.mates },
    λ f. ap (sum f) same,
  )
    where
      empty : class n l d ≡ []
      empty =
          class_none p.laid.graph v.sweeps l v.labelled v.level d
          (λ e. other (omega (arith, p.laid.labels d low, e)))

      same : solve_each w (classes n l (d + 1)) ≡ solve_each w (classes n l d)
      same = classes_skip n w l d empty

      go : (x : ℕ) → x < d + 1 → {t : Bool} → Test (x ≡ d) (x ≢ d) t → length (class n l x) ≤ 12
      go x m (pass e) = omega (arith, ap (λ (y : ℕ). length (class n l y)) e, ap length empty)
      go x m (fail e) = p.few x (omega arith)

-- ---- whether a cell's label names the cell

pub names_own : (x d : ℕ) {f : Option ℕ} → f ≡ named x → true ≡ option_eq eqb f (Some d) → x ≡ d + 1
names_own x d e t = go x (rw e at t)
  where
    go : (y : ℕ) → true ≡ option_eq eqb (named y) (Some d) → y ≡ d + 1
    go zero q = cc
    go (suc c) q = omega (arith, eqb-true c d (sym q))

pub names_other : (x d : ℕ) {f : Option ℕ} → f ≡ named x → false ≡ option_eq eqb f (Some d) → x ≢ d + 1
names_other x d e t q =
    let s : x ≡ suc d = omega arith in
    let u = rw (e, s, eq-eqb d d refl) at t in cc

-- ---- all groups

-- Since the second buffer was w2: the groups whose first cells are below d are solved, with so many points.
pub record Solving (n : ℕ) (w : Points) (l : Labels) (d : ℕ) (w2 w1' w2' : List ℕ) (v : ℕ) : Type 0 where
  pub within : d ≤ n
  pub there : GroupsThere n w l d w1' w2'
  pub value : v ≡ sum w (solve_each w (classes n l d))
  pub light : v ≤ d * (12 * points_room)
  pub aside : TrailKept w2 w2'

module _ {n : ℕ} {w : Points} {l : Labels} {d v : ℕ} {w2 w1' w2' : List ℕ} (p : Solving n w l d w2 w1' w2' v) where
  pub solving_first : d < n → label_in w2' d ≡ d + 1 → l d ≡ suc d
  solving_first low e = omega (arith, p.there.laid.labels d low)

  pub solving_group : {w1'' w2'' : List ℕ} {x : ℕ} → d < n → GroupSolved n w l d w1'' w2' w2'' x
      → Solving n w l (d + 1) w2 w1'' w2'' (v + x)
  solving_group low g = record {
    within = omega arith;
    there = g.there;
    value = omega (arith, p.value, g.value, classes_next n w l d w);
    light = omega (arith, p.light, g.light);
    aside = λ j m. g.aside j m ∙ p.aside j m;
  }

  pub solving_skip : d < n → label_in w2' d ≢ d + 1 → Solving n w l (d + 1) w2 w1' w2' v
  solving_skip low other =
      let s = groups_skip p.there low other in
      record {
        within = omega arith;
        there = s.0;
        value = omega (arith, p.value, s.1 w);
        light = omega (arith, p.light);
        aside = p.aside;
      }

  pub solving_room : v ≤ 1024 * (12 * points_room)
  solving_room = omega (arith, p.within, p.there.laid.cells, p.light)

  pub solving_end : n ≤ d → SolvedIn n w w2 w2' v
  solving_end last = record {
    few = labels_largest q.laid.graph u.sweeps l u.labelled u.level 12
        (λ x m. q.few x (omega arith));
    value = p.value ∙ every w;
    mates = λ c m. q.mates c m ∙ every (seen (tag all_short c) c);
    aside = p.aside;
  }
    where
      q : GroupsThere n w l d w1' w2'
      q = p.there

      u : Levelled n w l
      u = q.laid.levelled

      all : d ≡ n
      all = omega (arith, p.within)

      every : (f : Points) → sum f (solve_each w (classes n l d)) ≡ sum f (solution n w)
      every f =
          ap (λ x. sum f (solve_each w (classes n l x))) all
          ∙ groups_sum q.laid.graph (classes n l n)
          (labels_parts q.laid.graph u.sweeps l u.labelled u.level) f
