-- The row of a ring or a chain is taken pair by pair. In order: words of the trail that stay (`trail_kept`); what one
-- pair taken leaves (`pair_taken`); the rest of the row while it is taken (`RowAhead`, `Going`), where it starts, what
-- it gives the next pair, how it goes on and how it ends (`going_start`, `going_pair`, `going_on`, `going_end`).
-- Assumes nothing.
use mathlib.Core.Path.{◌≡◌, refl, sym, ap, subst, ◌∙◌}
use mathlib.Core.Logic.{◌⊎◌, inl, inr, ◌≢◌}
use mathlib.Core.Bool.{true, false, cond}
use mathlib.Core.List.{List, [], ◌∷◌, ◌++◌}
use Prim.Native.Nat.{ℕ, ◌+◌, ◌*◌, ◌≤◌, ◌<◌}
use native.Mathlib.Omega.{arith}
use native.Mathlib.Numerals.{add-one}
use lib.ListN.{length, get_or, set, take}
use lib.Seq.{take-suc-set, append_snoc, get_or-set_other, length-take-le, get_or-take, ext_get_or}
use borrow.Author.Tests.{eq-eqb, ne_eqb}
use Rattle.buffers.specs.Map.{trail_room, at_names, unit}
use Rattle.matching.specs.Lists.{mem, distinct}
use Rattle.matching.specs.Pairs.{Points}
use Rattle.matching.specs.Graph.{partners, put}
use Rattle.matching.specs.Best.{walk}
use Rattle.matching.specs.Shapes.{first}
use Rattle.matching.proofs.Tests.{fails}
use Rattle.matching.proofs.Members.{mem_not, mem_apart, distinct_cons}
use Rattle.matching.proofs.Pairs.{Same, same_test}
use Rattle.matching.proofs.Put.{put_else, pair_below}
use Rattle.matching.proofs.Partners.{Between, partners_two}
use Rattle.matching.proofs.Rows.{Run, is_run}
use Rattle.rows.specs.Row.{words_of_row}
use Rattle.slots.specs.Slots.{low_of, high_of, Joins, live}
use Rattle.slots.specs.Found.{Next}
use Rattle.slots.specs.Working.{graph_in, SameBuffers, Changes, WordSet}
use Rattle.slots.specs.declared.graph.WorkingGraph.{WorkingGraph}
use Rattle.slots.specs.declared.read.Other.{Other}
use Rattle.slots.proofs.Graphs.{holds_graph, joins_points}
use Rattle.slots.proofs.Lives.{live_kill}
use Rattle.slots.proofs.Holding.{holds_room, joins_put, joins_one, joins_pair, joins_other}
use Rattle.slots.proofs.Working.{buffers_on}
use Rattle.finding.specs.Walks.{Onward}
use Rattle.finding.specs.declared.Stop.{Stop}
use Rattle.trail.specs.Taking.{inner_of, RowThere, RowTaken, PairThere, PairTaken}
use Rattle.finding.proofs.Gone.{put_away, put_most, Agree, run_same, gone, gone_dropped}
use Rattle.trail.proofs.Trail.{words_same}

-- ---- words that stay

pub trail_kept : (g g' : WorkingGraph) (t : ℕ) → t ≤ trail_room
    → ((j : ℕ) → j < trail_room → get_or g'.w2.now j 0 ≡ get_or g.w2.now j 0) → take t g'.w2.now ≡ take t g.w2.now
trail_kept g g' t m h =
    let now = length-take-le t g'.w2.now (omega (arith, holds_room g'.holds)) in
    let was = length-take-le t g.w2.now (omega (arith, holds_room g.holds)) in
    ext_get_or 0 (take t g'.w2.now) (take t g.w2.now) (now ∙ sym was)
    (λ i k. (let b : i < t = omega (arith, now) in
    get_or-take t g'.w2.now i 0 b ∙ h i (omega arith) ∙ sym (get_or-take t g.w2.now i 0 b)))

-- ---- one pair

pub pair_taken : {g g' g'' : WorkingGraph} {t x : ℕ} {s : Stop} → PairThere g t s
    → Changes g.slots (put (low_of g.w1.now s.slot) (high_of g.w1.now s.slot) 0 (graph_in g)) g g'
    → g'.w1.now ≡ set g.w1.now s.slot 0 → WordSet t x g' g'' → x ≡ s.last * unit + get_or g.w1.now s.slot 0
    → PairTaken g g'' t s
pair_taken {g} {g'} {g''} {t} {x} {s} p h q k z = record {
  slots = k.slots ∙ h.slots;
  weights = k.first ∙ q;
  graph = rw (k.slots, k.first) h.graph;
  trail =
      ap (take (t + 1)) k.second
      ∙ rw add-one (take-suc-set g'.w2.now t x (omega (arith, p.room, holds_room g'.holds)))
      ∙ ap (λ (ws : List ℕ). ws ++ x ∷ []) same_trail
      ∙ ap (λ (y : ℕ). take t g.w2.now ++ y ∷ []) z;
  fewer =
      rw (k.slots, k.first, h.slots, q)
      (live_kill g.slots s.slot g.w1.now p.below (omega (arith, p.below, holds_room g.holds)) p.points);
  aside = λ j m.
      ap (λ (ws : List ℕ). get_or ws j 0) k.second
      ∙ get_or-set_other g'.w2.now t j x 0 (omega (arith, p.room))
      ∙ h.aside j (inr m);
  buffers = buffers_on h.buffers k.buffers;
}
  where
    same_trail : take t g'.w2.now ≡ take t g.w2.now
    same_trail = trail_kept g g' t (omega (arith, p.room)) (λ j m. h.aside j (inl m))

-- ---- the rest of a row

-- The pairs of the row from u over `inner` to v were in the graph g₀, and k of them are taken: what is left is the run
-- from prev over `rest` to v, and slot joins its first two cells.
pub record RowAhead (g₀ : WorkingGraph) (t u : ℕ) (inner : List ℕ) (v : ℕ) (g : WorkingGraph) (prev slot k : ℕ)
    (rest : List ℕ) : Type 0 where
  pub run : Run 1024 (graph_in g) prev rest v
  pub joins : Joins g.slots g.w1.now slot prev (first v rest)
  pub apart : distinct rest ≡ true
  pub first_off : mem prev rest ≡ false
  pub last_off : mem v rest ≡ false
  pub fits : (a b : ℕ) → graph_in g a b < unit
  pub count : k + length rest ≡ length inner
  pub trail : take (t + k) g.w2.now ++ words_of_row (graph_in g) prev rest v
      ≡ take t g₀.w2.now ++ words_of_row (graph_in g₀) u inner v
  pub left : gone (walk prev rest v) (graph_in g) ≡ gone (walk u inner v) (graph_in g₀)
  pub slots : g.slots ≡ g₀.slots
  pub fewer : live g.slots g.w1.now + k ≡ live g₀.slots g₀.w1.now
  pub aside : (j : ℕ) → at_names ≤ j → get_or g.w2.now j 0 ≡ get_or g₀.w2.now j 0
  pub buffers : SameBuffers g₀ g

-- The rest of the row that is entered at `from`, of which the next cell is where the walk stands.
pub record Going (g₀ : WorkingGraph) (t : ℕ) (from : Stop) (v : ℕ) (g : WorkingGraph) (s : Stop) (k : ℕ) : Type 0
  where
    pub rest : List ℕ
    pub next : s.end ≡ first v rest
    pub ahead : RowAhead g₀ t from.last (inner_of g₀ from) v g s.last s.slot k rest

pub going_start : {g : WorkingGraph} {t v : ℕ} {s : Stop} → RowThere g t s v → Going g t s v g s 0
going_start {g} {t} {v} {s} r = record {
  rest = inner_of g s;
  next = sym r.starts;
  ahead = record {
    run = is_run (holds_graph g.holds) r.row;
    joins = rw r.starts r.joins;
    apart = r.row.apart;
    first_off = r.row.first_off;
    last_off = r.row.last_off;
    fits = r.fits;
    count = omega arith;
    trail =
        ap (λ (j : ℕ). take j g.w2.now ++ words_of_row (graph_in g) s.last (inner_of g s) v) {x = t + 0} {y = t}
        (omega arith);
    left = refl;
    slots = refl;
    fewer = omega arith;
    aside = λ j l. refl;
    buffers = record { first = refl; second = refl };
  };
}

-- the next pair
ahead_pair : {g₀ : WorkingGraph} {t u : ℕ} {inner : List ℕ} {v : ℕ} {g : WorkingGraph} {prev slot k : ℕ}
    (rest : List ℕ) → RowAhead g₀ t u inner v g prev slot k rest → (prev < 1024) × (first v rest < 1024)
ahead_pair {v = v} {g = g} {prev = prev} rest a =
    pair_below (holds_graph g.holds) prev (first v rest) (joins_pair g.holds a.joins)

module _ {g₀ : WorkingGraph} {t u : ℕ} {inner : List ℕ} {v : ℕ} {g : WorkingGraph} {s : Stop} {k c : ℕ} {cs : List ℕ}
    (a : RowAhead g₀ t u inner v g s.last s.slot k (c ∷ cs)) {r : Other} (n : Next g.slots g.w1.now c s.last r)
    {g' : WorkingGraph} (p : PairTaken g g' (t + k) s) where
  abbrev w : Points
  w = graph_in g

  between : Between 1024 w s.last c (first v cs)
  between = a.run.0

  not_back : Same s.last c c (first v cs) → ⊥
  not_back (inl q) = (mem_not s.last c cs a.first_off).0 q.0
  not_back (inr q) = between.apart (sym q.1)

  onward : r.partner ≡ first v cs
  onward = go (partners_two (holds_graph g.holds) between)
    where
      go : (partners 1024 w c ≡ s.last ∷ first v cs ∷ []) ⊎ (partners 1024 w c ≡ first v cs ∷ s.last ∷ [])
          → r.partner ≡ first v cs
      go (inl q) =
          n.partner s.last (first v cs) q
          ∙ ap (λ d. cond d (first v cs) s.last) (eq-eqb s.last s.last refl)
      go (inr q) =
          n.partner (first v cs) s.last q
          ∙ ap (λ d. cond d s.last (first v cs)) (ne_eqb (first v cs) s.last (λ z. between.apart (sym z)))

  graph_now : graph_in g' ≡ put s.last c 0 w
  graph_now = p.graph ∙ joins_put a.joins 0 w

  agree : Agree w (graph_in g') cs
  agree d m x =
      ap (λ (w : Points). w d x) graph_now
      ∙ put_away s.last c 0 w d (mem_apart d s.last cs m (mem_not s.last c cs a.first_off).1)
      (mem_apart d c cs m (distinct_cons c cs a.apart).0) x

  pair_kept : graph_in g' c (first v cs) ≡ w c (first v cs)
  pair_kept =
      ap (λ (w : Points). w c (first v cs)) graph_now
      ∙ put_else s.last c 0 w c (first v cs) (fails (same_test s.last c c (first v cs)) not_back)

  next_joins : Joins g.slots g.w1.now r.slot c (first v cs)
  next_joins = rw (← onward) n.joins

  slot_apart : r.slot ≢ s.slot
  slot_apart q =
      not_back (joins_one a.joins (subst (λ (j : ℕ). Joins g.slots g.w1.now j c (first v cs)) q next_joins))

  trail_on : take (t + (k + 1)) g'.w2.now ++ words_of_row (graph_in g') c cs v
      ≡ take t g₀.w2.now ++ words_of_row (graph_in g₀) u inner v
  trail_on =
      ap (λ (j : ℕ). take j g'.w2.now ++ words_of_row (graph_in g') c cs v) {x = t + (k + 1)} {y = t + k + 1}
      (omega arith)
      ∙ ap (λ (ws : List ℕ). ws ++ words_of_row (graph_in g') c cs v) p.trail
      ∙ append_snoc (take (t + k) g.w2.now) (s.last * unit + get_or g.w1.now s.slot 0)
      (words_of_row (graph_in g') c cs v)
      ∙ ap (λ (ws : List ℕ). take (t + k) g.w2.now ++ (s.last * unit + get_or g.w1.now s.slot 0) ∷ ws)
      (words_same w (graph_in g') c cs v pair_kept agree)
      ∙ ap (λ (x : ℕ). take (t + k) g.w2.now ++ (s.last * unit + x) ∷ words_of_row w c cs v)
      (sym (joins_points g.holds a.joins))
      ∙ a.trail

  ahead_on : RowAhead g₀ t u inner v g' c r.slot (k + 1) cs
  ahead_on = record {
    run = run_same 1024 w (graph_in g') c cs v agree a.run.1;
    joins = rw (p.slots, p.weights) (joins_other g.holds next_joins s.slot a.joins.below slot_apart);
    apart = (distinct_cons c cs a.apart).1;
    first_off = (distinct_cons c cs a.apart).0;
    last_off = (mem_not v c cs a.last_off).1;
    fits = λ x y. omega (arith, ap (λ (w : Points). w x y) graph_now, put_most s.last c w x y, a.fits x y);
    count = omega (arith, a.count);
    trail = trail_on;
    left = ap (gone (walk c cs v)) graph_now ∙ a.left;
    slots = p.slots ∙ a.slots;
    fewer = omega (arith, a.fewer, p.fewer);
    aside = λ j l. p.aside j l ∙ a.aside j l;
    buffers = buffers_on a.buffers p.buffers;
  }

module _ {g₀ : WorkingGraph} {t v : ℕ} {from : Stop} {g : WorkingGraph} {s : Stop} {k : ℕ}
    (h : Going g₀ t from v g s k) where
  going_below : (s.last < 1024) × (s.end < 1024)
  going_below = rw h.next (ahead_pair h.rest h.ahead)

  pub going_pair : t + length (inner_of g₀ from) < trail_room → PairThere g (t + k) s
  going_pair l = record {
    below = h.ahead.joins.below;
    points = h.ahead.joins.live;
    fits = omega (
      arith,
      joins_points g.holds h.ahead.joins,
      h.ahead.fits s.last (first v h.rest),
    );
    cell = going_below.0;
    room = omega (arith, h.ahead.count);
  }

  pub going_on : s.end ≢ v → {r : Stop} → Onward g.slots g.w1.now s r → {g' : WorkingGraph}
      → PairTaken g g' (t + k) s → Going g₀ t from v g' r (k + 1)
  going_on d {r} n {g'} p = go h.rest h.next h.ahead
    where
      go : (rest : List ℕ) → s.end ≡ first v rest
          → RowAhead g₀ t from.last (inner_of g₀ from) v g s.last s.slot k rest → Going g₀ t from v g' r (k + 1)
      go [] q a = absurd (d q)
      go (c ∷ cs) q a =
          let m = rw q at n.next in record {
            rest = cs;
            next = onward a m p;
            ahead = rw (n.last, q) (ahead_on a m p);
          }

pub going_end : {g₀ : WorkingGraph} {t v : ℕ} {from : Stop} → RowThere g₀ t from v → {g : WorkingGraph} {s : Stop}
    {k : ℕ} → Going g₀ t from v g s k → s.end ≡ v → {g' : WorkingGraph} → PairTaken g g' (t + k) s
    → RowTaken g₀ g' t from v (k + 1)
going_end {g₀} {t} {v} {from} r {g} {s} {k} h z {g'} p = go h.rest h.next h.ahead
  where
    go : (rest : List ℕ) → s.end ≡ first v rest
        → RowAhead g₀ t from.last (inner_of g₀ from) v g s.last s.slot k rest → RowTaken g₀ g' t from v (k + 1)
    go (c ∷ cs) q a = absurd ((mem_not v c cs a.last_off).0 (sym q ∙ z))
    go [] q a = record {
      count = omega (arith, a.count);
      slots = p.slots ∙ a.slots;
      graph =
          p.graph
          ∙ joins_put a.joins 0 (graph_in g)
          ∙ a.left
          ∙ gone_dropped (holds_graph g₀.holds) from.last (inner_of g₀ from) v (omega (arith, r.row.more))
          (is_run (holds_graph g₀.holds) r.row);
      trail =
          ap (λ (j : ℕ). take j g'.w2.now) {x = t + (k + 1)} {y = t + k + 1} (omega arith)
          ∙ p.trail
          ∙ ap (λ (x : ℕ). take (t + k) g.w2.now ++ (s.last * unit + x) ∷ [])
          (sym (joins_points g.holds a.joins))
          ∙ a.trail;
      fewer = omega (arith, a.fewer, p.fewer);
      aside = λ j l. p.aside j l ∙ a.aside j l;
      buffers = buffers_on a.buffers p.buffers;
    }
