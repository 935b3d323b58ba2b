-- Taking a step, put together from its parts. In order: a row that goes and leaves three slots free (`row_room`,
-- `row_gone`); its words on the trail, how many they are (`row_many`) and that they are the row's (`row_read`); the
-- closing word behind them (`closed`); each rule's step, with what it asks of its parts and what they leave
-- (`leaf-..`, `ring-..`, `chain-..`); what is found is the step that stands there (`found_step`), so that a part is
-- told what it asks (`leaf_found`, `ring_found`, `chain_found`). Assumes nothing.
use mathlib.Core.Path.{◌≡◌, refl, sym, ap, ap₂, subst, ◌∙◌}
use mathlib.Core.Logic.{inl, inr, ◌≢◌}
use mathlib.Core.Bool.{Bool, true, cond}
use mathlib.Core.List.{List, [], ◌∷◌, ◌++◌, append_assoc}
use mathlib.Core.Option.{some}
use Prim.Native.Nat.{ℕ, suc, ◌+◌, ◌-◌, ◌≤◌, ◌<◌, max}
use native.Mathlib.Omega.{arith}
use native.Mathlib.Numerals.{add-one}
use lib.Dec.{ltb}
use lib.ListN.{length, get_or, take, drop, length-append}
use lib.Seq.{length-take-le, take-suc-set, get_or-set_other, take-add, drop_at}
use Rattle.buffers.specs.Map.{trail_room}
use Rattle.matching.specs.Lists.{mem}
use Rattle.matching.specs.Pairs.{Pair, Points, Each, ι}
use Rattle.matching.specs.Graph.{partners, put, dropped}
use Rattle.matching.specs.Best.{H, walk}
use Rattle.matching.specs.Steps.{Rule, by_leaf, by_ring, by_chain, Step, leaf, ring, chain, leafed, ringed, chained}
use Rattle.matching.specs.Steps.{outweighs, apply, carry}
use Rattle.matching.specs.Shapes.{IsRow, IsLeaf, IsRing, IsChain, IsStep, first}
use Rattle.matching.specs.Find.{ReadRow}
use Rattle.matching.proofs.Tests.{Test, pass, fail}
use Rattle.matching.proofs.Members.{mem_head, mem_one, mem_apart, clash, Meets, Away, meets_test}
use Rattle.matching.proofs.Sums.{each_all}
use Rattle.matching.proofs.Best.{h_less, h_mono}
use Rattle.matching.proofs.Put.{pair_below, dropped_out}
use Rattle.matching.proofs.Partners.{partners_one}
use Rattle.matching.proofs.Rows.{Ends, inner_below, row_of}
use Rattle.rows.specs.Row.{words_of_row, RowOf, ChainH, RingH}
use Rattle.rows.specs.declared.ChainPoints.{ChainPoints}
use Rattle.rows.specs.declared.RingPoints.{RingPoints}
use Rattle.rows.proofs.Parts.{length_row, row_few}
use Rattle.slots.specs.Slots.{Holds, graph_of, Joins, live}
use Rattle.slots.specs.Working.{graph_in, Changes, WordSet}
use Rattle.slots.specs.declared.graph.WorkingGraph.{WorkingGraph}
use Rattle.slots.proofs.Graphs.{holds_graph}
use Rattle.slots.proofs.Lives.{live_most}
use Rattle.slots.proofs.Holding.{holds_room, joins_pair}
use Rattle.slots.proofs.Working.{buffers_on}
use Rattle.finding.specs.Rows.{inner_at}
use Rattle.finding.specs.Finding.{Way, Finds, as_step, step_of}
use Rattle.finding.specs.declared.Stop.{Stop}
use Rattle.finding.specs.declared.Found.{Found}
use Rattle.finding.specs.declared.Step as declared
use Rattle.finding.specs.declared.Step.TheVariants as found
use Rattle.finding.proofs.Told.{over, told_step}
use Rattle.trail.specs.Taking.{inner_of, RowThere, RowTaken}
use Rattle.trail.specs.Trail.{closing, closing_of, CellsFit, step_words, row_of as words_of}
use Rattle.trail.proofs.TakenRow.{trail_kept}
use Rattle.putting.specs.Putting.{Unpaired, EndsThere, EndsPut}
use Rattle.putting.specs.declared.Ends as declared-ends
use Rattle.putting.proofs.Putting.{at_pair}
use Rattle.taking.specs.Applying.{StepThere, StepTaken}
use Rattle.taking.specs.Parts.{entered, RowGone, LeafThere, RingThere, ChainThere}
use Rattle.taking.specs.declared.Taken.{Taken}

-- ---- a row that goes

module _ {g g₁ : WorkingGraph} {t v k : ℕ} {s : Stop} (h : RowThere g t s v) (p : RowTaken g g₁ t s v k) where
  pub row_room : live g₁.slots g₁.w1.now + 3 ≤ 4096
  row_room = omega (arith, p.fewer, p.count, h.row.more, live_most g.slots g.w1.now, holds_room g.holds)

  pub row_gone : {g₂ : WorkingGraph} → Changes g₂.slots (graph_in g₁) g₁ g₂ → g₂.slots ≤ 4093
      → RowGone g g₂ t s v k
  row_gone {g₂} c l = record {
    count = p.count;
    free = l;
    graph = c.graph ∙ p.graph;
    trail =
        trail_kept g₁ g₂ (t + k) (omega (arith, p.count, h.room)) (λ j m. c.aside j (inl m)) ∙ p.trail;
    aside = λ j m. c.aside j (inr m) ∙ p.aside j m;
    buffers = buffers_on p.buffers c.buffers;
  }

-- ---- the words of a row on the trail

module _ {g g₁ : WorkingGraph} {t v k : ℕ} {s : Stop} (h : RowThere g t s v) (p : RowGone g g₁ t s v k) where
  pub row_many : (t + 3 ≤ t + k) × (t + k ≤ t + 1024) × (t + k ≤ trail_room)
  row_many =
      let l = (pair_below (holds_graph g.holds) s.last s.end (joins_pair g.holds h.joins)).0 in
      let low = inner_below (holds_graph g.holds) h.row in (
        omega (arith, p.count, h.row.more),
        omega (arith, p.count, row_few 1024 s.last (inner_of g s) h.row.apart h.row.first_off l low),
        omega (arith, p.count, h.room),
      )

  row_words : take (t + k - t) (drop t g₁.w2.now) ≡ words_of_row (graph_in g) s.last (inner_of g s) v
  row_words =
      ap (λ (j : ℕ). take j (drop t g₁.w2.now)) {x = t + k - t} {y = k} (omega arith)
      ∙ sym (drop_at (take t g₁.w2.now) (take k (drop t g₁.w2.now)) t
      (length-take-le t g₁.w2.now (omega (arith, h.room, holds_room g₁.holds))))
      ∙ ap (drop t) (sym (take-add t k g₁.w2.now) ∙ p.trail)
      ∙ drop_at (take t g.w2.now) _ t (length-take-le t g.w2.now (omega (arith, h.room, holds_room g.holds)))

  pub row_read : {ws : List ℕ} → ws ≡ take (t + k - t) (drop t g₁.w2.now)
      → RowOf (graph_in g) s.last (inner_of g s) v ws
  row_read q = record {
    words = q ∙ row_words;
    apart = h.row.apart;
    first_off = h.row.first_off;
    last_off = h.row.last_off;
    more = h.row.more;
    fits = each_all h.fits (walk s.last (inner_of g s) v);
  }

-- ---- the closing word behind them

module _ {g g₁ : WorkingGraph} {t v k : ℕ} {s : Stop} (p : RowGone g g₁ t s v k) where
  abbrev words : List ℕ
  words = words_of_row (graph_in g) s.last (inner_of g s) v

  pub closed : t + length (inner_of g s) + 2 ≤ trail_room → {w : Points} {g₂ g₃ : WorkingGraph} {x : ℕ} {st : Step}
      {r : Taken} → Changes g₂.slots w g₁ g₂ → WordSet (t + k) x g₂ g₃ → w ≡ apply (graph_in g) st
      → words_of (graph_in g) st ≡ words → x ≡ closing_of (graph_in g) st → r.trail ≡ t + k + 1
      → r.carried ≡ carry (graph_in g) st → StepTaken g g₃ t st r
  unfolding step_words
  closed l {w} {g₂} {g₃} {x} {st} {r} d q a b y z o = record {
    graph = rw (q.slots, q.first) (d.graph ∙ a);
    carried = o;
    words = rw b (omega (arith, z, p.count, length-append words (closing_of (graph_in g) st ∷ []), many));
    trail =
        ap (λ (j : ℕ). take j g₃.w2.now) z
        ∙ ap (take (t + k + 1)) q.second
        ∙ rw add-one (take-suc-set g₂.w2.now (t + k) x (omega (arith, p.count, holds_room g₂.holds)))
        ∙ ap (λ (ws : List ℕ). ws ++ x ∷ []) before
        ∙ append_assoc (take t g.w2.now) words (x ∷ [])
        ∙ ap₂ (λ (ws : List ℕ) (j : ℕ). take t g.w2.now ++ (ws ++ j ∷ [])) (sym b) y;
    aside = λ j m.
        ap (λ (ws : List ℕ). get_or ws j 0) q.second
        ∙ get_or-set_other g₂.w2.now (t + k) j x 0 (omega (arith, p.count))
        ∙ d.aside j (inr m)
        ∙ p.aside j m;
    buffers = buffers_on p.buffers (buffers_on d.buffers q.buffers);
  }
    where
      many : length words ≡ suc (length (inner_of g s))
      many = length_row (graph_in g) s.last (inner_of g s) v

      before : take (t + k) g₂.w2.now ≡ take t g.w2.now ++ words
      before = trail_kept g₁ g₂ (t + k) (omega (arith, p.count)) (λ j m. d.aside j (inl m)) ∙ p.trail

-- ---- leaf

module _ {g : WorkingGraph} {t v u i : ℕ} (h : LeafThere g t v u i) where
  leaf_pair : (v < 1024) × (u < 1024)
  leaf_pair = pair_below (holds_graph g.holds) v u h.is.pair

  pub leaf_asks : Joins g.slots g.w1.now i u v × (u < 1024) × (partners 1024 (graph_in g) v ≡ u ∷ [])
  leaf_asks = (h.joins, leaf_pair.1, partners_one (holds_graph g.holds) v u h.is.one h.is.pair)

  pub leaf_taken : {r : Taken} {g₁ g₂ : WorkingGraph} {x : ℕ} → r.trail ≡ t + 1 → r.carried ≡ graph_in g u v
      → Changes g.slots (leafed (graph_in g) u v) g g₁ → WordSet t x g₁ g₂ → x ≡ closing 1 u v 0 0 0
      → StepTaken g g₂ t (leaf u v) r
  unfolding step_words
  leaf_taken {r} {g₁} {g₂} {x} k o c q z = record {
    graph = rw (q.slots, q.first) c.graph;
    carried = o;
    words = k;
    trail =
        ap (λ (j : ℕ). take j g₂.w2.now) k
        ∙ ap (take (t + 1)) q.second
        ∙ rw add-one (take-suc-set g₁.w2.now t x (omega (arith, h.room, holds_room g₁.holds)))
        ∙ ap₂ (λ (ws : List ℕ) (y : ℕ). ws ++ y ∷ [])
        (trail_kept g g₁ t (omega (arith, h.room)) (λ j m. c.aside j (inl m))) z;
    aside = λ j m.
        ap (λ (ws : List ℕ). get_or ws j 0) q.second
        ∙ get_or-set_other g₁.w2.now t j x 0 (omega (arith, h.room))
        ∙ c.aside j (inr m);
    buffers = buffers_on c.buffers q.buffers;
  }

-- ---- ring and chain

dropped_at : (cs : List ℕ) (w : Points) (a b : ℕ) → mem b cs ≡ true → dropped cs w a b ≡ 0
unfolding dropped
dropped_at cs w a b m = go (meets_test cs a b)
  where
    go : {t : Bool} → Test (Meets cs a b) (Away cs a b) t → cond t 0 (w a b) ≡ 0
    go (pass p) = refl
    go (fail n) = clash m n.1

module _ {g : WorkingGraph} {t z : ℕ} {s : Stop} (h : RingThere g t z s) where
  pub ring_row : RowThere g t s s.last
  ring_row = record {
    row = h.is.row;
    starts = h.starts;
    joins = h.joins;
    room = omega (arith, h.room);
    fits = h.fits;
  }

  ring_below : (s.last < 1024) × (z < 1024)
  ring_below = (
    (pair_below (holds_graph g.holds) s.last s.end (joins_pair g.holds h.joins)).0,
    inner_below (holds_graph g.holds) h.is.row z h.is.low.here,
  )

  module _ {k : ℕ} {g₁ : WorkingGraph} (p : RowGone g g₁ t s s.last k) where
    pub ring_read : {ws : List ℕ} {b : RingPoints} → ws ≡ take (t + k - t) (drop t g₁.w2.now)
        → ((w : Points) (u : ℕ) (inner : List ℕ) → RowOf w u inner u ws → RingH w u inner b)
        → RingH (graph_in g) s.last (inner_of g s) b
    ring_read q b = b (graph_in g) s.last (inner_of g s) (row_read ring_row p q)

    pub ring_unpaired : Unpaired g₁ s.last z
    ring_unpaired = record {
      free = omega (arith, p.free);
      apart = λ q. mem_apart z s.last (inner_of g s) h.is.low.here h.is.row.first_off (sym q);
      first_below = ring_below.0;
      last_below = ring_below.1;
      none = at_pair p.graph s.last z ∙ dropped_at (inner_of g s) (graph_in g) s.last z h.is.low.here;
    }

    pub ring_closing : CellsFit (found.Ring s.last z) × (k ≤ 4096)
    ring_closing = (ring_below, omega (arith, p.count, h.room))

    pub ring_taken : {b : RingPoints} {r : Taken} {g₂ g₃ : WorkingGraph} {x : ℕ}
        → RingH (graph_in g) s.last (inner_of g s) b
        → Changes g₂.slots (put s.last z (b.whole - b.less_u) (graph_in g₁)) g₁ g₂ → WordSet (t + k) x g₂ g₃
        → x ≡ closing 2 s.last 0 z k 0 → r.trail ≡ t + k + 1 → r.carried ≡ b.less_u
        → StepTaken g g₃ t (ring s.last z (inner_of g s)) r
    unfolding ringed
    ring_taken b d q y a o =
        closed p h.room d q
        (ap₂ (λ (j : ℕ) (w : Points). put s.last z j w) (ap₂ (λ (m n : ℕ). m - n) b.whole b.less_u) p.graph) refl
        (y ∙ ap (λ (j : ℕ). closing 2 s.last 0 z j 0) p.count) a (o ∙ b.less_u)

pub ring_less : {w : Points} {u : ℕ} {inner : List ℕ} {p : RingPoints} → RingH w u inner p → p.less_u ≤ p.whole
ring_less {w} {u} {inner} h = omega (arith, h.whole, h.less_u, h_mono w (walk u inner u) u [])

-- the last pair of a row
last_pair : (w : Points) (u : ℕ) (cs : List ℕ) (v : ℕ) → Each (λ a b. 0 < w a b) (walk u cs v) → (x : ℕ) × (0 < w x v)
last_pair w u [] v p = (u, p.0)
last_pair w u (c ∷ cs) v p = last_pair w c cs v p.1

-- the three pairs with other points that are the same
ends_same : (w : Points) (u v z : ℕ) {uv uv' vz vz' uz uz' : ℕ} → uv ≡ uv' → vz ≡ vz' → uz ≡ uz'
    → put u z uz (put v z vz (put u v uv w)) ≡ put u z uz' (put v z vz' (put u v uv' w))
ends_same w u v z p q r = cc

module _ {g : WorkingGraph} {t v z : ℕ} {s : Stop} (h : ChainThere g t v z s) where
  abbrev w : Points
  w = graph_in g

  abbrev inner : List ℕ
  inner = inner_of g s

  pub chain_row : RowThere g t s v
  chain_row = record {
    row = h.is.row;
    starts = h.starts;
    joins = h.joins;
    room = omega (arith, h.room);
    fits = h.fits;
  }

  chain_below : (s.last < 1024) × (v < 1024) × (z < 1024)
  chain_below =
      let k = holds_graph g.holds in
      let p = last_pair w s.last inner v h.is.row.live in (
        (pair_below k s.last s.end (joins_pair g.holds h.joins)).0,
        (pair_below k p.0 v p.1).1,
        inner_below k h.is.row z h.is.low.here,
      )

  ends_apart : s.last ≢ v
  ends_apart q = omega (arith, h.is.ends)

  module _ {k : ℕ} {g₁ : WorkingGraph} (p : RowGone g g₁ t s v k) where
    pub chain_read : {ws : List ℕ} {b : ChainPoints} → ws ≡ take (t + k - t) (drop t g₁.w2.now)
        → ((w : Points) (u : ℕ) (inner : List ℕ) (v : ℕ) → RowOf w u inner v ws → u ≢ v → ChainH w u inner v b)
        → ChainH w s.last inner v b
    chain_read q b = b w s.last inner v (row_read chain_row p q) ends_apart

    pub chain_closing : CellsFit (found.Chain s.last v z) × (k ≤ 4096)
    chain_closing = (chain_below, omega (arith, p.count, h.room))

    -- the pair of the ends is not the row's
    direct : graph_in g₁ s.last v ≡ w s.last v
    direct = at_pair p.graph s.last v ∙ dropped_out inner w s.last v (h.is.row.first_off, h.is.row.last_off)

    module _ (uv vz uz : ℕ) where
      abbrev put_there : declared-ends.Ends
      put_there = record { u = s.last; v = v; z = z; uv = uv; vz = vz; uz = uz }

      pub chain_ends : EndsThere g₁ put_there
      chain_ends = record {
        free = p.free;
        ends_apart = ends_apart;
        first_apart = λ q. mem_apart z s.last inner h.is.low.here h.is.row.first_off (sym q);
        last_apart = λ q. mem_apart z v inner h.is.low.here h.is.row.last_off (sym q);
        first_below = chain_below.0;
        last_below = chain_below.1;
        inner_below = chain_below.2;
        first_none = at_pair p.graph s.last z ∙ dropped_at inner w s.last z h.is.low.here;
        last_none = at_pair p.graph v z ∙ dropped_at inner w v z h.is.low.here;
      }

      module _ {b : ChainPoints} (c : ChainH w s.last inner v b) (duv : uv ≡ b.whole - b.inner)
          (dvz : vz ≡ b.less_u - b.inner) (duz : uz ≡ b.less_v - b.inner) where
        abbrev kept : ℕ
        kept = H w (s.last ∷ v ∷ []) (walk s.last inner v)

        minus : {m n : ℕ} → m ≡ n → m - b.inner ≡ n - kept
        minus r = ap₂ (λ (m n : ℕ). m - n) r c.inner_only

        now_uv : uv ≡ H w [] (walk s.last inner v) - kept
        now_uv = duv ∙ minus c.whole

        pub chain_taken : {more : Bool} {r : Taken} {g₂ g₃ : WorkingGraph} {x : ℕ} → EndsPut g₁ g₂ put_there more
            → WordSet (t + k) x g₂ g₃ → x ≡ closing 3 s.last v z k (ι more) → r.trail ≡ t + k + 1
            → r.carried ≡ b.inner → StepTaken g g₃ t (chain s.last v z inner) r
        unfolding chained
        chain_taken {more} d q y a o =
            closed p h.room d.changes q
            (ap (λ (f : Points). put s.last z uz (put v z vz (put s.last v (max (graph_in g₁ s.last v) uv) f))) p.graph
            ∙ ends_same (dropped inner w) s.last v z (ap₂ (λ (m n : ℕ). max m n) direct now_uv) (dvz ∙ minus c.less_u)
            (duz ∙ minus c.less_v))
            refl
            (y ∙ ap₂ (λ (j m : ℕ). closing 3 s.last v z j m) p.count told) a (o ∙ c.inner_only)
          where
            told : ι more ≡ ι (outweighs w s.last v inner)
            told = ap ι (d.told ∙ ap₂ ltb now_uv direct)

pub chain_less : {w : Points} {u v : ℕ} {inner : List ℕ} {p : ChainPoints} → ChainH w u inner v p
    → (p.inner ≤ p.whole) × (p.inner ≤ p.less_u) × (p.inner ≤ p.less_v)
chain_less {w} {u} {v} {inner} h = (
  omega (arith, h.whole, h.inner_only, h_mono w es u (v ∷ []), h_mono w es v []),
  omega (arith, h.less_u, h.inner_only, h_less w es (u ∷ []) (u ∷ v ∷ []) first_kept),
  omega (arith, h.less_v, h.inner_only, h_mono w es u (v ∷ [])),
)
  where
    es : List Pair
    es = walk u inner v

    first_kept : (c : ℕ) → mem c (u ∷ []) ≡ true → mem c (u ∷ v ∷ []) ≡ true
    first_kept c m = mem_head c u (v ∷ []) (mem_one c u m)

-- ---- the step that was found

is_leaf : {w : Points} (r : Rule) (c u v : ℕ) → IsStep 1024 w r c (leaf u v) → IsLeaf 1024 w u v
is_leaf by_leaf c u v p = p.1
is_leaf by_ring c u v p = absurd p
is_leaf by_chain c u v p = absurd p

is_ring : {w : Points} (r : Rule) (c u z : ℕ) (inner : List ℕ) → IsStep 1024 w r c (ring u z inner)
    → IsRing 1024 w u z inner
is_ring by_leaf c u z cs p = absurd p
is_ring by_ring c u z cs p = p.1
is_ring by_chain c u z cs p = absurd p

is_chain : {w : Points} (r : Rule) (c u v z : ℕ) (inner : List ℕ) → IsStep 1024 w r c (chain u v z inner)
    → IsChain 1024 w u v z inner
is_chain by_leaf c u v z cs p = absurd p
is_chain by_ring c u v z cs p = absurd p
is_chain by_chain c u v z cs p = p.1

-- the inner cells of a row are read by walking
inner_is : {e : ℕ} {w1 w2 : List ℕ} {u v f : ℕ} {cs : List ℕ} → Holds e w1 w2 → IsRow 1024 (graph_of e w1) u cs v
    → Ends 1024 (graph_of e w1) u v → f ≡ first v cs → inner_at e w1 u f ≡ cs
inner_is {e} {w1} {u = u} h r end q =
    ap (λ (j : ℕ). inner_at e w1 u j) q ∙ ap (λ (y : ReadRow). y.0) (row_of (holds_graph h) r end)

pub found_step : {e : ℕ} {w1 w2 : List ℕ} → Holds e w1 w2 → (r : Rule) (c : ℕ) {s : Step}
    → IsStep 1024 (graph_of e w1) r c s → {x : Found} → Finds e w1 (some s) x → step_of (graph_of e w1) x ≡ s
found_step {e} {w1} h r c {s} p {x} m =
    told_step (λ u. inner_at e w1 u x.first) x.step s m.step ∙ go s p m.way
  where
    go : (s : Step) → IsStep 1024 (graph_of e w1) r c s → Way e w1 (some s) x.first x.slot
        → over (λ u. inner_at e w1 u x.first) s ≡ s
    go (leaf u v) p m = refl
    go (ring u z cs) p m = ap (ring u z) (inner_is h (is_ring r c u z cs p).row (inl refl) m.0)
    go (chain u v z cs) p m =
        let i = is_chain r c u v z cs p in
        ap (chain u v z) (inner_is h i.row (inr i.last_end) m.0)

-- What is known of the step that was found.
record FoundStep (g : WorkingGraph) (t : ℕ) (x : Found) (s : Step) : Type 0 where
  rule : Rule
  cell : ℕ
  is : IsStep 1024 (graph_in g) rule cell s
  way : Way g.slots g.w1.now (some s) x.first x.slot
  room : t + length (step_words (graph_in g) s) ≤ trail_room

row_fits : (t : ℕ) (w : Points) (u : ℕ) (cs : List ℕ) (v k : ℕ)
    → t + length (words_of_row w u cs v ++ k ∷ []) ≤ trail_room
    → t + length cs + 2 ≤ trail_room
row_fits t w u cs v k l = omega (arith, length-append (words_of_row w u cs v) (k ∷ []), length_row w u cs v)

module _ {g : WorkingGraph} {t : ℕ} {x : Found} (h : StepThere g t x) where
  stands : {k : declared.Step} → x.step ≡ k → FoundStep g t x (as_step k (λ u. inner_at g.slots g.w1.now u x.first))
  stands q =
      subst (FoundStep g t x)
      (sym (found_step g.holds h.rule h.cell h.is h.finds)
      ∙ ap (λ k. as_step k (λ u. inner_at g.slots g.w1.now u x.first)) q)
      (record { rule = h.rule; cell = h.cell; is = h.is; way = h.finds.way; room = h.room })

  pub leaf_found : {v u : ℕ} → x.step ≡ found.Leaf v u → LeafThere g t v u x.slot
  unfolding step_words
  leaf_found {v} {u} q =
      let s = stands q in
      record { is = is_leaf s.rule s.cell u v s.is; joins = s.way; room = omega (arith, s.room) }

  pub ring_found : {u z : ℕ} → x.step ≡ found.Ring u z → RingThere g t z (entered x u)
  unfolding step_words
  ring_found {u} {z} q =
      let s = stands q in
      record {
        is = is_ring s.rule s.cell u z (inner_of g (entered x u)) s.is;
        starts = sym s.way.0;
        joins = s.way.1;
        room = row_fits t (graph_in g) u (inner_of g (entered x u)) u _ s.room;
        fits = h.fits;
      }

  pub chain_found : {u v z : ℕ} → x.step ≡ found.Chain u v z → ChainThere g t v z (entered x u)
  unfolding step_words
  chain_found {u} {v} {z} q =
      let s = stands q in
      record {
        is = is_chain s.rule s.cell u v z (inner_of g (entered x u)) s.is;
        starts = sym s.way.0;
        joins = s.way.1;
        room = row_fits t (graph_in g) u (inner_of g (entered x u)) v _ s.room;
        fits = h.fits;
      }
