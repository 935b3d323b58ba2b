-- What is left when pairs are put in place of a row. In order: a change upon a change, and none (`changes_on`,
-- `unchanged`); a pair put where it has no points, put twice, and put elsewhere (`put_zero`, `put_twice`,
-- `put_beyond`); a pair that gets points, its lower cell first (`no_points`, `sorted`, `sorted_none`, `sorted_put`),
-- that goes (`freed_none`, `freed_kill`), and that gets the larger points (`free_unpaired`, `pair_raised`); the three
-- pairs of a chain's ends (`ends_last`, `ends_first`, `ends_put`). Assumes nothing.
use mathlib.Core.Path.{◌≡◌, refl, sym, ap, ◌∙◌, fun_ext}
use mathlib.Core.Logic.{inl, inr, ◌≢◌}
use mathlib.Core.Bool.{Bool, cond}
use Prim.Native.Nat.{ℕ, ◌+◌, ◌≤◌, ◌<◌, max, min}
use native.Mathlib.Omega.{arith}
use lib.Dec.{ltb}
use lib.ListN.{get_or}
use Rattle.matching.specs.Pairs.{Points}
use Rattle.matching.specs.Graph.{Graph, put}
use Rattle.matching.proofs.Tests.{Test, pass, fail, fails, lt_test}
use Rattle.matching.proofs.Pairs.{Same, Apart, same_test}
use Rattle.matching.proofs.Sums.{turned_same}
use Rattle.matching.proofs.Put.{put_at, put_else}
use Rattle.slots.specs.Slots.{low_of, high_of, Joins}
use Rattle.slots.specs.Working.{graph_in, Changes}
use Rattle.slots.specs.declared.graph.WorkingGraph.{WorkingGraph}
use Rattle.slots.proofs.Graphs.{holds_graph, joins_points}
use Rattle.slots.proofs.Holding.{put_turned, joins_put}
use Rattle.slots.proofs.Stores.{aside_on}
use Rattle.slots.proofs.Working.{buffers_on}
use Rattle.putting.specs.Putting.{Unpaired, PairRaised, EndsThere, EndsPut}
use Rattle.putting.specs.declared.Ends.{Ends}
use Rattle.finding.proofs.Gone.{put_away}

-- ---- changes

pub changes_on : {e e' : ℕ} {w w' w'' : Points} {g g' g'' : WorkingGraph} → Changes e w g g'
    → Changes e' w' g' g'' → w' ≡ w'' → Changes e' w'' g g''
changes_on {g = g} {g' = g'} {g'' = g''} h k q = record {
  slots = k.slots;
  graph = k.graph ∙ q;
  aside = aside_on g.w2.now g'.w2.now g''.w2.now h.aside k.aside;
  buffers = buffers_on h.buffers k.buffers;
}

pub unchanged : {w : Points} (g : WorkingGraph) → graph_in g ≡ w → Changes g.slots w g g
unchanged g q = record {
  slots = refl;
  graph = q;
  aside = λ j m. refl;
  buffers = record { first = refl; second = refl };
}

-- ---- a pair put

pub put_zero : {n : ℕ} {w : Points} → Graph n w → (x y : ℕ) → w x y ≡ 0 → put x y 0 w ≡ w
unfolding put
put_zero {n} {w} g x y z = fun_ext (λ a. fun_ext (λ b. go a b (same_test x y a b)))
  where
    go : (a b : ℕ) {t : Bool} → Test (Same x y a b) (Apart x y a b) t → cond t 0 (w a b) ≡ w a b
    go a b (pass s) = sym (turned_same w g.turned x y a b s ∙ z)
    go a b (fail n) = refl

pub put_twice : (x y k l : ℕ) (w : Points) → put x y k (put x y l w) ≡ put x y k w
unfolding put
put_twice x y k l w = fun_ext (λ a. fun_ext (λ b. go a b (same_test x y a b)))
  where
    go : (a b : ℕ) {t : Bool} → Test (Same x y a b) (Apart x y a b) t
        → cond t k (cond t l (w a b)) ≡ cond t k (w a b)
    go a b (pass s) = refl
    go a b (fail n) = refl

pub put_beyond : (x y k : ℕ) (w : Points) (c z : ℕ) → z ≢ x → z ≢ y → put x y k w c z ≡ w c z
put_beyond x y k w c z nx ny = put_else x y k w c z (fails (same_test x y c z) off)
  where
    off : Same x y c z → ⊥
    off (inl q) = ny q.1
    off (inr q) = nx q.1

pub at_pair : {g h : Points} → g ≡ h → (a b : ℕ) → g a b ≡ h a b
at_pair q a b = ap (λ (w : Points). w a b) q

-- ---- one pair

module _ {g : WorkingGraph} {x y : ℕ} (h : Unpaired g x y) where
  pub no_points : {k : ℕ} → k ≡ 0 → Changes g.slots (put x y k (graph_in g)) g g
  no_points {k} z =
      unchanged g
      (sym (put_zero (holds_graph g.holds) x y h.none) ∙ ap (λ (j : ℕ). put x y j (graph_in g)) (sym z))

  -- the lower cell first
  pub sorted : {p q : ℕ} → p ≡ min x y → q ≡ max x y → Same x y p q
  sorted {p} {q} l m = go (lt_test x y)
    where
      go : {t : Bool} → Test (x < y) (y ≤ x) t → Same x y p q
      go (pass a) = inl (omega arith, omega arith)
      go (fail a) = inr (omega arith, omega arith)

  pub sorted_none : {p q : ℕ} → Same x y p q → graph_in g p q ≡ 0
  sorted_none {p} {q} s = turned_same (graph_in g) (holds_graph g.holds).turned x y p q s ∙ h.none

  pub sorted_put : {p q : ℕ} (k : ℕ) {g' : WorkingGraph} → Same x y p q
      → Changes (g.slots + 1) (put p q k (graph_in g)) g g'
      → Changes g'.slots (put x y k (graph_in g)) g g' × (g'.slots ≤ g.slots + 1)
  sorted_put {p} {q} k s c = (
    record { slots = refl; graph = c.graph ∙ go s; aside = c.aside; buffers = c.buffers },
    omega (arith, c.slots),
  )
    where
      go : Same x y p q → put p q k (graph_in g) ≡ put x y k (graph_in g)
      go (inl e) = rw (e.0, e.1)
      go (inr e) = rw (e.0, e.1) (put_turned y x k (graph_in g))

-- ---- a pair that goes

module _ (g : WorkingGraph) (u v : ℕ) where
  pub freed_none : graph_in g u v ≡ 0
      → (0 ≡ graph_in g u v) × Changes g.slots (put u v 0 (graph_in g)) g g
  freed_none z = (sym z, unchanged g (sym (put_zero (holds_graph g.holds) u v z)))

  pub freed_kill : {i : ℕ} → Joins g.slots g.w1.now i u v → {g' : WorkingGraph}
      → Changes g.slots (put (low_of g.w1.now i) (high_of g.w1.now i) 0 (graph_in g)) g g'
      → (get_or g.w1.now i 0 ≡ graph_in g u v) × Changes g.slots (put u v 0 (graph_in g)) g g'
  freed_kill j c = (
    sym (joins_points g.holds j),
    record {
      slots = c.slots;
      graph = c.graph ∙ joins_put j 0 (graph_in g);
      aside = c.aside;
      buffers = c.buffers;
    },
  )

-- ---- a pair that is raised

module _ {g g' : WorkingGraph} (u v : ℕ) (c : Changes g.slots (put u v 0 (graph_in g)) g g') where
  pub free_unpaired : g.slots < 4096 → u ≢ v → u < 1024 → v < 1024 → Unpaired g' u v
  free_unpaired f n lu lv = record {
    free = omega (arith, c.slots);
    apart = n;
    first_below = lu;
    last_below = lv;
    none = at_pair c.graph u v ∙ put_at u v 0 (graph_in g);
  }

  pub pair_raised : {p : ℕ} (k l : ℕ) → p ≡ graph_in g u v → l ≡ max p k → {g'' : WorkingGraph}
      → Changes g''.slots (put u v l (graph_in g')) g' g'' → g''.slots ≤ g'.slots + 1
      → PairRaised g g'' u v k (ltb k p)
  pair_raised {p} k l q b d s = record {
    told = ap (ltb k) q;
    slots = omega (arith, c.slots, s);
    changes =
        changes_on c d
        (ap (put u v l) c.graph
        ∙ put_twice u v l 0 (graph_in g)
        ∙ ap (λ (x : ℕ). put u v x (graph_in g)) (b ∙ ap (λ (x : ℕ). max x k) q));
  }

-- ---- the three pairs of a chain's ends

module _ {g g₁ : WorkingGraph} {x : Ends} (h : EndsThere g x) {more : Bool}
    (p : PairRaised g g₁ x.u x.v x.uv more) where
  abbrev raised : Points
  raised = put x.u x.v (max (graph_in g x.u x.v) x.uv) (graph_in g)

  raised_none : (c : ℕ) → graph_in g c x.z ≡ 0 → raised c x.z ≡ 0
  raised_none c n =
      put_beyond x.u x.v (max (graph_in g x.u x.v) x.uv) (graph_in g) c x.z (λ q. h.first_apart (sym q))
      (λ q. h.last_apart (sym q))
      ∙ n

  pub ends_last : Unpaired g₁ x.v x.z
  ends_last = record {
    free = omega (arith, p.slots, h.free);
    apart = h.last_apart;
    first_below = h.last_below;
    last_below = h.inner_below;
    none = at_pair p.changes.graph x.v x.z ∙ raised_none x.v h.last_none;
  }

  module _ {g₂ : WorkingGraph}
      (q : Changes g₂.slots (put x.v x.z x.vz (graph_in g₁)) g₁ g₂) (l : g₂.slots ≤ g₁.slots + 1) where
    second : Changes g₂.slots (put x.v x.z x.vz raised) g g₂
    second = changes_on p.changes q (ap (put x.v x.z x.vz) p.changes.graph)

    pub ends_first : Unpaired g₂ x.u x.z
    ends_first = record {
      free = omega (arith, l, p.slots, h.free);
      apart = h.first_apart;
      first_below = h.first_below;
      last_below = h.inner_below;
      none =
          at_pair second.graph x.u x.z
          ∙ put_away x.v x.z x.vz raised x.u h.ends_apart h.first_apart x.z
          ∙ raised_none x.u h.first_none;
    }

    pub ends_put : {g₃ : WorkingGraph} → Changes g₃.slots (put x.u x.z x.uz (graph_in g₂)) g₂ g₃
        → EndsPut g g₃ x more
    ends_put d = record {
      told = p.told;
      changes = changes_on second d (ap (put x.u x.z x.uz) second.graph);
    }
