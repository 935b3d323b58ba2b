-- The graph of a list is the list after Rule 2.3 (`weightless`); a step that is allowed is the published rule that it
-- is named after (`published`, of a slip `slip_published`). In order: lists; what is dropped and put among the inner
-- cells; the three rules; slips. Assumes nothing.
use mathlib.Core.Path.{◌≡◌, refl, sym, ap, ◌∙◌}
use mathlib.Core.Logic.{◌⊎◌, inl, inr, ◌≢◌}
use mathlib.Core.Bool.{Bool, true, false, cond}
use mathlib.Core.List.{List, [], ◌∷◌}
use Prim.Native.Nat.{ℕ, ◌-◌, ◌≤◌, ◌<◌, max}
use native.Mathlib.Omega.{arith}
use lib.ListN.{length}
use Rattle.matching.specs.Lists.{mem}
use Rattle.matching.specs.Pairs.{Pair, Points, Each, touches}
use Rattle.matching.specs.Listed.{Entry, Accepted, listed}
use Rattle.matching.specs.Graph.{Graph, degree, put, dropped}
use Rattle.matching.specs.Best.{H, walk}
use Rattle.matching.specs.Steps.{Rule, by_leaf, by_ring, by_chain, Step, leaf, ring, chain, leafed, ringed}
use Rattle.matching.specs.Steps.{chained, apply}
use Rattle.matching.specs.Shapes.{first, last, IsRow, IsLeaf, IsRing, IsChain, IsStep}
use Rattle.matching.specs.Slip.{AreSteps}
use Rattle.matching.specs.Published.{Rule23, Rule24, Part, Removed, Rule25, Rule26, Published, AllPublished}
use Rattle.matching.proofs.Alls.{all_map, all_has}
use Rattle.matching.proofs.Pairing.{present}
use Rattle.matching.proofs.Entries.{has_listed, listed_none, list_pairing, list_trimmed}
use Rattle.matching.proofs.Tests.{Test, pass, fail, eq_test, fails}
use Rattle.matching.proofs.Partners.{partners_more_than_one}
use Rattle.matching.proofs.Pairs.{Same, same_test}
use Rattle.matching.proofs.Members.{mem_apart, mem_head, mem_one, or_left}
use Rattle.matching.proofs.Sums.{touches_test}
use Rattle.matching.proofs.Put.{put_else, pair_apart}
use Rattle.matching.proofs.Path.{length_walk}
use Rattle.matching.proofs.Best.{h_mono, h_less}
use Rattle.matching.proofs.Fits.{Fits}
use Rattle.matching.proofs.Exact.{step_graph}
use Rattle.matching.proofs.Find.{is_fits}
use Rattle.matching.proofs.Ring.{ring_at, ring_out}
use Rattle.matching.proofs.Chain.{chain_uz, chain_vz, chain_uv, chain_out}
use Rattle.matching.proofs.Ways.{most_points}

-- ---- lists

pub weightless : (n : ℕ) (es : List Entry) → Accepted n es → Rule23 es (listed es)
weightless n es h = record {
  weights = all_map (has_listed n es h) es (all_has es);
  others = listed_none es;
  value = λ a b p q. (
      let t = list_trimmed es a p.pairing in
      omega (
        arith,
        p.most b (list_pairing es b q.pairing),
        q.most (present (listed es) a) t.0,
        t.1,
      )
      );
}

-- ---- the inner cells

-- A cell whose pairs are dropped has none.
dropped_at : (cs : List ℕ) (w : Points) (c a : ℕ) → mem c cs ≡ true → dropped cs w c a ≡ 0
unfolding dropped
dropped_at cs w c a h = ap (λ (t : Bool). cond t 0 (w c a)) (or_left (mem c cs) (mem a cs) h)

-- The first and the last pair of a walk.
from_first : (w : Points) (u : ℕ) (cs : List ℕ) (v : ℕ) → 1 < length cs
    → Each (λ a b. 0 < w a b) (walk u cs v) → 0 < w u (first u cs)
from_first w u [] v l p = (let z : ⊥ = omega arith in absurd z)
from_first w u (c ∷ cs) v l p = p.0

from_last : (w : Points) (u : ℕ) (cs : List ℕ) (v : ℕ) → Each (λ a b. 0 < w a b) (walk u cs v) → 0 < w (last u cs) v
from_last w u [] v p = p.0
from_last w u (c ∷ cs) v p = from_last w c cs v p.1

row_part : {n : ℕ} {w : Points} {u : ℕ} {inner : List ℕ} {v : ℕ} → IsRow n w u inner v → Part n w u v inner
row_part {u = u} {inner} {v} r = record {
  long = omega (arith, r.more, length_walk u inner v);
  edges = r.live;
  apart = (r.apart, r.first_off, r.last_off);
  two = r.two;
}

module _ {n : ℕ} {w : Points} (g : Graph n w) where
  -- ---- leaf

  leaf_published : (u v : ℕ) → IsLeaf n w u v → Rule24 n w (leafed w u v) (w u v) u v
  unfolding leafed
  leaf_published u v p = record {
    one = p.one;
    neighbour = pair;
    deleted = λ a. gone a (touches_test v v a);
    incident = λ a k. at a (touches_test v u a) (touches_test u u a) k;
    others = λ a b au av bu bv. away a b (touches_test v a b) (touches_test u a b) au av bu bv;
    offset = refl;
  }
    where
      pair : 0 < w u v
      pair = omega (arith, p.pair, g.turned u v)

      gone : (a : ℕ) {t : Bool} → Test ((v ≡ v) ⊎ (a ≡ v)) ((v ≢ v) × (a ≢ v)) t
          → cond t 0 (cond (touches u v a) (w v a - w u v) (w v a)) ≡ 0
      gone a (pass e) = refl
      gone a (fail f) = absurd (f.0 refl)

      at : (a : ℕ) {s t : Bool} → Test ((u ≡ v) ⊎ (a ≡ v)) ((u ≢ v) × (a ≢ v)) s
          → Test ((u ≡ u) ⊎ (a ≡ u)) ((u ≢ u) × (a ≢ u)) t → a ≢ v
          → cond s 0 (cond t (w u a - w u v) (w u a)) ≡ max 0 (w u a - w u v)
      at a (pass (inl e)) y k = absurd (pair_apart g u v pair e)
      at a (pass (inr e)) y k = absurd (k e)
      at a (fail f) (pass e) k = omega arith
      at a (fail f) (fail e) k = absurd (e.0 refl)

      away : (a b : ℕ) {s t : Bool} → Test ((a ≡ v) ⊎ (b ≡ v)) ((a ≢ v) × (b ≢ v)) s
          → Test ((a ≡ u) ⊎ (b ≡ u)) ((a ≢ u) × (b ≢ u)) t → a ≢ u → a ≢ v → b ≢ u → b ≢ v
          → cond s 0 (cond t (w a b - w u v) (w a b)) ≡ w a b
      away a b (pass (inl e)) y au av bu bv = absurd (av e)
      away a b (pass (inr e)) y au av bu bv = absurd (bv e)
      away a b (fail f) (pass (inl e)) au av bu bv = absurd (au e)
      away a b (fail f) (pass (inr e)) au av bu bv = absurd (bu e)
      away a b (fail f) (fail e) au av bu bv = refl

  -- ---- ring

  module _ {u z : ℕ} {inner : List ℕ} (p : IsRing n w u z inner) where
    abbrev cycle : List Pair
    cycle = walk u inner u

    ring_removed : Removed (ringed w u z inner) u u z inner
    unfolding ringed
    ring_removed = record {
      kept = p.low.here;
      gone = λ c a h k. put_else u z _ _ c a (fails (same_test u z c a) (other c a h k)) ∙ dropped_at inner w c a h;
      only = λ a k l. put_else u z _ _ z a (fails (same_test u z z a) (end a k))
          ∙ dropped_at inner w z a p.low.here;
    }
      where
        other : (c a : ℕ) → mem c inner ≡ true → c ≢ z → Same u z c a → ⊥
        other c a h k (inl q) = mem_apart c u inner h p.row.first_off q.0
        other c a h k (inr q) = k q.0

        end : (a : ℕ) → a ≢ u → Same u z z a → ⊥
        end a k (inl q) = mem_apart z u inner p.low.here p.row.first_off q.0
        end a k (inr q) = k q.1

    -- u has two partners in the ring
    ring_end : (3 ≤ degree n w u) ⊎ (degree n w u ≡ 2)
    ring_end = go (eq_test (degree n w u) 2)
      where
        two : 1 < degree n w u
        two =
            partners_more_than_one g u (first u inner) (last u inner) (λ e. omega (arith, p.towards))
            (from_first w u inner u p.row.more p.row.live)
            (omega (arith, from_last w u inner u p.row.live, g.turned u (last u inner)))

        go : {t : Bool} → Test (degree n w u ≡ 2) (degree n w u ≢ 2) t → (3 ≤ degree n w u) ⊎ (degree n w u ≡ 2)
        go (pass e) = inr e
        go (fail e) = inl (omega (arith, two))

    ring_published : Fits w (ring u z inner) → Rule25 n w (ringed w u z inner) (H w (u ∷ []) cycle) u z inner
    ring_published f = record {
      cycle = row_part p.row;
      at = ring_end;
      removed = ring_removed;
      edge = λ c k hc hk. omega (
        arith,
        ring_at g f.0 z f.1,
        most_points g p.row [] c hc,
        most_points g p.row (u ∷ []) k hk,
        h_mono w cycle u [],
      );
      others = λ a b h k. ring_out g f.0 z f.1 a b (h, k);
      offset = λ k hk. sym (most_points g p.row (u ∷ []) k hk);
    }

  -- ---- chain

  module _ {u v z : ℕ} {inner : List ℕ} (p : IsChain n w u v z inner) where
    abbrev path : List Pair
    path = walk u inner v

    chain_removed : Removed (chained w u v z inner) u v z inner
    unfolding chained
    chain_removed = record {
      kept = p.low.here;
      gone = λ c a h k.
          put_else u z _ _ c a (fails (same_test u z c a) (other u c a p.row.first_off h k))
          ∙ put_else v z _ _ c a (fails (same_test v z c a) (other v c a p.row.last_off h k))
          ∙ direct _ c a h;
      only = λ a k l.
          put_else u z _ _ z a (fails (same_test u z z a) (end u a p.row.first_off k))
          ∙ put_else v z _ _ z a (fails (same_test v z z a) (end v a p.row.last_off l))
          ∙ direct _ z a p.low.here;
    }
      where
        other : (e c a : ℕ) → mem e inner ≡ false → mem c inner ≡ true → c ≢ z → Same e z c a → ⊥
        other e c a o h k (inl q) = mem_apart c e inner h o q.0
        other e c a o h k (inr q) = k q.0

        end : (e a : ℕ) → mem e inner ≡ false → a ≢ e → Same e z z a → ⊥
        end e a o k (inl q) = mem_apart z e inner p.low.here o q.0
        end e a o k (inr q) = k q.1

        no_end : (c a : ℕ) → mem c inner ≡ true → Same u v c a → ⊥
        no_end c a h (inl q) = mem_apart c u inner h p.row.first_off q.0
        no_end c a h (inr q) = mem_apart c v inner h p.row.last_off q.0

        direct : (k c a : ℕ) → mem c inner ≡ true → put u v k (dropped inner w) c a ≡ 0
        direct k c a h = put_else u v _ _ c a (fails (same_test u v c a) (no_end c a h)) ∙ dropped_at inner w c a h

    chain_published : Fits w (chain u v z inner)
        → Rule26 n w (chained w u v z inner) (H w (u ∷ v ∷ []) path) u v z inner
    chain_published f = record {
      path = row_part p.row;
      ends = ((λ e. omega (arith, p.ends)), p.first_end, p.last_end);
      removed = chain_removed;
      uz = λ k q hk hq. omega (
        arith,
        chain_uz g f.0 z f.1 f.2,
        most_points g p.row (v ∷ []) k hk,
        most_points g p.row (u ∷ v ∷ []) q hq,
        h_mono w path u (v ∷ []),
      );
      vz = λ k q hk hq. omega (
        arith,
        chain_vz g f.0 z f.1 f.2,
        most_points g p.row (u ∷ []) k hk,
        most_points g p.row (u ∷ v ∷ []) q hq,
        second,
      );
      uv = λ k q hk hq. (
        omega (
          arith,
          most_points g p.row [] k hk,
          most_points g p.row (u ∷ v ∷ []) q hq,
          h_mono w path u (v ∷ []),
          h_mono w path v [],
        ),
        omega (
          arith,
          chain_uv g f.0 z f.1 f.2,
          most_points g p.row [] k hk,
          most_points g p.row (u ∷ v ∷ []) q hq,
        ),
      );
      others = λ a b h k x y. chain_out g f.0 z f.1 f.2 a b (h, k) (fails (same_test u v a b) (neither a b x y));
      offset = λ q hq. sym (most_points g p.row (u ∷ v ∷ []) q hq);
    }
      where
        neither : (a b : ℕ) → ((a ≡ u) × (b ≡ v) → ⊥) → ((a ≡ v) × (b ≡ u) → ⊥) → Same u v a b → ⊥
        neither a b x y (inl q) = x q
        neither a b x y (inr q) = y q

        second : H w (u ∷ v ∷ []) path ≤ H w (u ∷ []) path
        second = h_less w path (u ∷ []) (u ∷ v ∷ []) (λ c h. mem_head c u (v ∷ []) (mem_one c u h))

  pub published : (r : Rule) (c : ℕ) (s : Step) → IsStep n w r c s → Published n w s
  published by_leaf c (ring u z inner) p = elim p [ ]
  published by_leaf c (chain u v z inner) p = elim p [ ]
  published by_ring c (leaf u v) p = elim p [ ]
  published by_ring c (chain u v z inner) p = elim p [ ]
  published by_chain c (leaf u v) p = elim p [ ]
  published by_chain c (ring u z inner) p = elim p [ ]
  published by_leaf c (leaf u v) p = leaf_published u v p.1
  published by_ring c (ring u z inner) p = ring_published p.1 (is_fits g by_ring c (ring u z inner) p)
  published by_chain c (chain u v z inner) p = chain_published p.1 (is_fits g by_chain c (chain u v z inner) p)

pub slip_published : {n : ℕ} {w : Points} → Graph n w → (rs : List (Rule × ℕ)) (ss : List Step) → AreSteps n w rs ss
    → AllPublished n w ss
slip_published g [] [] a = g
slip_published g [] (s ∷ ss) a = absurd a
slip_published g (r ∷ rs) [] a = absurd a
slip_published {w = w} g (r ∷ rs) (s ∷ ss) a = (
  g,
  published g r.0 r.1 s a.0,
  slip_published {w = apply w s} (step_graph g s (is_fits g r.0 r.1 s a.0)) rs ss a.1,
)
