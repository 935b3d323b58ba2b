-- The step at a cell by the walks from it. In order: a step at c is met at one of its partners (`step_met`); what the
-- walks show is a ring or a chain (`ring_shown`, `chain_shown`); where they do not show it none is met (`ring_none`,
-- `chain_none`).
use mathlib.Core.Path.{◌≡◌, refl, sym, ap, ap₂, ◌∙◌, subst}
use mathlib.Core.Logic.{◌⊎◌, inl, inr, ◌≢◌, ⊎_map}
use mathlib.Core.Bool.{true, false}
use mathlib.Core.List.{List, [], ◌∷◌}
use mathlib.Core.Option.{none}
use Prim.Native.Nat.{ℕ, suc, ◌≤◌, ◌<◌}
use native.Mathlib.Omega.{arith}
use lib.ListN.{length}
use Rattle.matching.specs.Lists.{mem, distinct}
use Rattle.matching.specs.Pairs.{Points}
use Rattle.matching.specs.Graph.{Graph, degree}
use Rattle.matching.specs.Steps.{Rule, by_leaf, by_ring, by_chain, Step, leaf, ring, chain}
use Rattle.matching.specs.Shapes.{IsRow, Lowest, IsRing, IsChain, IsStep, first, last}
use Rattle.matching.specs.Find.{ReadRow}
use Rattle.matching.proofs.Tests.{is_test, fails}
use Rattle.matching.proofs.Members.{no_mem, mem_on, mem_head, mem_apart, mem_more, distinct_cons}
use Rattle.matching.proofs.Upto.{distinct_length}
use Rattle.matching.proofs.Put.{pair_below}
use Rattle.matching.proofs.Rows.{is_run, row_is, run_two, run_distinct, two_below, inner_below}
use Rattle.finding.specs.Walks.{stretch_at}
use Rattle.finding.specs.Finding.{RingTest, ChainTest, Met, MetBy, StepBy}
use Rattle.finding.proofs.Walks.{Bars, Walked, stretch_read, run_stretch, stretch_through}
use Rattle.finding.proofs.Turned.{turn, turn_length, turn_first, turn_mem, turn_run, Back, back}

-- The walk out of z at f; where it leads, and the cell before; the walk back from there.
module _ (w : Points) (z f : ℕ) where
  abbrev pub out_of : ReadRow
  out_of = stretch_at w (suc z) z f

  abbrev pub end_of : ℕ
  end_of = out_of.1

  abbrev pub nearest_end : ℕ
  nearest_end = last z out_of.0

  abbrev pub back_of : ReadRow
  back_of = stretch_at w z end_of nearest_end

module _ {w : Points} (g : Graph 1024 w) where
  -- ---- a step is met

  row_met : {u v z : ℕ} {inner : List ℕ} → IsRow 1024 w u inner v → Lowest z inner → Bars 1024 w (suc z) u
      → Bars 1024 w z v → (f : ℕ) × (0 < w z f) × Met w z f u inner v
  row_met {u} {v} {z} {inner} r low bu bv = (
    first u b.passed,
    b.way,
    record {
      end = ap (λ (x : ReadRow). x.1) out;
      before = ap (λ (x : ReadRow). last z x.0) out ∙ b.starts;
      row = run_stretch g z 1024 u inner v (is_run g r) low.least bv
          (distinct_length 1024 inner r.apart (inner_below g r));
    },
  )
    where
      b : Back 1024 w u inner v z
      b = back 1024 w u inner v (is_run g r) z low.here

      above : (c : ℕ) → mem c b.passed ≡ true → suc z ≤ c
      above c m = omega (arith, low.least c (b.within c m), mem_apart c z b.passed m b.free)

      few : length b.passed ≤ 1024
      few = distinct_length 1024 b.passed (run_distinct g z b.passed u b.run b.free)
          (λ c m. inner_below g r c (b.within c m))

      out : stretch_at w (suc z) z (first u b.passed) ≡ (b.passed, u)
      out = run_stretch g (suc z) 1024 z b.passed u b.run above bu few

  pub step_met : (r : Rule) (c : ℕ) (s : Step) → IsStep 1024 w r c s → (f : ℕ) × (0 < w c f) × MetBy w f s
  step_met by_leaf c (ring u z inner) p = elim p [ ]
  step_met by_leaf c (chain u v z inner) p = elim p [ ]
  step_met by_ring c (leaf u v) p = elim p [ ]
  step_met by_ring c (chain u v z inner) p = elim p [ ]
  step_met by_chain c (leaf u v) p = elim p [ ]
  step_met by_chain c (ring u z inner) p = elim p [ ]
  step_met by_leaf c (leaf u v) p = (u, rw (← p.0) p.1.pair, refl)
  step_met by_ring c (ring u z inner) p =
      rw (← p.0) (row_met p.1.row p.1.low (⊎_map (λ l. omega arith) (λ d. d) (turned p.1.at))
      (turned p.1.at))
    where
      turned : (degree 1024 w u ≢ 2) ⊎ (u < z) → (u < z) ⊎ (degree 1024 w u ≢ 2)
      turned (inl d) = inr d
      turned (inr l) = inl l
  step_met by_chain c (chain u v z inner) p =
      rw (← p.0) (row_met p.1.row p.1.low (inr p.1.first_end) (inr p.1.last_end))

  -- ---- what the walks show

  module _ {z f : ℕ} (two : degree 1024 w z ≡ 2) (way : 0 < w z f) where
    abbrev a : ReadRow
    a = out_of w z f

    abbrev u : ℕ
    u = end_of w z f

    abbrev p : ℕ
    p = nearest_end w z f

    abbrev r : ReadRow
    r = back_of w z f

    out : Walked 1024 w (suc z) z f a
    out = stretch_read g (suc z) 1024 z f way

    free : mem z a.0 ≡ false
    free = fails (is_test (mem z a.0)) (λ m. (let l = out.high z m in omega arith))

    -- the walk back passes z
    shown_here : mem z r.0 ≡ true
    shown_here =
        rw (turn_first a.0 [] z) at
        (stretch_through g z 1024 u (turn a.0 []) z (turn_run 1024 w z u a.0 [] tt out.run)
        (turn_mem (λ c. z ≤ c) a.0 [] (λ c m. omega (arith, out.high c m)) (λ c m. no_mem c m)) (omega arith) two
        few)
      where
        below : (c : ℕ) → mem c (z ∷ a.0) ≡ true → c < 1024
        below =
            mem_more (λ c. c < 1024) z a.0 (pair_below g z f way).0
            (λ c m. two_below g c (run_two g z a.0 u out.run c m))

        few : length (turn a.0 []) < 1024
        few =
            omega (
              arith,
              turn_length a.0 [],
              distinct_length 1024 (z ∷ a.0) (rw (free, run_distinct g z a.0 u out.run free)) below,
            )

    module _ (on : 0 < w u p) (apart : p ≢ last u r.0) (bar : (u < z) ⊎ (degree 1024 w u ≢ 2)) where
      along : Walked 1024 w z u p r
      along = stretch_read g z 1024 u p on

      shown_off : mem u r.0 ≡ false
      shown_off = fails (is_test (mem u r.0)) (λ m. no m bar)
        where
          no : mem u r.0 ≡ true → (u < z) ⊎ (degree 1024 w u ≢ 2) → ⊥
          no m (inl l) = (let k = along.high u m in omega arith)
          no m (inr d) = d (run_two g u r.0 r.1 along.run u m)

      shown_more : 1 < length r.0
      shown_more = go r.0 r.1 shown_here along.starts apart
        where
          go : (cs : List ℕ) (v : ℕ) → mem z cs ≡ true → first v cs ≡ p → p ≢ last u cs → 1 < length cs
          go [] v m s d = no_mem z m
          go (c ∷ []) v m s d = absurd (d (sym s))
          go (c ∷ b ∷ cs) v m s d = omega arith

      shown_row : mem r.1 r.0 ≡ false → IsRow 1024 w u r.0 r.1
      shown_row = row_is g u p r (record { starts = along.starts; run = along.run; off = shown_off }) shown_more

      shown_low : Lowest z r.0
      shown_low = record { here = shown_here; least = along.high }

    pub ring_shown : 0 < w u p → RingTest w z u p (last u r.0) r.1 → IsRing 1024 w u z r.0
    ring_shown on t =
        let d : p ≢ last u r.0 = λ q. (let l = t.1 in omega (arith, q)) in
        let row : IsRow 1024 w u r.0 u = rw t.0 at (shown_row on d t.2 (rw t.0 (shown_off on d t.2))) in
        record {
          row = row;
          low = shown_low on d t.2;
          at = turned t.2;
          towards = let s : first u r.0 ≡ p = rw t.0 at (along on d t.2).starts in omega (arith, s, t.1);
        }
      where
        turned : (u < z) ⊎ (degree 1024 w u ≢ 2) → (degree 1024 w u ≢ 2) ⊎ (u < z)
        turned (inl l) = inr l
        turned (inr d) = inl d

    pub back_starts : 0 < w u p → first r.1 r.0 ≡ p
    back_starts on = (stretch_read g z 1024 u p on).starts

    pub chain_shown : 0 < w u p → ChainTest w u p (last u r.0) r.1 → IsChain 1024 w u r.1 z r.0
    chain_shown on t =
        let bar = inr t.2 in
        let i = along on t.1 bar in
        record {
          row = shown_row on t.1 bar
              (fails (is_test (mem r.1 r.0)) (λ m. t.3 (run_two g u r.0 r.1 i.run r.1 m)));
          low = shown_low on t.1 bar;
          ends = t.0;
          first_end = t.2;
          last_end = t.3;
        }

-- ---- where the walks do not show it

-- the walks of a row that is met
met_walks : {w : Points} {z f u : ℕ} {inner : List ℕ} {v : ℕ} → Met w z f u inner v
    → (end_of w z f ≡ u) × (nearest_end w z f ≡ first v inner) × (back_of w z f ≡ (inner, v))
met_walks {w} {z} {f} {u} {inner} {v} m =
    (m.end, m.before, ap₂ (λ x y. stretch_at w z x y) m.end m.before ∙ m.row)

pub ring_none : (w : Points) (z f : ℕ)
    → (end_of w z f ≢ z
    → RingTest w z (end_of w z f) (nearest_end w z f) (last (end_of w z f) (back_of w z f).0) (back_of w z f).1 → ⊥)
    → StepBy w by_ring z f none
ring_none w z f miss (leaf _ v) p m = elim p [ ]
ring_none w z f miss (chain _ v _ inner) p m = elim p [ ]
ring_none w z f miss (ring u z' inner) p m = go u inner (rw p.0 at p.1) (rw p.0 at m)
  where
    go : (u : ℕ) (inner : List ℕ) → IsRing 1024 w u z inner → Met w z f u inner u → ⊥
    go u inner r m =
        let k = met_walks m in
        miss (λ q. mem_apart z u inner r.low.here r.row.first_off (sym q ∙ k.0)) (
          ap (λ (x : ReadRow). x.1) k.2 ∙ sym k.0,
          let q = ap₂ (λ x (y : ReadRow). last x y.0) k.0 k.2 in omega (arith, q, k.1, r.towards),
          rw k.0 (turned r.at),
        )
      where
        turned : (degree 1024 w u ≢ 2) ⊎ (u < z) → (u < z) ⊎ (degree 1024 w u ≢ 2)
        turned (inl d) = inr d
        turned (inr l) = inl l

-- the last of some cells is one of them
pub last_in : (x : ℕ) (xs : List ℕ) → mem (last x xs) (x ∷ xs) ≡ true
last_in x [] = mem_head x x [] refl
last_in x (y ∷ ys) = mem_on (last y ys) x (y ∷ ys) (last_in y ys)

pub chain_none : (w : Points) (z f : ℕ)
    → (end_of w z f ≢ z
    → ChainTest w (end_of w z f) (nearest_end w z f) (last (end_of w z f) (back_of w z f).0) (back_of w z f).1 → ⊥)
    → StepBy w by_chain z f none
chain_none w z f miss (leaf _ v) p m = elim p [ ]
chain_none w z f miss (ring _ _ inner) p m = elim p [ ]
chain_none w z f miss (chain u v z' inner) p m = go u v inner (rw p.0 at p.1) (rw p.0 at m)
  where
    go : (u v : ℕ) (inner : List ℕ) → IsChain 1024 w u v z inner → Met w z f u inner v → ⊥
    go u v inner r m =
        let k = met_walks m in
        miss (λ q. mem_apart z u inner r.low.here r.row.first_off (sym q ∙ k.0)) (
          let q = ap (λ (x : ReadRow). x.1) k.2 in omega (arith, q, k.0, r.ends),
          λ e. ends_apart inner r.row.apart r.row.more
              (sym k.1 ∙ e ∙ ap₂ (λ x (y : ReadRow). last x y.0) k.0 k.2),
          rw k.0 r.first_end,
          λ e. r.last_end (ap (λ (x : ReadRow). degree 1024 w x.1) (sym k.2) ∙ e),
        )
      where
        ends_apart : (cs : List ℕ) → distinct cs ≡ true → 1 < length cs → first v cs ≡ last u cs → ⊥
        ends_apart [] d l q = absurd (omega arith)
        ends_apart (c ∷ []) d l q = absurd (omega arith)
        ends_apart (c ∷ b ∷ cs) d l q =
            mem_apart c c (b ∷ cs) (subst (λ x. mem x (b ∷ cs) ≡ true) (sym q) (last_in b cs))
            (distinct_cons c (b ∷ cs) d).0 refl
