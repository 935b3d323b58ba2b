-- Undoing one step on the table. In order: no cell stands twice after it (`back_once`), the pairs that it puts in are
-- from its origin (`back_new`), and those that stay from where they were (`back_stays`); a leaf, whose u is free or not
-- (`leaf_free`, `leaf_paired`); the row of a ring or a chain on the trail (`row_asks`, `row_of`), its marked pairs to
-- be put (`put_there`) and put (`put_back`), and so a ring (`ring_put`, `ring_back`) and a chain (`chain_put`,
-- `chain_back`). Assumes nothing.
use mathlib.Core.Path.{◌≡◌, refl, sym, ap, subst, ◌∙◌}
use mathlib.Core.Logic.{◌≢◌}
use mathlib.Core.Bool.{Bool, true, false}
use mathlib.Core.List.{List, [], ◌∷◌, ◌++◌}
use Prim.Native.Nat.{ℕ, suc, ◌+◌, ◌-◌, ◌≤◌, ◌<◌}
use native.Mathlib.Omega.{arith}
use lib.ListN.{length, take, drop, length-drop, length-replicate}
use lib.Seq.{length-take-le}
use Rattle.buffers.specs.Map.{trail_room}
use Rattle.matching.specs.Pairs.{Pair, Points, Each, keep, free}
use Rattle.matching.specs.Pairing.{Once}
use Rattle.matching.specs.Best.{best, tie, walk}
use Rattle.matching.specs.Steps.{Step, leaf, ring, chain, name, apply, added, stays, undo, outweighs}
use Rattle.matching.specs.Graph.{Graph}
use Rattle.matching.specs.Origin.{Origin, Origins, number_in}
use Rattle.matching.proofs.Sums.{keep_all, each_map, each_all}
use Rattle.matching.proofs.Put.{pair_below, pair_apart}
use Rattle.matching.proofs.Fits.{Fits, Segment}
use Rattle.matching.proofs.Segment.{row_below}
use Rattle.matching.proofs.Find.{is_fits}
use Rattle.matching.proofs.Exact.{step_graph, step_lifted}
use Rattle.rows.specs.Row.{words_of_row, RowOf, unmarked, Blank, marked, less, RowBest}
use Rattle.rows.proofs.Parts.{length_row, row_few}
use Rattle.trail.specs.Trail.{row_pairs}
use Rattle.trail.proofs.Trail.{row_pairs_is}
use Rattle.undoing.specs.Unwinding.{TableOf, words_at, PutThere, ChainFreed, RingFreed}
use Rattle.undoing.specs.Unwinding.{stamped_with, StepBack, UndoneTable, RingBack, ChainBack}
use Rattle.partners.specs.Table.{joined, IsFrom, Mates, InTable, TableOnly}
use Rattle.partners.proofs.Joining.{joined_aside, mates_join}
use Rattle.undoing.specs.declared.Ends.{Ends}
use Rattle.undoing.proofs.Stamping.{mates_agree, stamped_new, stamped_old}
use Rattle.undoing.proofs.Marking.{words_same}

-- ---- a step

module _ {origin : Origin} {s : Step} {w2 : List ℕ} (b : StepBack origin s w2) where
  back_fits : Fits b.w s
  back_fits = is_fits b.graph (name s).0 (name s).1 s b.is

  back_once : Once (undo b.w s b.pairs)
  back_once = (step_lifted b.graph s back_fits b.pairs b.pairing).0.once

  back_in : InTable w2 b.from b.pairs
  back_in = record {
    once = b.pairing.once;
    within = each_map
        (λ x y h. (let q = pair_below after x y h in
        (omega (arith, q.0, b.cells), omega (arith, q.1, b.cells), pair_apart after x y h)))
        b.pairs b.pairing.held;
    mates = b.mates;
  }
    where
      after : Graph b.n (apply b.w s)
      after = step_graph b.graph s back_fits

  -- the pairs that it puts in, those that stay, and where all are from afterwards
  abbrev new : List Pair
  new = added b.w s b.pairs

  abbrev old : List Pair
  old = keep (stays b.w s) b.pairs

  abbrev origins : Origins
  origins = stamped_with origin new b.from

  back_new : Each (IsFrom origins origin) new
  back_new = stamped_new origin b.from new

  back_stays : (w2a : List ℕ) → Mates w2a b.from old → Mates w2a origins old
  back_stays w2a h = mates_agree w2a b.from origins old (stamped_old origin b.from new old back_once) h

-- ---- leaf

module _ {u v : ℕ} {origin : Origin} {w2 : List ℕ} (b : StepBack origin (leaf u v) w2) (room : 8192 ≤ length w2) where
  pub leaf_below : (u < 1024) × (v < 1024) × (number_in origin < 2048)
  leaf_below =
      let f = back_fits b in
      let p = pair_below b.graph u v f.pair in
      (omega (arith, p.0, b.cells), omega (arith, p.1, b.cells), b.few)

  -- whether u is free, as it is read
  abbrev pub Reads : Bool → Type 0
  Reads t = (o : Origins) (m : List Pair) → InTable w2 o m → t ≡ free u m

  free_is : {s t : Bool} → Reads s → s ≡ t → free u b.pairs ≡ t
  free_is r e = sym (r b.from b.pairs (back_in b)) ∙ e

  leaf_stays : Mates w2 (origins b) b.pairs
  leaf_stays =
      subst (Mates w2 (origins b)) (keep_all b.pairs)
      (back_stays b w2 (subst (Mates w2 b.from) (sym (keep_all b.pairs)) b.mates))

  pub leaf_free : {s : Bool} → Reads s → s ≡ true → {w2' : List ℕ} → w2' ≡ joined u v origin w2
      → UndoneTable b w2'
  leaf_free r e {w2'} q =
      let f = free_is r e in
      let one : new b ≡ (u, v) ∷ [] = rw f in
      let is : undo b.w (leaf u v) b.pairs ≡ (u, v) ∷ b.pairs =
      rw f (ap (λ (l : List Pair). (u, v) ∷ l) (keep_all b.pairs)) in
      let l = leaf_below in
      subst (TableOf w2 w2' (origins b)) (sym is)
      (subst (λ (xs : List ℕ). TableOf w2 xs (origins b) ((u, v) ∷ b.pairs)) (sym q)
      (record {
        mates =
            mates_join w2 (origins b) b.pairs u v room l.0 l.1 leaf_stays origin
            (subst (Each (IsFrom (origins b) origin)) one (back_new b)).0
            (subst Once is (back_once b));
        aside = joined_aside w2 u v origin;
      }))

  pub leaf_paired : {s : Bool} → Reads s → s ≡ false → UndoneTable b w2
  leaf_paired r e =
      let is : undo b.w (leaf u v) b.pairs ≡ b.pairs =
      rw (free_is r e) (keep_all b.pairs) in
      subst (TableOf w2 w2 (origins b)) (sym is) (record { mates = leaf_stays; aside = λ j l. refl })

-- ---- the row of a ring or a chain

-- A step with a row from u to v, whose words stand on the trail from place a on, as many as there is room for marks.
pub record RowBack (a : ℕ) (origin : Origin) (marks w2 : List ℕ) (s : Step) (u : ℕ) (inner : List ℕ) (v : ℕ)
    : Type 0 where
  back : StepBack origin s w2
  segment : Segment back.w u inner v
  on_trail : a + length marks ≤ trail_room
  words : words_at a marks w2 ≡ words_of_row back.w u inner v

module _ {a : ℕ} {origin : Origin} {marks w2 : List ℕ} {s : Step} {u : ℕ} {inner : List ℕ} {v : ℕ}
    (b : RowBack a origin marks w2 s u inner v) (room : 8192 ≤ length w2) where
  abbrev w : Points
  w = b.back.w

  row_count : length marks ≡ suc (length inner)
  row_count =
      sym (length-take-le (length marks) (drop a w2)
      (omega (arith, b.on_trail, length-drop a w2)))
      ∙ ap length b.words
      ∙ length_row w u inner v

  cells_below : Each (λ x y. (x < 1024) × (y < 1024)) (walk u inner v)
  cells_below =
      each_map
      (λ x y h. let p = pair_below b.back.graph x y h in
      (omega (arith, p.0, b.back.cells), omega (arith, p.1, b.back.cells)))
      (walk u inner v) b.segment.live

  -- the words as they are lent
  module _ (w2a : List ℕ) (kept : TableOnly w2 w2a) (rooma : 8192 ≤ length w2a) {lent : List ℕ}
      (is : lent ≡ take (a + length marks - a) (drop a w2a)) where
    row_lent : lent ≡ words_of_row w u inner v
    row_lent =
        is
        ∙ ap (λ (k : ℕ). take k (drop a w2a)) (let e : a + length marks - a ≡ length marks = omega arith in e)
        ∙ words_same a (length marks) w2 w2a (λ j l. kept j (omega arith)) b.on_trail room rooma
        ∙ b.words

    row_asks : {none : List ℕ} → none ≡ unmarked (length marks)
        → (3 ≤ length lent) × (length lent ≤ 1024) × (length none ≡ length lent) × Blank none
    row_asks {none} e =
        let l : length lent ≡ suc (length inner) = ap length row_lent ∙ length_row w u inner v in
        let low = row_below b.back.graph b.segment in
        let n : length none ≡ length marks = ap length e ∙ length-replicate (length marks) 0 in (
          omega (arith, b.segment.more),
          omega (arith, row_few b.back.n u inner b.segment.apart b.segment.first_off low.0 low.2),
          n ∙ row_count ∙ sym l,
          e ∙ ap unmarked (sym n),
        )

    row_of : RowOf w u inner v lent
    row_of = record {
      words = row_lent;
      apart = b.segment.apart;
      first_off = b.segment.first_off;
      last_off = b.segment.last_off;
      more = b.segment.more;
      fits = each_all b.back.small (walk u inner v);
    }

    module _ (marks' : List ℕ) (as_many : length marks' ≡ length marks)
        (best : marked marks' (walk u inner v) ≡ new b.back) where
      row_is : row_pairs (words_at a marks' w2a) v ≡ walk u inner v
      row_is =
          ap (λ (ws : List ℕ). row_pairs ws v)
          (ap (λ (k : ℕ). take k (drop a w2a)) as_many
          ∙ words_same a (length marks) w2 w2a (λ j l. kept j (omega arith)) b.on_trail room rooma
          ∙ b.words)
          ∙ row_pairs_is w u inner v (each_all b.back.small (walk u inner v))

      put_is : marked marks' (row_pairs (words_at a marks' w2a) v) ++ old b.back ≡ undo w s b.back.pairs
      put_is =
          ap (λ (es : List Pair). es ++ old b.back) (ap (marked marks') row_is ∙ best)

      put_there : Mates w2a b.back.from (old b.back) → PutThere a v origin marks' w2a
      put_there t = record {
        from = origins b.back;
        pairs = old b.back;
        few = b.back.few;
        origins = subst (Each (IsFrom (origins b.back) origin)) (sym (ap (marked marks') row_is ∙ best))
            (back_new b.back);
        on_trail = omega (arith, b.on_trail, as_many);
        below = subst (Each (λ x y. (x < 1024) × (y < 1024))) (sym row_is) cells_below;
        once = subst Once (sym put_is) (back_once b.back);
        mates = back_stays b.back w2a t;
      }

      put_back : {w2b : List ℕ}
          → TableOf w2a w2b (origins b.back)
          (marked marks' (row_pairs (words_at a marks' w2a) v) ++ old b.back)
          → UndoneTable b.back w2b
      put_back {w2b} t = record {
        mates = subst (Mates w2b (origins b.back)) put_is t.mates;
        aside = λ j l. t.aside j l ∙ kept j l;
      }

-- The marked pairs are put.
abbrev pub Put : (a v : ℕ) (origin : Origin) (marks w2a w2b : List ℕ) → Type 0
Put a v origin marks w2a w2b =
    (p : PutThere a v origin marks w2a)
    → TableOf w2a w2b p.from (marked marks (row_pairs (words_at a marks w2a) v) ++ p.pairs)

-- ---- ring

module _ {a u z : ℕ} {origin : Origin} {marks w2 : List ℕ} (b : RingBack a u z origin marks w2)
    (room : 8192 ≤ length w2) where
  abbrev ring_row : RowBack a origin marks w2 (ring u z b.inner) u b.inner u
  ring_row = record {
    back = b.back;
    segment = (back_fits b.back).0;
    on_trail = b.on_trail;
    words = b.words;
  }

  pub ring_below : (u < 1024) × (z < 1024)
  ring_below =
      let f = back_fits b.back in
      let p = row_below b.back.graph f.0 in (
        omega (arith, p.0, b.back.cells),
        omega (arith, p.2 z f.1, b.back.cells),
      )

  module _ {w2a : List ℕ} {t : Bool}
      (free : (o : Origins) (m : List Pair) → InTable w2 o m → RingFreed u z o m w2 w2a t)
      (rooma : 8192 ≤ length w2a) {lent : List ℕ} (is : lent ≡ take (a + length marks - a) (drop a w2a)) where
    ring_freed : RingFreed u z b.back.from b.back.pairs w2 w2a t
    ring_freed = free b.back.from b.back.pairs (back_in b.back)

    pub ring_asks : {none : List ℕ} → none ≡ unmarked (length marks)
        → (3 ≤ length lent)
        × (length lent ≤ 1024)
        × (length none ≡ length lent) × Blank none
    ring_asks = row_asks ring_row room w2a ring_freed.table.aside rooma is

    module _ (marks' : List ℕ) (as_many : length marks' ≡ length marks)
        (k : (w : Points) (u : ℕ) (inner : List ℕ) → RowOf w u inner u lent
        → RowBest w (less t u) u inner u marks') where
      ring_best : marked marks' (walk u b.inner u) ≡ new b.back
      ring_best =
          k b.back.w u b.inner (row_of ring_row room w2a ring_freed.table.aside rooma is)
          ∙ ap (λ (off : List ℕ). best tie b.back.w off (walk u b.inner u)) ring_freed.off

      pub ring_put : PutThere a u origin marks' w2a
      ring_put =
          put_there ring_row room w2a ring_freed.table.aside rooma is marks' as_many ring_best ring_freed.table.mates

      pub ring_back : {w2b : List ℕ} → Put a u origin marks' w2a w2b
          → UndoneTable b.back w2b
      unfolding ring_put put_there
      ring_back d = put_back ring_row room w2a ring_freed.table.aside rooma is marks' as_many ring_best (d ring_put)

-- ---- chain

module _ {a u v z : ℕ} {more : Bool} {origin : Origin} {marks w2 : List ℕ}
    (b : ChainBack a u v z more origin marks w2) (room : 8192 ≤ length w2) where
  abbrev chain_row : RowBack a origin marks w2 (chain u v z b.inner) u b.inner v
  chain_row = record {
    back = b.back;
    segment = (back_fits b.back).0;
    on_trail = b.on_trail;
    words = b.words;
  }

  pub chain_below : (u < 1024) × (v < 1024) × (z < 1024)
  chain_below =
      let f = back_fits b.back in
      let p = row_below b.back.graph f.0 in (
        omega (arith, p.0, b.back.cells),
        omega (arith, p.1, b.back.cells),
        omega (arith, p.2 z f.1, b.back.cells),
      )

  module _ {w2a : List ℕ} {r : Ends}
      (free : (o : Origins) (m : List Pair) → InTable w2 o m → ChainFreed u v z more o m w2 w2a r)
      (rooma : 8192 ≤ length w2a) {lent : List ℕ} (is : lent ≡ take (a + length marks - a) (drop a w2a)) where
    chain_freed : ChainFreed u v z (outweighs b.back.w u v b.inner) b.back.from b.back.pairs w2 w2a r
    chain_freed =
        subst (λ (d : Bool). ChainFreed u v z d b.back.from b.back.pairs w2 w2a r) b.direct
        (free b.back.from b.back.pairs (back_in b.back))

    pub chain_asks : {none : List ℕ} → none ≡ unmarked (length marks)
        → (3 ≤ length lent)
        × (length lent ≤ 1024)
        × (length none ≡ length lent) × Blank none
    chain_asks = row_asks chain_row room w2a chain_freed.table.aside rooma is

    module _ (marks' : List ℕ) (as_many : length marks' ≡ length marks)
        (k : (w : Points) (u : ℕ) (inner : List ℕ) (v : ℕ)
        → RowOf w u inner v lent → u ≢ v
        → RowBest w (less r.less_u u ++ less r.less_v v) u inner v marks') where
      chain_best : marked marks' (walk u b.inner v) ≡ new b.back
      chain_best =
          k b.back.w u b.inner v (row_of chain_row room w2a chain_freed.table.aside rooma is) (back_fits b.back).2
          ∙ ap (λ (off : List ℕ). best tie b.back.w off (walk u b.inner v)) chain_freed.off

      pub chain_put : PutThere a v origin marks' w2a
      chain_put =
          put_there chain_row room w2a chain_freed.table.aside rooma is marks' as_many chain_best
          chain_freed.table.mates

      pub chain_back : {w2b : List ℕ} → Put a v origin marks' w2a w2b
          → UndoneTable b.back w2b
      unfolding chain_put put_there
      chain_back d =
          put_back chain_row room w2a chain_freed.table.aside rooma is marks' as_many chain_best (d chain_put)
