-- Putting the marked pairs of a row into the table, the last first. In order: words of the trail
-- that did not change (`words_same`); the loop, whose state is that the pairs from place j on are in the table
-- (`Putting`): before it (`put_none`), what its call asks (`put_asks`), one pair more (`put_more`), and after it
-- (`put_all`). Assumes nothing.
use mathlib.Core.Path.{◌≡◌, refl, sym, ap, ap₂, subst, ◌∙◌}
use mathlib.Core.Bool.{Bool, true, false, cond}
use mathlib.Core.List.{List, [], ◌∷◌, ◌++◌}
use Prim.Native.Nat.{ℕ, zero, suc, ◌+◌, ◌-◌, ◌≤◌, ◌<◌}
use native.Mathlib.Omega.{arith}
use lib.Dec.{eqb}
use lib.ListN.{length, get_or, take, drop, length-drop}
use lib.Seq.{length-take-le, drop-length, drop-cons, get_or-take, get_or-drop}
use Rattle.buffers.specs.Map.{trail_room}
use Rattle.matching.specs.Pairs.{Pair, Points, sum, Each, hit}
use Rattle.matching.specs.Pairing.{Once}
use Rattle.matching.specs.Origin.{Origin, number_in}
use Rattle.matching.proofs.Sums.{sum_append}
use Rattle.rows.specs.Row.{marked}
use Rattle.partners.specs.Table.{joined, IsFrom, TrailKept}
use Rattle.partners.proofs.Joining.{joined_aside, mates_join}
use Rattle.trail.specs.Trail.{cell_of, start_of, row_pairs}
use Rattle.buffers.proofs.Same.{part_same}
use Rattle.undoing.specs.Unwinding.{TableOf, words_at, PutThere}

pub words_same : (a k : ℕ) (w2 w2' : List ℕ) → TrailKept w2 w2' → a + k ≤ trail_room → 8192 ≤ length w2
    → 8192 ≤ length w2' → take k (drop a w2') ≡ take k (drop a w2)
words_same a k w2 w2' h l r s = part_same w2 w2' a k (omega arith) (omega arith) (λ j m. h j (omega arith))

-- ---- the loop

each_drop : (P : ℕ → ℕ → Type 0) (i : ℕ) (ws : List ℕ) (v : ℕ) → Each P (row_pairs ws v)
    → Each P (row_pairs (drop i ws) v)
each_drop P zero ws v p = p
each_drop P (suc i) [] v p = p
each_drop P (suc i) (x ∷ ws) v p = each_drop P i ws v p.1

sum_drop : (f : Points) (i : ℕ) (marks ws : List ℕ) (v : ℕ)
    → sum f (marked (drop i marks) (row_pairs (drop i ws) v)) ≤ sum f (marked marks (row_pairs ws v))
sum_drop f zero marks ws v = omega arith
sum_drop f (suc i) [] ws v = omega arith
sum_drop f (suc i) (m ∷ marks) [] v = none (drop i marks)
  where
    none : (ms : List ℕ) → sum f (marked ms []) ≤ 0
    none [] = omega arith
    none (m ∷ ms) = omega arith
sum_drop f (suc i) (m ∷ marks) (x ∷ ws) v = go (eqb m 1) (sum_drop f i marks ws v)
  where
    e : Pair
    e = (cell_of x, start_of ws v)

    go : (t : Bool) → sum f (marked (drop i marks) (row_pairs (drop i ws) v)) ≤ sum f (marked marks (row_pairs ws v))
        → sum f (marked (drop i marks) (row_pairs (drop i ws) v))
        ≤ sum f (cond t (e ∷ marked marks (row_pairs ws v)) (marked marks (row_pairs ws v)))
    go true h = omega arith
    go false h = h

each_marked : (P : ℕ → ℕ → Type 0) (i : ℕ) (marks ws : List ℕ) (v : ℕ) → Each P (marked marks (row_pairs ws v))
    → Each P (marked (drop i marks) (row_pairs (drop i ws) v))
each_marked P zero marks ws v p = p
each_marked P (suc i) [] ws v p = tt
each_marked P (suc i) (m ∷ marks) [] v p = none (drop i marks)
  where
    none : (ms : List ℕ) → Each P (marked ms [])
    none [] = tt
    none (m ∷ ms) = tt
each_marked P (suc i) (m ∷ marks) (x ∷ ws) v p = each_marked P i marks ws v (go (eqb m 1) p)
  where
    go : (t : Bool)
        → Each P (cond t ((cell_of x, start_of ws v) ∷ marked marks (row_pairs ws v)) (marked marks (row_pairs ws v)))
        → Each P (marked marks (row_pairs ws v))
    go true h = h.1
    go false h = h

-- The pairs of places j and up are in the table, `to` is the cell that place j starts from.
pub record Putting {a v : ℕ} {origin : Origin} {marks w2₀ : List ℕ} (p : PutThere a v origin marks w2₀) (j to : ℕ)
    (w2 : List ℕ) : Type 0 where
  pub most : j ≤ length marks
  pub start : to ≡ start_of (drop j (words_at a marks w2₀)) v
  pub table : TableOf w2₀ w2 p.from
      (marked (drop j marks) (row_pairs (drop j (words_at a marks w2₀)) v) ++ p.pairs)

module _ {a v : ℕ} {origin : Origin} {marks w2₀ : List ℕ} (p : PutThere a v origin marks w2₀)
    (room₀ : 8192 ≤ length w2₀) where
  abbrev ws : List ℕ
  ws = words_at a marks w2₀

  abbrev m : List Pair
  m = p.pairs

  abbrev FromThere : ℕ → ℕ → Type 0
  FromThere = IsFrom p.from origin

  abbrev from_place : ℕ → List Pair
  from_place j = marked (drop j marks) (row_pairs (drop j ws) v)

  ws_length : length ws ≡ length marks
  ws_length =
      length-take-le (length marks) (drop a w2₀) (omega (arith, p.on_trail, room₀, length-drop a w2₀))

  ws_end : drop (length marks) ws ≡ []
  ws_end = ap (λ k. drop k ws) (sym ws_length) ∙ drop-length ws

  pub put_none : Putting p (length marks) v w2₀
  put_none = record {
    most = omega arith;
    start = sym (ap (λ xs. start_of xs v) ws_end);
    table = record {
      mates = rw (drop-length marks) p.mates;
      aside = λ j l. refl;
    };
  }

  once_from : (i : ℕ) → Once (from_place i ++ m)
  once_from i c =
      omega (
        arith,
        p.once c,
        sum_append (hit c) (from_place i) m,
        sum_append (hit c) (marked marks (row_pairs ws v)) m,
        sum_drop (hit c) i marks ws v,
      )

  -- where the pairs of a place and up are from
  origins_from : (i : ℕ) → Each FromThere (from_place i)
  origins_from i = each_marked FromThere i marks ws v p.origins

  module _ (i to : ℕ) (w2 : List ℕ) (h : Putting p (suc i) to w2) (room : 8192 ≤ length w2) where
    words_at_is : drop i ws ≡ get_or ws i 0 ∷ drop (suc i) ws
    words_at_is = drop-cons ws i 0 (omega (arith, h.most, ws_length))

    word : get_or ws i 0 ≡ get_or w2 (a + i) 0
    word =
        get_or-take (length marks) (drop a w2₀) i 0 (omega (arith, h.most))
        ∙ get_or-drop a w2₀ i 0
        ∙ sym (h.table.aside (a + i) (omega (arith, h.most, p.on_trail)))

    module _ {from : ℕ} (e : from ≡ cell_of (get_or w2 (a + i) 0)) where
      here : from ≡ cell_of (get_or ws i 0)
      here = e ∙ ap cell_of (sym word)

      pairs_at : row_pairs (drop i ws) v ≡ (from, to) ∷ row_pairs (drop (suc i) ws) v
      pairs_at =
          ap (λ xs. row_pairs xs v) words_at_is
          ∙ ap₂ (λ (x y : ℕ). (x, y) ∷ row_pairs (drop (suc i) ws) v) (sym here) (sym h.start)

      below_at : (from < 1024) × (to < 1024)
      below_at =
          let q = each_drop (λ x y. (x < 1024) × (y < 1024)) i ws v p.below in
          (subst (Each (λ x y. (x < 1024) × (y < 1024))) pairs_at q).0

      asks_at : (from < 1024) × (to < 1024) × (number_in origin < 2048)
      asks_at = (below_at.0, below_at.1, p.few)

      place_at : from_place i ≡ cond (eqb (get_or marks i 0) 1) ((from, to) ∷ from_place (suc i)) (from_place (suc i))
      place_at = ap₂ marked (drop-cons marks i 0 (omega (arith, h.most))) pairs_at

      more_at : {w2' : List ℕ} → w2' ≡ cond (eqb (get_or marks i 0) 1) (joined from to origin w2) w2
          → Putting p i from w2'
      more_at {w2'} q = record {
        most = omega (arith, h.most);
        start = here ∙ sym (ap (λ xs. start_of xs v) words_at_is);
        table =
            subst (λ xs. TableOf w2₀ xs p.from (from_place i ++ m)) (sym q)
            (subst (λ es. TableOf w2₀ (cond (eqb (get_or marks i 0) 1) (joined from to origin w2) w2) p.from (es ++ m))
            (sym place_at)
            (go (eqb (get_or marks i 0) 1) (subst (λ es. Once (es ++ m)) place_at (once_from i))
            (subst (Each FromThere) place_at (origins_from i))));
      }
        where
          go : (t : Bool) → Once (cond t ((from, to) ∷ from_place (suc i)) (from_place (suc i)) ++ m)
              → Each FromThere (cond t ((from, to) ∷ from_place (suc i)) (from_place (suc i)))
              → TableOf w2₀ (cond t (joined from to origin w2) w2) p.from
              (cond t ((from, to) ∷ from_place (suc i)) (from_place (suc i)) ++ m)
          go true o e = record {
            mates = mates_join w2 p.from (from_place (suc i) ++ m) from to room below_at.0 below_at.1
                h.table.mates origin e.0 o;
            aside = λ j l. joined_aside w2 from to origin j l ∙ h.table.aside j l;
          }
          go false o e = h.table

  module _ {j to from : ℕ} {w2 : List ℕ} (h : Putting p j to w2) (room : 8192 ≤ length w2)
      (l : 0 < j) (e : from ≡ cell_of (get_or w2 (a + (j - 1)) 0)) where
    earlier : Putting p (suc (j - 1)) to w2
    earlier = subst (λ k. Putting p k to w2) (let q : j ≡ suc (j - 1) = omega arith in q) h

    pub put_asks : (from < 1024) × (to < 1024) × (number_in origin < 2048)
    put_asks = asks_at (j - 1) to w2 earlier room e

    pub put_more : {w2' : List ℕ} → w2' ≡ cond (eqb (get_or marks (j - 1) 0) 1) (joined from to origin w2) w2
        → Putting p (j - 1) from w2'
    put_more = more_at (j - 1) to w2 earlier room e

  pub put_all : {j to : ℕ} {w2 : List ℕ} → Putting p j to w2 → j ≡ 0
      → TableOf w2₀ w2 p.from (marked marks (row_pairs ws v) ++ m)
  put_all {j} {to} {w2} h z = subst (λ k. TableOf w2₀ w2 p.from (from_place k ++ m)) z h.table
