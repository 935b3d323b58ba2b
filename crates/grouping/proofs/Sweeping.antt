-- Sweeps over the pairs that stand as rows and cells. In order: the pairs from a row on (`rows_next`); a sweep that is
-- at row i (`Sweeping`), at a pair that is split and at one that is not; the sweeps until no pair is split
-- (`Levelling`): at first, after one that met a split pair, after the last. Assumes nothing.
use mathlib.Core.Path.{◌≡◌, refl, sym, ap, subst, ◌∙◌}
use mathlib.Core.Logic.{◌≢◌}
use mathlib.Core.Bool.{Bool, true, false, not, ◌||◌, false≢true}
use mathlib.Core.List.{List, ◌∷◌}
use Prim.Native.Nat.{ℕ, suc, ◌+◌, ◌/◌, ◌≤◌, ◌<◌, min}
use native.Mathlib.Omega.{arith}
use native.Mathlib.Numerals.{add-one}
use lib.ListN.{length, get_or, set, drop}
use lib.Seq.{drop-cons}
use borrow.Author.Tests.{eq-eqb, ne_eqb, not-true, not-false}
use Rattle.buffers.specs.Map.{unit, at_cells, at_labels}
use Rattle.matching.specs.Pairs.{Points}
use Rattle.matching.specs.Listed.{Entry, short_list}
use Rattle.matching.specs.Groups.{largest}
use Rattle.matching.proofs.Tests.{Test, holds, not_test}
use Rattle.matching.proofs.Members.{or_right}
use Rattle.cellfile.specs.Words.{no_entry, RowsOf, OfRows}
use Rattle.grouping.specs.Labels.{lowered, swept, meets, pairs_in, Labelled, Level}
use Rattle.grouping.specs.Finding.{words_in, FrontKept, Sweeps, LevelThere, Levels}
use Rattle.grouping.proofs.Sweeps.{short_lists, table_lowered, lowered_level, swept_still, own_labelled}
use Rattle.grouping.proofs.Sweeps.{swept_labelled}
use Rattle.grouping.proofs.Classes.{meets_test}
use Rattle.grouping.proofs.Labelling.{front_none, front_set, front_all}

-- ---- the pairs from a row on

-- The cells of row i.
abbrev pub higher : List ℕ → ℕ → ℕ
higher w1 i = get_or w1 i 0 / unit

abbrev pub lower : List ℕ → ℕ → ℕ
lower w1 i = get_or w1 (at_cells + i) 0

rows_next : {es : List Entry} {r : ℕ} {w1 : List ℕ} (i : ℕ) → RowsOf es r w1 → i < r
    → pairs_in (drop i es) ≡ (lower w1 i, higher w1 i) ∷ pairs_in (drop (i + 1) es)
rows_next {es} {r} {w1} i h l =
    rw (add-one i, drop-cons es i no_entry (omega (arith, h.count)), h.cell i l, high)
  where
    high : higher w1 i ≡ (get_or es i no_entry).1
    high = omega (arith, h.row i l, h.points i l)

-- ---- a sweep

-- The sweep is at row i: the pairs from there on lead to its labels, and a split pair was met, or will be, just where
-- the whole sweep meets one.
pub record Sweeping (r i : ℕ) (w1 w2 w2' : List ℕ) (met : Bool) : Type 0 where
  pub front : FrontKept w2 w2'
  pub labels : OfRows r w1 (λ es. swept (pairs_in (drop i es)) (words_in w2') ≡ swept (pairs_in es) (words_in w2))
  pub meets : OfRows r w1 (λ es. met || meets (pairs_in (drop i es)) (words_in w2') ≡ meets (pairs_in es) (words_in w2))

module _ {r i : ℕ} {w1 w2 w2' : List ℕ} {met : Bool} (s : Sweeping r i w1 w2 w2' met) where
  pub sweep_split : i < r → 8192 ≤ length w2' → lower w1 i < 1024 → higher w1 i < 1024
      → words_in w2' (lower w1 i) ≢ words_in w2' (higher w1 i)
      → {m : ℕ} → m ≡ min (words_in w2' (lower w1 i)) (words_in w2' (higher w1 i))
      → Sweeping r (i + 1) w1 w2 (set (set w2' (at_labels + lower w1 i) m) (at_labels + higher w1 i) m) true
  sweep_split l room la lb d {m} e = record {
    front = front_set (front_set s.front (lower w1 i) m) (higher w1 i) m;
    labels = λ es h. rw now (rw (rows_next i h l) at (s.labels es h));
    meets = λ es h.
        sym (or_right met true refl) ∙ ap (λ t. met || t) (sym (there es))
        ∙ rw (rows_next i h l) at (s.meets es h);
  }
    where
      now : words_in (set (set w2' (at_labels + lower w1 i) m) (at_labels + higher w1 i) m)
          ≡ lowered (lower w1 i, higher w1 i) (words_in w2')
      now = table_lowered w2' at_labels (lower w1 i) (higher w1 i) m (omega arith) (omega arith) e

      there : (es : List Entry) → meets ((lower w1 i, higher w1 i) ∷ pairs_in (drop (i + 1) es)) (words_in w2') ≡ true
      there es = rw (ne_eqb (words_in w2' (lower w1 i)) (words_in w2' (higher w1 i)) d)

  pub sweep_on : i < r → words_in w2' (lower w1 i) ≡ words_in w2' (higher w1 i) → Sweeping r (i + 1) w1 w2 w2' met
  sweep_on l q = record {
    front = s.front;
    labels = λ es h.
        ap (swept (pairs_in (drop (i + 1) es))) (sym level) ∙ rw (rows_next i h l) at (s.labels es h);
    meets = λ es h. ap (λ t. met || t) (sym (gone es)) ∙ rw (rows_next i h l) at (s.meets es h);
  }
    where
      level : lowered (lower w1 i, higher w1 i) (words_in w2') ≡ words_in w2'
      level = lowered_level (lower w1 i, higher w1 i) (words_in w2') q

      gone : (es : List Entry)
          → meets ((lower w1 i, higher w1 i) ∷ pairs_in (drop (i + 1) es)) (words_in w2')
          ≡ meets (pairs_in (drop (i + 1) es)) (words_in w2')
      gone es = rw (level, eq-eqb (words_in w2' (lower w1 i)) (words_in w2' (higher w1 i)) q)

-- ---- the sweeps

-- k sweeps, of which each met a split pair.
pub record Levelling (r k : ℕ) (w1 w2 w2' : List ℕ) : Type 0 where
  pub front : FrontKept w2 w2'
  pub most : k ≤ 12
  pub labels : (n : ℕ) (w : Points) → LevelThere n w r w1 w2 → Labelled n w k (words_in w2')
  pub crowded : (n : ℕ) (w : Points) → LevelThere n w r w1 w2 → 0 < k → k < largest n w

pub level_first : {r : ℕ} {w1 w2 : List ℕ} → Levelling r 0 w1 w2 w2
level_first = record {
  front = front_none;
  most = omega arith;
  labels = λ n w t. own_labelled t.graph _ t.labels;
  crowded = λ n w t p. absurd (omega arith);
}

module _ {r k : ℕ} {w1 w2 w2' : List ℕ} (s : Levelling r k w1 w2 w2') where
  module _ {w2'' : List ℕ} {met : Bool} (p : Sweeps r w1 w2' w2'' met) where
    tells : {n : ℕ} {w : Points} → LevelThere n w r w1 w2
        → Test (suc k < largest n w) (Level w (words_in w2')) met
    tells {n} {w} t =
        subst (λ b. Test (suc k < largest n w) (Level w (words_in w2')) b) (sym (p.meets (short_list n w) t.rows))
        (meets_test t.graph k (words_in w2') (s.labels n w t) (pairs_in (short_list n w)) (short_lists t.graph))

    pub level_more : k < 12 → not met ≡ false → Levelling r (k + 1) w1 w2 w2''
    level_more l e = record {
      front = front_all s.front p.front;
      most = omega arith;
      labels = λ n w t. rw (add-one k, p.labels (short_list n w) t.rows) (swept_labelled t.graph
          (pairs_in (short_list n w)) (short_lists t.graph) k (words_in w2') (s.labels n w t));
      crowded = λ n w t _. omega (arith, holds (tells t) (not-false met e));
    }

    pub level_done : not met ≡ true → (n : ℕ) (w : Points) → LevelThere n w r w1 w2 → Levels n w w2 w2'' true
    level_done e n w t = record {
      crowded = λ q. absurd (false≢true (sym q));
      level = λ q. rw same (record {
        sweeps = k;
        labelled = s.labels n w t;
        level = holds (not_test (tells t)) e;
      });
      front = front_all s.front p.front;
    }
      where
        same : words_in w2'' ≡ words_in w2'
        same =
            p.labels (short_list n w) t.rows
            ∙ swept_still (pairs_in (short_list n w)) (words_in w2')
            (sym (p.meets (short_list n w) t.rows) ∙ not-true met e)
