-- What is left in the slots, solved. In order: its pairs as rows and cells (`left_rows`), on which its labels are found
-- (`left_level`); some group is too large (`left_crowded`), or no pair has two labels (`left_labels`) and all groups
-- are solved (`left_solved`). Assumes nothing.
use mathlib.Core.Path.{◌≡◌, refl, subst, ◌∙◌}
use mathlib.Core.Bool.{Bool, true, false, not}
use mathlib.Core.List.{List}
use Rattle.std.specs.Prelude.{Option, None, Some}
use Prim.Native.Nat.{ℕ, ◌+◌, ◌/◌, ◌≤◌, ◌<◌}
use native.Mathlib.Omega.{arith}
use lib.ListN.{length, get_or}
use borrow.Author.Tests.{not-true, not-false}
use Rattle.buffers.specs.Map.{unit, at_cells}
use Rattle.matching.specs.Pairs.{Points}
use Rattle.matching.specs.Listed.{short_list}
use Rattle.matching.specs.Groups.{largest}
use Rattle.matching.proofs.Short.{EntryOf, short_entries}
use Rattle.matching.proofs.More.{short_more}
use Rattle.cellfile.specs.Words.{no_entry, RowsOf}
use Rattle.slots.specs.Slots.{graph_of}
use Rattle.running.proofs.Inserting.{all_place}
use Rattle.grouping.specs.Finding.{words_in, OwnIn, LevelThere, Levels}
use Rattle.solving.specs.Left.{LeftThere, Solves}
use Rattle.solving.specs.Joined.{LabelsThere, SetOut}

-- the rows of the pairs, where the slots stayed
pub rows_kept : (e : ℕ) {r : ℕ} {w w' v : List ℕ} → w' ≡ w → (r ≤ 4096) × RowsOf (short_list 1024 (graph_of e w')) r v
    → (r ≤ 4096) × RowsOf (short_list 1024 (graph_of e w)) r v
rows_kept e {r} {v = v} q p =
    subst (λ (x : List ℕ). (r ≤ 4096) × RowsOf (short_list 1024 (graph_of e x)) r v) q p

module _ {n e : ℕ} {w1 w2 w1a w2a : List ℕ} {r : ℕ} (p : LeftThere n e w1 w2) (a : OwnIn n (graph_of e w1) w2 w2a)
    (same : length w1a ≡ length w1) (f : (r ≤ 4096) × RowsOf (short_list 1024 (graph_of e w1)) r w1a) where
  abbrev w : Points
  w = graph_of e w1

  left_rows : RowsOf (short_list n w) r w1a
  left_rows = rw (short_more p.graph 1024 p.cells) at f.1

  left_cells : (i : ℕ) → i < r → (get_or w1a (at_cells + i) 0 < 1024) × (get_or w1a i 0 / unit < 1024)
  left_cells i l =
      let q = left_rows in
      let x = all_place (EntryOf n w) (short_list n w) i no_entry (omega (arith, q.count)) (short_entries n w) in (
        omega (arith, q.cell i l, x.up, x.below, p.cells),
        omega (arith, q.row i l, q.points i l, x.below, p.cells),
      )

  pub left_level : LevelThere n (graph_of e w1) r w1a w2a
  left_level = record {
    there = record {
      room1 = omega (arith, p.holds.room1);
      room2 = omega (arith, a.front.long, p.holds.room2);
      most = f.0;
      cells = left_cells;
    };
    cells = p.cells;
    graph = p.graph;
    rows = left_rows;
    labels = a.labels;
  }

  module _ {w2b : List ℕ} {done : Bool} (b : Levels n (graph_of e w1) w2a w2b done) where
    pub left_crowded : not done ≡ true → 12 < largest n (graph_of e w1)
    left_crowded t = b.crowded (not-true done t)

    pub left_labels : not done ≡ false → LabelsThere n (graph_of e w1) (words_in w2b) r w1a w2b
    left_labels t = record {
      room1 = omega (arith, p.holds.room1);
      room2 = omega (arith, b.front.long, a.front.long, p.holds.room2);
      cells = p.cells;
      graph = p.graph;
      small = p.small;
      levelled = b.level (not-false done t);
      most = f.0;
      rows = left_rows;
      labels = refl;
    }

    pub left_solved : {w2c : List ℕ} (w2d : List ℕ) (x : Option ℕ) → SetOut n (graph_of e w1) (words_in w2b) w1a w2b w2c
        → Solves n (graph_of e w1) w2c w2d x → Solves n (graph_of e w1) w2 w2d x
    left_solved w2d None o s = s
    left_solved w2d (Some v) o s = record {
      few = s.few;
      value = s.value;
      mates = s.mates;
      aside = λ j m.
          s.aside j m ∙ o.aside j m ∙ b.front.same j (omega arith) ∙ a.front.same j (omega arith);
    }
