-- The claims of tidy. In order: what its answers tell (`tidy_tells`); the raw lists that are taken (`runs_taken`); what
-- is written of one (`tidy_claim`); a store list comes back (`again_claim`); the other calls refuse a raw list
-- (`elsewhere`). Assumes nothing.
use mathlib.Core.Path.{◌≡◌, sym, ap, subst, ◌∙◌}
use mathlib.Core.Logic.{◌↔◌}
use mathlib.Core.Bool.{true, false, or-true, or-false}
use mathlib.Core.List.{List, [], ◌∷◌}
use Prim.Native.Nat.{ℕ, ◌<◌}
use native.Mathlib.Omega.{arith}
use borrow.Author.Tests.{lt-ltb, ltb-true}
use lib.Dec.{ltb}
use lib.ListN.{length}
use Rattle.matching.specs.Lists.{All}
use Rattle.matching.specs.Listed.{Entry}
use Rattle.matching.proofs.Alls.{all_map}
use Rattle.cellfile.specs.Files.{raw_list, kind_of, cells_of, entries_all}
use Rattle.cellfile.specs.Fits.{AreBytes}
use Rattle.cellfile.proofs.Lists.{view_all}
use Rattle.checks.specs.Refusals.{too_few_words, lists, is_no_list, short_output, is_bad_raw}
use Rattle.checks.specs.Calls.{room_row}
use Rattle.checks.proofs.Rows.{bad_raw_none}
use Rattle.checks.proofs.Layers.{rows_pass, rows_sound, row_refused}
use Rattle.checks.proofs.Written.{raw_passes, raw_cells, raw_written}
use Rattle.tidying.specs.Calls.{tidy_file, tidy_rows, tidying}
use Rattle.tidying.specs.Said.{as_raw, joining}
use Rattle.tidying.proofs.Accepted.{turned_cells, tidy_accepted, tidy_cells, tidy_entries, tidy_longest}
use Rattle.tidying.proofs.Again.{again}
use Rattle.tidying.proofs.Last.{tidied_joining}
use Rattle.view.specs.Serving.{serving}
use Rattle.claims.specs.Demand.{AcceptedList, Writes}
use Rattle.claims.specs.Tidied.{TakenRaw, TidyTells, AreRuns, RunsClaim, TidyClaim, AgainClaim, Elsewhere}
use Rattle.claims.proofs.Demand.{with_room, room_enough}
use Rattle.claims.proofs.Answers.{wrote}

-- ---- the answers

module _ (raw lent : List ℕ) (room : ℕ) where
  abbrev file : List ℕ
  file = tidy_file raw

  short_just : (short_output ((room, file) ∷ []) ≡ true) ↔ (room < length file)
  unfolding short_output
  short_just = (
    (λ e. ltb-true room (length file) (sym (or-false (ltb room (length file))) ∙ e)),
    (λ l. rw (lt-ltb room (length file) l)),
  )

  pub tidy_tells : TidyTells raw lent room
  tidy_tells = record {
    zero = λ i e. (
        let a =
        rows_sound (with_room (tidy_rows (too_few_words lent) raw) room file) (i ∷ []) (length file ∷ [])
        (omega arith) e in
        (a.0.1.0, wrote a.0.0 a.0.1.1.0 a.1)
        );
    thirteen = (
        let just =
        row_refused ((1, too_few_words lent) ∷ []) (room_row ((room, file) ∷ []) ∷ []) 13 (is_bad_raw raw)
        (length file ∷ [])
        (omega arith) ((λ e. omega arith), tt) ((λ e. omega arith), tt) in
        ((λ e. let s = just.0 e in (s.0.0, s.1)), λ s. just.1 ((s.0, tt), s.1))
        );
    twelve = (
        let just =
        row_refused (tidy_rows (too_few_words lent) raw) [] 12 (short_output ((room, file) ∷ [])) (length file ∷ [])
        (omega arith) ((λ e. omega arith), ((λ e. omega arith), tt)) tt in (
          (λ e. let s = just.0 e in (s.0.0, s.0.1.0, short_just.0 s.1)),
          (λ s. just.1 ((s.0, (s.1, tt)), short_just.1 s.2)),
        )
        );
  }

-- ---- raw lists that are taken

pub runs_taken : (n : ℕ) (es : List Entry) → AreRuns n es → RunsClaim n es
runs_taken n es h =
    let small : All (λ (e : Entry). e.2 < 1048576) es = all_map (λ (e : Entry) l. omega arith) es h.small in
    record {
      taken = raw_passes n es h.cells h.count h.two small;
      cells = raw_cells n es h.cells h.count h.two small;
      entries = raw_written n es h.cells h.count h.two small;
    }

-- ---- what is written

tidy_writes : (raw : List ℕ) → TakenRaw raw → Writes (tidying raw) (tidy_file raw)
tidy_writes raw h lent room enough l =
    rows_pass (with_room (tidy_rows (too_few_words lent) raw) room (tidy_file raw)) (length (tidy_file raw) ∷ [])
    (enough, (h, (room_enough room (tidy_file raw) l, tt)))

pub tidy_claim : (raw : List ℕ) → TakenRaw raw → TidyClaim raw
tidy_claim raw h = record {
  writes = tidy_writes raw h;
  accepted = tidy_accepted raw h;
  cells = tidy_cells raw h;
  last = λ a b. (
      ap (joining a b) (view_all (tidy_file raw) ∙ tidy_entries raw h)
      ∙ tidied_joining (cells_of raw) (entries_all raw) (bad_raw_none raw h).0.0 (turned_cells raw h) a b
      );
  longest = tidy_longest raw h;
}

-- ---- a store list comes back

pub again_claim : (list : List ℕ) → AreBytes list → AcceptedList list → AgainClaim list
again_claim list a h =
    let b = again list a h in
    record {
      taken = b.0;
      writes = subst (λ f. Writes (tidying (as_raw list)) f) b.1 (tidy_writes (as_raw list) b.0);
      same = b.1;
    }

-- ---- the other calls

raw_two : (raw : List ℕ) → kind_of raw ≡ raw_list.kind → is_no_list lists raw ≡ true
unfolding is_no_list
raw_two raw k = rw k (or-true (ltb (length raw) 4))

pub elsewhere : (raw lent : List ℕ) → kind_of raw ≡ raw_list.kind → too_few_words lent ≡ false → Elsewhere raw lent
unfolding serving
elsewhere raw lent k enough =
    let two = raw_two raw k in
    record {
      weigh = λ pairs. rw (enough, two);
      replay = λ slip room. rw (enough, two);
      reduce = λ room further. rw (enough, two);
      solve = λ slip room. rw (enough, two);
      lift = λ slip pairs room further. rw (enough, two);
      pair = λ room further. rw (enough, two);
      entry = λ place. rw two;
    }
