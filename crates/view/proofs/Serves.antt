-- Laws of the view. In order: how many entries are shown, by what the check of the list answers; what is served, with
-- the number that is shown, by the tests of the place. Assumes nothing.
use Prim.Native.Nat.{ℕ, ◌<◌, ◌≤◌}
use mathlib.Core.Path.{◌≡◌, refl, sym, ap, ◌∙◌}
use mathlib.Core.Bool.{Bool, true, false, cond, ◌&&◌}
use mathlib.Core.List.{List, [], ◌∷◌}
use native.Mathlib.Omega.{arith}
use borrow.Author.Tests.{lt-ltb, le-ltb, eq-eqb, ne_eqb, eqb-true}
use lib.Dec.{eqb, ltb}
use lib.ListN.{get_or}
use Rattle.std.specs.Prelude.{Result, Ok, Err, IfOk, MatchResult}
use Rattle.matching.specs.Listed.{Entry as ListEntry}
use Rattle.cellfile.specs.Files.{count_of, list_layout, entries_all, as_fields}
use Rattle.checks.specs.Refusals.{first, lists, list_rows}
use Rattle.cellfile.specs.Answers.{Answer}
use Rattle.cellfile.specs.Reads.{EntryRead, WholeFile}
use Rattle.cellfile.specs.declared.decode.Entry.{Entry}
use Rattle.checks.specs.Calls.{refusal_in}
use Rattle.checks.specs.declared.Refusal.{Refusal}
use Rattle.checks.specs.declared.lists.StoreList.{StoreList}
use Rattle.checks.proofs.Layers.{number_some}
use Rattle.checks.proofs.Accepted.{list_fits}
use Rattle.view.specs.Serving.{serving, shown}

-- ---- how many entries are shown

pub shown_checked : (list : List ℕ) (r : Result StoreList Refusal) (m : ℕ) → refusal_in r ≡ first (list_rows lists list)
    → IfOk r (λ l. l.entries.file.now ≡ list) → MatchResult r (λ l. m ≡ l.entries.m) (λ _. m ≡ 0) → m ≡ shown list
unfolding shown
shown_checked list (Ok l) m e f h =
    rw (eq-eqb (first (list_rows lists list)) 0 (sym e)) (h ∙ l.entries.whole.count ∙ ap count_of f)
shown_checked list (Err r) m e f h =
    rw (ne_eqb (first (list_rows lists list)) 0 (λ q. omega (arith, e, number_some r))) h

-- ---- what is served of a view of the list

-- an answer with the values where the test holds
abbrev where_so : Bool → List ℕ → Answer
where_so t values = cond t (1, values) (0, [])

module _ (list : List ℕ) (count place : ℕ) (shows : count ≡ shown list) where
  pub served_past : count ≤ place → (0, []) ≡ serving list place
  unfolding serving shown
  served_past h = go (eqb (first (list_rows lists list)) 0) shows
    where
      go : (t : Bool) → count ≡ cond t (count_of list) 0
          → (0, []) ≡ where_so (t && ltb place (count_of list)) (as_fields (get_or (entries_all list) place (0, 0, 0)))
      go true e = rw (le-ltb place (count_of list) (omega arith))
      go false e = refl

  -- below the number shown there is an entry of an accepted list
  here : place < count → (first (list_rows lists list) ≡ 0) × (place < count_of list)
  unfolding shown
  here h = go (eqb (first (list_rows lists list)) 0) refl shows
    where
      go : (t : Bool) → eqb (first (list_rows lists list)) 0 ≡ t → count ≡ cond t (count_of list) 0
          → (first (list_rows lists list) ≡ 0) × (place < count_of list)
      go true q e = (eqb-true (first (list_rows lists list)) 0 q, omega arith)
      go false q e = absurd (omega arith)

  -- which the list has
  pub served_room : place < count → WholeFile (list_layout list) list count
  unfolding shown
  served_room h = let e = here h in
      let f = list_fits list e.0 in
      record { count = rw (eq-eqb (first (list_rows lists list)) 0 e.0) at shows; long = omega (arith, f.2) }

  pub served_here : {e : Entry} → place < count → EntryRead list place e
      → (1, e.a ∷ e.b ∷ e.points ∷ []) ≡ serving list place
  unfolding serving
  served_here h r =
      let e = here h in
      rw (eq-eqb (first (list_rows lists list)) 0 e.0, lt-ltb place (count_of list) e.1)
      (ap (λ (x : ListEntry). (1, as_fields x)) r.is)
