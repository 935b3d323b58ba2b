-- The layers that the calls with outputs share. In order: an output that is kept is right where the call is refused;
-- what some rows refuse, by its number (`refused`) and by the refusal (`refused_by`), and what they pass on to the rows
-- after them (`passed`); refusal 12 (`no_room`, `all_room`; of one file `one_refused`, `one_written`); what a call does
-- with refusal 1 found beforehand (`framed_rows`, `framed`). Assumes nothing.
use mathlib.Core.Path.{◌≡◌, refl, sym, ap, ◌∙◌}
use mathlib.Core.Bool.{Bool, true, false, ◌||◌}
use mathlib.Core.List.{List, [], ◌∷◌, ◌++◌, append_assoc}
use Prim.Native.Nat.{ℕ, zero, suc, ◌≤◌, ◌<◌}
use native.Mathlib.Omega.{arith}
use borrow.Author.Tests.{lt-ltb, le-ltb}
use lib.Dec.{ltb}
use lib.ListN.{length}
use Rattle.matching.specs.Lists.{All}
use Rattle.matching.proofs.Alls.{all_map}
use Rattle.cellfile.specs.Files.{onto}
use Rattle.checks.specs.Refusals.{Row, first, too_few_words, short_output}
use Rattle.cellfile.specs.Answers.{Answer, answer, written}
use Rattle.checks.specs.Calls.{number}
use Rattle.checks.specs.declared.Refusal.{Refusal}
use Rattle.checks.proofs.Layers.{answer_refused, answer_number, first_refused, after_passed, refusal_answers}
use Rattle.checks.specs.Calls.{call_rows, room_row, filing, answering}
use Rattle.checks.specs.Answering.{Output, lengths, rooms, Does}

-- ---- outputs that are kept

abbrev pub Unchanged : List Output → Type 0
Unchanged outs = All (λ (o : Output). o.2 ≡ o.1) outs

refused_written : (k : ℕ) (file out : List ℕ) → 0 < k → out ≡ written k file out
refused_written zero file out h = absurd (omega arith)
refused_written (suc k) file out h = refl

-- ---- rows, and those after them

module _ (rows more : List Row) {outs : List Output} where
  pub refused : (v : ℕ) (vs : List ℕ) {k : ℕ} → (k, []) ≡ answer (first rows) (v ∷ vs) → Unchanged outs
      → Does (rows ++ more) outs (k, [])
  refused v vs {k} e h =
      let r = answer_refused (first rows) k v vs e in
      let some : 0 < k = omega (arith, r) in
      let all = (rows ++ more) ++ (room_row (rooms outs) ∷ []) in
      let is : first all ≡ k =
      ap first (append_assoc rows more (room_row (rooms outs) ∷ []))
      ∙ first_refused rows (more ++ (room_row (rooms outs) ∷ [])) r.0
      ∙ sym r.1 in
      record {
        says = sym ((answer_number (first all) k (lengths outs) some).1 is);
        writes = all_map (λ o p. p ∙ refused_written k o.0 o.1 some) outs h;
      }

  pub refused_by : (r : Refusal) → number r ≡ first rows → Unchanged outs → Does (rows ++ more) outs (number r, [])
  refused_by r e = refused 0 [] (refusal_answers rows (0 ∷ []) r e)

  pub passed : {a : Answer} → All (λ (r : Row). 0 < r.0) rows → 0 ≡ first rows → Does more outs a
      → Does (rows ++ more) outs a
  passed {a} h e d = record {
    says =
        d.says
        ∙ ap (λ n. answer n (lengths outs))
        (after_passed rows (more ++ (room_row (rooms outs) ∷ [])) h e refl
        ∙ ap first (sym (append_assoc rows more (room_row (rooms outs) ∷ []))));
    writes = d.writes;
  }

-- ---- refusal 12

abbrev short : Output → Bool
short o = ltb (length o.1) (length o.0)

or-true : (t u : Bool) → u ≡ true → (t || u) ≡ true
or-true true u e = refl
or-true false u e = e

some_short : (xs : List Output) (o : Output) (ys : List Output) → length o.1 < length o.0
    → short_output (rooms (xs ++ o ∷ ys)) ≡ true
unfolding short_output
some_short [] o ys l = rw (lt-ltb (length o.1) (length o.0) l)
some_short (x ∷ xs) o ys l = or-true (short x) _ (some_short xs o ys l)

none_short : (outs : List Output) → All (λ (o : Output). length o.0 ≤ length o.1) outs
    → short_output (rooms outs) ≡ false
unfolding short_output
none_short [] h = refl
none_short (o ∷ outs) h = rw (le-ltb (length o.1) (length o.0) h.0) (none_short outs h.1)

pub no_room : (xs : List Output) (o : Output) (ys : List Output) → length o.1 < length o.0
    → Unchanged (xs ++ o ∷ ys) → Does [] (xs ++ o ∷ ys) (12, [])
no_room xs o ys l h = record { says = rw (some_short xs o ys l); writes = h }

pub all_room : (outs : List Output) → All (λ (o : Output). length o.0 ≤ length o.1) outs
    → All (λ (o : Output). o.2 ≡ onto o.0 o.1) outs
    → Does [] outs (0, lengths outs)
all_room outs l h = record { says = rw (none_short outs l); writes = h }

-- one file, by its size
module _ (file out : List ℕ) {size : ℕ} (long : size ≡ length file) where
  pub one_refused : length out < size → Does [] ((file, out, out) ∷ []) (12, [])
  one_refused l = no_room [] (file, out, out) [] (omega arith) (refl, tt)

  pub one_written : {out' : List ℕ} → size ≤ length out → out' ≡ onto file out
      → Does [] ((file, out, out') ∷ []) (0, size ∷ [])
  one_written {out'} l e = rw long (all_room ((file, out, out') ∷ []) (omega arith, tt) (e, tt))

-- ---- the whole call

-- with refusal 1 found by the lengths of the work buffers lent, whichever rows follow it
pub framed_rows : (lent : List ℕ) (rows : Bool → List Row) {few : Bool} {outs : List Output} {a : Answer}
    → few ≡ too_few_words lent → Does (rows few) outs a
    → (a ≡ filing (rows (too_few_words lent)) (rooms outs))
    × All (λ (o : Output). o.2 ≡ written a.0 o.0 o.1) outs
framed_rows lent rows {few} {outs} e d = (d.says ∙ ap (λ t. filing (rows t) (rooms outs)) e, d.writes)

-- a call on a list
pub framed : (lent list : List ℕ) (own : List Row) {few : Bool} {outs : List Output} {a : Answer}
    → few ≡ too_few_words lent
    → Does (call_rows few list ++ own) outs a
    → (a ≡ answering lent list own (rooms outs))
    × All (λ (o : Output). o.2 ≡ written a.0 o.0 o.1) outs
framed lent list own e d = framed_rows lent (λ few. call_rows few list ++ own) e d
