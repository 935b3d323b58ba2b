-- Laws of the conditions of 2 to 6 and 13, as the functions that check a list's form meet them: what a test that was
-- passed or not says of the condition, and of the first row that holds.
use Prim.Native.Nat.{ℕ, ◌+◌, ◌<◌, ◌≤◌}
use mathlib.Core.Path.{◌≡◌, refl, sym, ap, subst, ◌∙◌}
use mathlib.Core.Logic.{◌≢◌}
use mathlib.Core.Bool.{Bool, true, false, not, cond, ◌||◌}
use mathlib.Core.List.{List, [], ◌∷◌, map}
use native.Mathlib.Omega.{arith}
use lib.ListN.{drop, drop_of_length-le, get_or}
use borrow.Author.Tests.{lt-leb, ne_eqb}
use Rattle.cellfile.specs.Files.{cells_of, count_of, entry_key, raw_list, entries_all}
use Rattle.checks.specs.Refusals.{Row, ascending_from, first, is_no_list, is_too_large}
use Rattle.checks.specs.Refusals.{wrong_length, stray_pair, stray_entry, unordered, loose_pair, is_bad_raw}
use Rattle.cellfile.specs.Words.{no_entry}
use Rattle.std.specs.Prelude.{Result, Ok, Err, MatchResult, IfOk}
use Rattle.std.specs.Result.{IsErrAnd}
use Rattle.checks.specs.Calls.{refusal_in}
use Rattle.checks.specs.declared.Refusal.{Refusal}
use Rattle.checks.specs.Loops.{head_rows, entry_rows, some_from}
use Rattle.cellfile.specs.Reads.{EntryRead}
use Rattle.cellfile.proofs.Walk.{entries_count, entry_next}
use Rattle.checks.proofs.Rows.{first_none}
use Rattle.checks.proofs.Layers.{number_some}
use Rattle.cellfile.specs.declared.decode.Entry.{Entry}

-- a pair of cells that 5 or 9 refuses, or not
module _ (n a b : ℕ) where
  pub stray_not : b < n → a < b → stray_pair n a b ≡ false
  stray_not p q = rw (lt-leb n a (omega arith), lt-leb n b p, lt-leb b a q)

-- a pair of cells that 13 does not refuse
pub loose_not : (n a b : ℕ) → a ≢ b → a < n → b < n → loose_pair n a b ≡ false
loose_not n a b two one h = rw (ne_eqb a b two, lt-leb n a one, lt-leb n b h)

-- the conditions of 5 and 6 of the entries from place i on, by the entry read there
abbrev pub strays_from : List ℕ → ℕ → Bool
strays_from s i = some_from (stray_pair (cells_of s)) s i

abbrev pub ascends_from : List ℕ → ℕ → ℕ → Bool
ascends_from s low i = ascending_from low (map entry_key (drop i (entries_all s)))

pub stray_start : (s : List ℕ) → stray_entry s ≡ strays_from s 0
unfolding stray_entry
stray_start s = refl

-- the number of row 6, where it is k if the entries from place i on ascend
abbrev pub order_row : List ℕ → ℕ → ℕ → ℕ → ℕ
order_row s k low i = cond (ascends_from s low i) k 6

pub order_start : (s : List ℕ) → first ((6, unordered s) ∷ []) ≡ order_row s 0 0 0
unfolding unordered
order_start s = turned (ascends_from s 0 0)
  where
    turned : (t : Bool) → ◌≡◌ {A = ℕ} (cond (not t) 6 0) (cond t 0 6)
    turned true = refl
    turned false = refl

module _ (s : List ℕ) (i : ℕ) (l : count_of s ≤ i) where
  none_left : drop i (entries_all s) ≡ []
  none_left = drop_of_length-le (entries_all s) {i = i} (omega (arith, entries_count s))

  pub some_end : (bad : ℕ → ℕ → Bool) → some_from bad s i ≡ false
  some_end bad = rw none_left

  pub order_end : (k low : ℕ) → order_row s k low i ≡ k
  order_end k low = rw none_left

module _ (s : List ℕ) (i : ℕ) (l : i < count_of s) (e : Entry) (r : EntryRead s i e) where
  pub some_here : (bad : ℕ → ℕ → Bool) → bad e.a e.b ≡ true → some_from bad s i ≡ true
  some_here bad p = rw (entry_next s i e l r, p)

  pub some_next : (bad : ℕ → ℕ → Bool) → bad e.a e.b ≡ false → some_from bad s i ≡ some_from bad s (i + 1)
  some_next bad p = rw (entry_next s i e l r, p)

-- the test of 13 of the entry at a place, by the entry read there
pub loose_at : (n : ℕ) (s : List ℕ) (i : ℕ) (e : Entry) (b t : Bool) → EntryRead s i e → b ≡ t
    → t ≡ loose_pair n e.a e.b
    → b ≡ loose_pair n (get_or (entries_all s) i no_entry).0 (get_or (entries_all s) i no_entry).1
loose_at n s i e b t r p q = p ∙ q ∙ ap (λ (x : ℕ × ℕ × ℕ). loose_pair n x.0 x.1) r.is

-- the first of rows 5 and 6
module _ (s : List ℕ) where
  pub entries_5 : stray_entry s ≡ true → 5 ≡ first (entry_rows s)
  entries_5 e = rw e

  pub entries_6 : {k : ℕ} → stray_entry s ≡ false → first ((6, unordered s) ∷ []) ≡ k → k ≡ first (entry_rows s)
  entries_6 e f = rw e (sym f)

-- a result whose refusal was replaced by the one that is said
module _ {A : Type 0} (Q : Refusal → Refusal → Type 0) where
  abbrev Replaced : Result A Refusal → Result A Refusal → Type 0
  Replaced o m = MatchResult o (λ x. m ≡ Ok x) (λ r. IsErrAnd m (Q r))

  pub replaced_err : (o m : Result A Refusal) (r said : Refusal) → Replaced o m → m ≡ Err r
      → ((d t : Refusal) → Q d t → t ≡ said) → (0 < refusal_in o) × (r ≡ said)
  replaced_err (Ok x) m r said h e is = absurd cc
  replaced_err (Err d) (Ok x) r said h e is = absurd h
  replaced_err (Err d) (Err t) r said h e is = let q = is d t h in (number_some d, cc)

  pub replaced_ok : (P : A → Type 0) (o m : Result A Refusal) (x : A) → Replaced o m → m ≡ Ok x → IfOk o P
      → (0 ≡ refusal_in o) × P x
  replaced_ok P (Ok y) m x h e p = let q : y ≡ x = cc in (refl, subst P q p)
  replaced_ok P (Err d) (Ok y) x h e p = absurd h
  replaced_ok P (Err d) (Err t) x h e p = absurd cc

-- 13 by the rows of the header, and by the entries
module _ (s : List ℕ) where
  abbrev heads : List Row
  heads = head_rows (raw_list.kind ∷ []) s

  pub raw_head : {k : ℕ} → k ≡ first heads → 0 < k → true ≡ is_bad_raw s
  unfolding is_bad_raw
  raw_head {k} e l = go (is_no_list (raw_list.kind ∷ []) s) (is_too_large s) (wrong_length s) _ e
    where
      go : (a b c t : Bool) → k ≡ first ((2, a) ∷ (3, b) ∷ (4, c) ∷ []) → true ≡ (a || (b || (c || t)))
      go true b c t h = refl
      go false true c t h = refl
      go false false true t h = refl
      go false false false t h = absurd (omega arith)

  pub raw_entries : {n : ℕ} → first heads ≡ 0 → n ≡ cells_of s → some_from (loose_pair n) s 0 ≡ is_bad_raw s
  unfolding is_bad_raw
  raw_entries e n = let h = first_none heads (omega arith) e in rw (h.0, h.1.0, h.1.1.0, n)

  -- of entries whose file it is
  pub raw_found : {t : List ℕ} {n : ℕ} {b : Bool} → t ≡ s → 0 ≡ first heads → n ≡ cells_of t
      → b ≡ some_from (loose_pair n) t 0 → b ≡ is_bad_raw s
  raw_found {n = n} {b = b} e h c p =
      subst (λ (t : List ℕ). b ≡ some_from (loose_pair n) t 0) e p
      ∙ raw_entries (sym h) (c ∙ ap cells_of e)
