-- What follows where no refusal holds. In order: tests that fail; the rows of a call whose answer is 0, `first_none`;
-- and, for each condition that the laws of files use, what its failing says.
use Prim.Native.Nat.{ℕ, ◌+◌, ◌*◌, ◌<◌, ◌≤◌}
use mathlib.Core.Path.{◌≡◌, refl, ap, ◌∙◌}
use mathlib.Core.Logic.{◌≢◌}
use mathlib.Core.Bool.{Bool, true, false, true≢false, not, cond, ◌||◌}
use mathlib.Core.List.{List, [], ◌∷◌, map, map-map}
use native.Mathlib.Omega.{arith}
use borrow.Author.Tests.{eqb-true, eqb-false, ltb-false, leb-false, not-false}
use lib.Dec.{ltb, leb, eqb}
use lib.ListN.{length, get_or}
use Rattle.matching.specs.Lists.{any, mem, All}
use Rattle.matching.specs.Pairs.{Pair}
use Rattle.matching.specs.Listed.{Entry}
use Rattle.cellfile.specs.Files.{Layout, kind_of, cells_of, count_of, zeros_of, file_length, pairing, as_pair}
use Rattle.cellfile.specs.Files.{read_entries, pairs_of, list_layout, entries_all, entry_key}
use Rattle.checks.specs.Refusals.{Row, first, list_rows, is_no_list, wrong_length, stray_pair, stray_entry}
use Rattle.checks.specs.Refusals.{is_too_large}
use Rattle.checks.specs.Refusals.{ascending_from, unordered, misheaded, bad_pair, bad_pairing, loose_pair, is_bad_raw}
use Rattle.matching.proofs.Alls.{all_map}
use Rattle.cellfile.proofs.All.{all_values}

-- ---- tests that fail

pub or_none : (a b : Bool) → (a || b) ≡ false → (a ≡ false) × (b ≡ false)
or_none true b e = absurd (true≢false e)
or_none false b e = (refl, e)

pub any_none : {A : Type 0} (t : A → Bool) (xs : List A) → any t xs ≡ false → All (λ (x : A). t x ≡ false) xs
any_none t [] e = tt
any_none t (x ∷ xs) e = let h = or_none (t x) (any t xs) e in (h.0, any_none t xs h.1)

pub any_fails : {A : Type 0} (t : A → Bool) (xs : List A) → All (λ (x : A). t x ≡ false) xs → any t xs ≡ false
any_fails t [] h = refl
any_fails t (x ∷ xs) h = rw h.0 (any_fails t xs h.1)

-- of a test for a difference
pub differ_none : (a b : ℕ) → not (eqb a b) ≡ false → a ≡ b
differ_none a b e = eqb-true a b (not-false (eqb a b) e)

-- ---- rows

row_none : (t : Bool) (k rest : ℕ) → 0 < k → cond t k rest ≡ 0 → (t ≡ false) × (rest ≡ 0)
row_none true k rest h e = absurd (omega arith)
row_none false k rest h e = (refl, e)

pub first_none : (rows : List Row) → All (λ (r : Row). 0 < r.0) rows → first rows ≡ 0
    → All (λ (r : Row). r.1 ≡ false) rows
first_none [] h e = tt
first_none (r ∷ rows) h e =
    let now = row_none r.1 r.0 (first rows) h.0 e in
    (now.0, first_none rows h.1 now.1)

pub list_none : (kinds s : List ℕ) → first (list_rows kinds s) ≡ 0 → All (λ (r : Row). r.1 ≡ false) (list_rows kinds s)
list_none kinds s e = first_none (list_rows kinds s) (omega arith) e

-- ---- conditions

pub not_a_list_none : (kinds s : List ℕ) → is_no_list kinds s ≡ false
    → (mem (kind_of s) kinds ≡ true) × (zeros_of s ≡ 0)
unfolding is_no_list
not_a_list_none kinds s e =
    let h = or_none (not (mem (kind_of s) kinds)) _ (or_none (ltb (length s) 4) _ e).1 in
    (not-false _ h.0, differ_none _ _ h.1)

pub too_large_none : (s : List ℕ) → is_too_large s ≡ false → (cells_of s ≤ 1024) × (count_of s ≤ 4096)
unfolding is_too_large
too_large_none s e =
    let h = or_none (ltb 1024 (cells_of s)) _ e in
    (ltb-false 1024 (cells_of s) h.0, ltb-false 4096 (count_of s) h.1)

pub wrong_length_none : (s : List ℕ) → wrong_length s ≡ false
    → length s ≡ file_length (list_layout s) (cells_of s) (count_of s)
unfolding wrong_length
wrong_length_none s e = differ_none _ _ e

pub stray_pair_none : (n a b : ℕ) → stray_pair n a b ≡ false → (a < b) × (b < n)
stray_pair_none n a b e =
    let h = or_none (leb n b) (leb b a) (or_none (leb n a) _ e).1 in
    (leb-false b a h.1, leb-false n b h.0)

pub stray_entry_none : (s : List ℕ) → stray_entry s ≡ false
    → All (λ (e : Entry). (e.0 < e.1) × (e.1 < cells_of s)) (entries_all s)
unfolding stray_entry
stray_entry_none s e =
    all_map (λ (x : Entry). stray_pair_none (cells_of s) x.0 x.1) (entries_all s)
    (any_none (λ (x : Entry). stray_pair (cells_of s) x.0 x.1) (entries_all s) e)

pub unordered_none : (s : List ℕ) → unordered s ≡ false → ascending_from 0 (map entry_key (entries_all s)) ≡ true
unfolding unordered
unordered_none s e = not-false _ e

pub loose_pair_none : (n a b : ℕ) → loose_pair n a b ≡ false → (a ≢ b) × (a < n) × (b < n)
loose_pair_none n a b e =
    let h = or_none (eqb a b) _ e in
    let g = or_none (leb n a) _ h.1 in
    (eqb-false a b h.0, leb-false n a g.0, leb-false n b g.1)

pub bad_raw_none : (s : List ℕ) → is_bad_raw s ≡ false
    → ((cells_of s ≤ 1024) × (count_of s ≤ 4096)) × (length s ≡ file_length (list_layout s) (cells_of s) (count_of s))
    × All (λ (e : Entry). (e.0 ≢ e.1) × (e.0 < cells_of s) × (e.1 < cells_of s)) (entries_all s)
unfolding is_bad_raw
bad_raw_none s e =
    let b = or_none (is_too_large s) _ (or_none (is_no_list _ s) _ e).1 in
    let c = or_none (wrong_length s) _ b.1 in (
      too_large_none s b.0,
      wrong_length_none s c.0,
      all_map (λ (x : Entry). loose_pair_none (cells_of s) x.0 x.1) (entries_all s)
          (any_none (λ (x : Entry). loose_pair (cells_of s) x.0 x.1) (entries_all s) c.1),
    )

pub misheaded_none : (l : Layout) (n : ℕ) (s : List ℕ) → misheaded l n s ≡ false
    → (kind_of s ≡ l.kind) × (cells_of s ≡ n) × (zeros_of s ≡ 0)
    × (length s ≡ file_length l (cells_of s) (count_of s))
unfolding misheaded
misheaded_none l n s e =
    let a = or_none (not (eqb (kind_of s) l.kind)) _ (or_none (ltb (length s) 4) _ e).1 in
    let b = or_none (not (eqb (cells_of s) n)) _ a.1 in
    let c = or_none (not (eqb (zeros_of s) 0)) _ b.1 in
    (differ_none _ _ a.0, differ_none _ _ b.0, differ_none _ _ c.0, differ_none _ _ c.1)

pub bad_pairing_none : (n : ℕ) (s : List ℕ) → bad_pairing n s ≡ false
    → (length s ≡ 4 + 3 * count_of s)
    × All (λ (p : Pair). (p.0 < p.1) × (p.1 < n)) (pairs_of s)
    × (ascending_from 0 (map (λ (p : Pair). p.0) (pairs_of s)) ≡ true)
unfolding bad_pairing
bad_pairing_none n s e =
    let a = or_none (misheaded pairing n s) _ e in
    let b = or_none (any (bad_pair n) (read_entries pairing s)) _ a.1 in (
      (misheaded_none pairing n s a.0).3,
      all_values as_pair _ (read_entries pairing s)
          (all_map (λ (r : List ℕ). good r) (read_entries pairing s)
          (any_none (bad_pair n) (read_entries pairing s) b.0)),
      firsts (read_entries pairing s) ∙ not-false _ b.1,
    )
  where
    good : (r : List ℕ) → bad_pair n r ≡ false → (get_or r 0 0 < get_or r 1 0) × (get_or r 1 0 < n)
    good r h = stray_pair_none n (get_or r 0 0) (get_or r 1 0)
        (or_none (stray_pair n (get_or r 0 0) (get_or r 1 0)) _ h).0

    firsts : (rs : List (List ℕ)) → ascending_from 0 (map (λ (p : Pair). p.0) (map as_pair rs))
        ≡ ascending_from 0 (map (λ (r : List ℕ). get_or r 0 0) rs)
    firsts rs = ap (ascending_from 0) (map-map (λ (p : Pair). p.0) as_pair rs)
