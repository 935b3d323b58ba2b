-- The runs of the rows: a short list has for each lower cell a run of entries, ascending by the higher cell. In order:
-- lists of which one goes on from another (`Onto`); so do the entries of a lower cell, and those of the lower cells
-- below one; how many entries stand before the pair of two cells (`before`), over which cells this number stays
-- (`run_skip`), and which entry stands there (`run_met`, `run_missed`); where a run ends (`run_ends`).
-- Assumes nothing.
use mathlib.Core.Path.{◌≡◌, refl, sym, ap, ◌∙◌}
use mathlib.Core.Logic.{◌⊎◌, inl, inr}
use mathlib.Core.Bool.{Bool, true, false, cond, ◌&&◌}
use mathlib.Core.List.{List, [], ◌∷◌, ◌++◌, append-nil, append_assoc}
use Prim.Native.Nat.{ℕ, zero, suc, ◌+◌, ◌-◌, ◌≤◌, ◌<◌}
use native.Mathlib.Omega.{arith}
use lib.Dec.{ltb}
use borrow.Author.Tests.{lt-ltb}
use lib.ListN.{length, get_or, length-append, get_or-append}
use lib.Seq.{get_or-append-add, get_or-append_seam}
use Rattle.matching.specs.Lists.{All}
use Rattle.matching.specs.Pairs.{Points}
use Rattle.matching.specs.Listed.{Entry, short_at, short_below, short_list}
use Rattle.matching.proofs.Tests.{Test, pass, fail, lt_test, and_test}
use Rattle.matching.proofs.Alls.{all_map, all_append}
use Rattle.cellfile.specs.Words.{no_entry, RowsOf}
use Rattle.buffers.specs.Map.{at_cells}
use Rattle.gathering.specs.Gathered.{RunEnd}

-- ---- lists that go on

-- The second list is the first and then elements that are as P says.
record Onto {A : Type 0} (P : A → Type 0) (xs ys : List A) : Type 0 where
  rest : List A
  is : ys ≡ xs ++ rest
  each : All P rest

module _ {A : Type 0} where
  onto_grown : (f g : ℕ → List A) → ((x : ℕ) → f (suc x) ≡ f x ++ g x) → (P : A → Type 0) (c : ℕ)
      → ((x : ℕ) → c ≤ x → All P (g x)) → (d : ℕ) → Onto P (f c) (f (d + c))
  onto_grown f g s P c h zero =
      let z : 0 + c ≡ c = omega arith in
      record { rest = []; is = rw z (sym (append-nil (f c))); each = tt }
  onto_grown f g s P c h (suc d) =
      let i = onto_grown f g s P c h d in
      let z : suc d + c ≡ suc (d + c) = omega arith in
      record {
        rest = i.rest ++ g (d + c);
        is = rw z (s (d + c) ∙ ap (λ xs. xs ++ g (d + c)) i.is ∙ append_assoc (f c) i.rest (g (d + c)));
        each = all_append P i.rest (g (d + c)) i.each (h (d + c) (omega arith));
      }

  behind_all : (P : A → Type 0) (xs zs : List A) (d : A) (i : ℕ) → All P zs → length xs ≤ i
      → i < length (xs ++ zs) → P (get_or (xs ++ zs) i d)
  behind_all P [] [] d i p l m = absurd (omega arith)
  behind_all P [] (z ∷ zs) d zero p l m = p.0
  behind_all P [] (z ∷ zs) d (suc i) p l m = behind_all P [] zs d i p.1 (omega arith) (omega arith)
  behind_all P (x ∷ xs) zs d zero p l m = absurd (omega arith)
  behind_all P (x ∷ xs) zs d (suc i) p l m = behind_all P xs zs d i p (omega arith) (omega arith)

  module _ {P : A → Type 0} {xs ys : List A} (h : Onto P xs ys) where
    onto_length : length xs ≤ length ys
    onto_length = omega (arith, ap length h.is, length-append xs h.rest)

    onto_kept : (d : A) (i : ℕ) → i < length xs → get_or ys i d ≡ get_or xs i d
    onto_kept d i l = ap (λ zs. get_or zs i d) h.is ∙ get_or-append xs h.rest d i l

    onto_behind : (d : A) (i : ℕ) → length xs ≤ i → i < length ys → P (get_or ys i d)
    onto_behind d i l m =
        rw h.is (behind_all P xs h.rest d i h.each l (omega (arith, ap length h.is)))

-- ---- the entries of a lower cell, and those of the lower cells below one

module _ (w : Points) where
  abbrev pair_at : ℕ → ℕ → List Entry
  pair_at a b = cond (ltb a b && ltb 0 (w a b)) ((a, b, w a b) ∷ []) []

  pair_in : (a b : ℕ) → a < b → 0 < w a b → pair_at a b ≡ (a, b, w a b) ∷ []
  pair_in a b l k = rw (lt-ltb a b l, lt-ltb 0 (w a b) k)

  pair_out : (a b : ℕ) → (b ≤ a) ⊎ (w a b ≡ 0) → pair_at a b ≡ []
  pair_out a b h = go (and_test (lt_test a b) (lt_test 0 (w a b)))
    where
      not : (b ≤ a) ⊎ (w a b ≡ 0) → (a < b) × (0 < w a b) → ⊥
      not (inl k) p = omega (arith, p)
      not (inr k) p = omega (arith, p)

      go : {t : Bool} {N : Type 0} → Test ((a < b) × (0 < w a b)) N t
          → cond {A = List Entry} t ((a, b, w a b) ∷ []) [] ≡ []
      go (pass p) = absurd (not h p)
      go (fail n) = refl

  pair_all : (P : Entry → Type 0) (a b : ℕ) → P (a, b, w a b) → All P (pair_at a b)
  pair_all P a b p = go (ltb a b && ltb 0 (w a b))
    where
      go : (t : Bool) → All P (cond t ((a, b, w a b) ∷ []) [])
      go true = (p, tt)
      go false = tt

  -- of the lower cell a and a cell from c on
  abbrev pub From : ℕ → ℕ → Entry → Type 0
  From a c e = (e.0 ≡ a) × (c ≤ e.1) × (e.2 ≡ w a e.1)

  at_onto : (a c n : ℕ) → c ≤ n → Onto (From a c) (short_at w a c) (short_at w a n)
  at_onto a c n l =
      let z : n - c + c ≡ n = omega arith in
      rw z at (onto_grown (short_at w a) (pair_at a) (λ b. refl) (From a c) c
      (λ b m. pair_all (From a c) a b (refl, m, refl)) (n - c))

  at_own : (a n : ℕ) → All (λ (e : Entry). e.0 ≡ a) (short_at w a n)
  at_own a n =
      let h = at_onto a 0 n (omega arith) in
      rw h.is (all_map (λ e p. p.0) h.rest h.each)

  below_onto : (n a m : ℕ) → a ≤ m → Onto (λ (e : Entry). a ≤ e.0) (short_below n w a) (short_below n w m)
  below_onto n a m l =
      let z : m - a + a ≡ m = omega arith in
      rw z at (onto_grown (short_below n w) (λ b. short_at w b n) (λ b. refl) (λ (e : Entry). a ≤ e.0) a
      (λ b k. all_map (λ e p. omega arith) (short_at w b n) (at_own b n)) (m - a))

  -- the run of a cell among those up to it
  run_onto : (n a : ℕ) → Onto (λ (e : Entry). e.0 ≡ a) (short_below n w a) (short_below n w (suc a))
  run_onto n a = record { rest = short_at w a n; is = refl; each = at_own a n }

-- ---- where the pair of two cells stands

-- How many entries stand before those of the lower cell a and cells from c on.
abbrev pub before : ℕ → Points → ℕ → ℕ → ℕ
before n w a c = length (short_below n w a) + length (short_at w a c)

module _ (n : ℕ) (w : Points) (a : ℕ) where
  run_all : before n w a n ≡ length (short_below n w (suc a))
  run_all = sym (length-append (short_below n w a) (short_at w a n))

  pub run_few : a < n → length (short_below n w (suc a)) ≤ length (short_list n w)
  run_few l = onto_length (below_onto w n (suc a) n l)

  -- cells of which none has points may be skipped
  pub run_skip : (c d : ℕ) → c ≤ d → ((b : ℕ) → c ≤ b → b < d → (b ≤ a) ⊎ (w a b ≡ 0))
      → before n w a d ≡ before n w a c
  run_skip c d l h = (let z : d - c + c ≡ d = omega arith in rw z at (go (d - c) (omega arith)))
    where
      go : (m : ℕ) → m + c ≤ d → before n w a (m + c) ≡ before n w a c
      go zero k = let z : 0 + c ≡ c = omega arith in rw z
      go (suc m) k =
          let z : suc m + c ≡ suc (m + c) = omega arith in
          rw (z, pair_out w a (m + c) (h (m + c) (omega arith) (omega arith)), append-nil)
          (go m (omega arith))

  module _ (c : ℕ) (low : a < n) (m : c < n) where
    -- an entry of the run stands there
    in_run : before n w a c < length (short_below n w (suc a))
        → get_or (short_list n w) (before n w a c) no_entry ≡ get_or (short_at w a n) (length (short_at w a c)) no_entry
    in_run k =
        onto_kept (below_onto w n (suc a) n (omega arith)) no_entry (before n w a c) k
        ∙ get_or-append-add (short_below n w a) (short_at w a n) (length (short_at w a c)) no_entry

    -- the pair has points
    module _ (l : a < c) (h : 0 < w a c) where
      one : short_at w a (suc c) ≡ short_at w a c ++ (a, c, w a c) ∷ []
      one = ap (λ es. short_at w a c ++ es) (pair_in w a c l h)

      longer : length (short_at w a (suc c)) ≡ suc (length (short_at w a c))
      longer = omega (arith, ap length one, length-append (short_at w a c) ((a, c, w a c) ∷ []))

      pub run_longer : before n w a (suc c) ≡ suc (before n w a c)
      run_longer = omega (arith, longer)

      pub run_within : before n w a c < length (short_below n w (suc a))
      run_within = omega (arith, longer, run_all, onto_length (at_onto w a (suc c) n (omega arith)))

      pub run_met : get_or (short_list n w) (before n w a c) no_entry ≡ (a, c, w a c)
      run_met =
          in_run run_within
          ∙ onto_kept (at_onto w a (suc c) n (omega arith)) no_entry (length (short_at w a c)) (omega (arith, longer))
          ∙ ap (λ es. get_or es (length (short_at w a c)) no_entry) one
          ∙ get_or-append_seam (short_at w a c) (a, c, w a c) [] no_entry

    -- it has none
    pub run_missed : w a c ≡ 0 → before n w a c < length (short_below n w (suc a))
        → From w a (suc c) (get_or (short_list n w) (before n w a c) no_entry)
    run_missed z k =
        rw (in_run k)
        (onto_behind (at_onto w a (suc c) n (omega arith)) no_entry (length (short_at w a c))
        (omega (arith, ap length none)) (omega (arith, run_all)))
      where
        none : short_at w a (suc c) ≡ short_at w a c
        none = ap (λ es. short_at w a c ++ es) (pair_out w a c (inr z)) ∙ append-nil (short_at w a c)

-- ---- where a run ends

-- behind the rows from the start of the run on whose lower cell is its own
pub run_ends : (n : ℕ) (w : Points) {a r j : ℕ} {w1 : List ℕ} → RowsOf (short_list n w) r w1 → a < n
    → RunEnd (length (short_below n w a)) r a w1 j → j ≡ length (short_below n w (suc a))
run_ends n w {a} {r} {j} {w1} h l e = go (lt_test j m) (lt_test m j)
  where
    m : ℕ
    m = length (short_below n w (suc a))

    all : Onto (λ (f : Entry). suc a ≤ f.0) (short_below n w (suc a)) (short_list n w)
    all = below_onto w n (suc a) n (omega arith)

    inside : j < m → get_or w1 (at_cells + j) 0 ≡ a
    inside k =
        h.cell j (omega (arith, h.count, onto_length all))
        ∙ ap (λ (f : Entry). f.0) (onto_kept all no_entry j k)
        ∙ onto_behind (run_onto w n a) no_entry j e.within.0 k

    behind : m < j → a < get_or w1 (at_cells + m) 0
    behind k =
        let b : m < r = omega (arith, e.within) in
        rw (h.cell m b) (onto_behind all no_entry m (omega arith) (omega (arith, h.count)))

    go : {s t : Bool} → Test (j < m) (m ≤ j) s → Test (m < j) (j ≤ m) t → j ≡ m
    go (pass k) y = absurd (e.past (omega (arith, h.count, onto_length all)) (inside k))
    go (fail k) (pass b) =
        absurd (omega (arith, behind b, e.own m (omega (arith, onto_length (run_onto w n a))) b))
    go (fail k) (fail b) = omega arith
