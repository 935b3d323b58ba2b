-- A call checks its inputs one after the other, each by a function that answers the first of that input's rows. These
-- laws put the answers together: what is refused by some rows is refused by them and any rows after them, and where
-- they refuse nothing the rows after them decide. At the end: the answer to a call's rows is 0 and the values just
-- where none of them holds (`rows_pass`, `rows_sound`), and a refusal's number just where its row is the first that
-- holds (`row_refused`); the same of a call on a list (`call_passes`, `call_sound`, `call_refused`).
use Prim.Native.Nat.{ℕ, zero, suc, ◌<◌}
use mathlib.Core.Path.{◌≡◌, refl, sym, ap, ◌∙◌}
use mathlib.Core.Logic.{◌≢◌, ◌↔◌}
use mathlib.Core.Bool.{Bool, true, false, cond}
use mathlib.Core.List.{List, [], ◌∷◌, ◌++◌}
use native.Mathlib.Omega.{arith}
use lib.ListN.{length}
use Rattle.checks.specs.Refusals.{Row, first, too_few_words, lists, list_rows}
use Rattle.checks.specs.Calls.{number, call_rows}
use Rattle.checks.specs.declared.Refusal.{Refusal}
use Rattle.checks.specs.declared.Refusal.TheVariants.{FewWords, NoList, TooLarge, WrongLength, StrayEntry, Unordered}
use Rattle.checks.specs.declared.Refusal.TheVariants.{BadSlip, Disallowed, BadPairing, NoPairing, Crowded, ShortOutput}
use Rattle.checks.specs.declared.Refusal.TheVariants.{BadRaw}
use Rattle.cellfile.specs.Answers.{Answer, answer}
use Rattle.matching.specs.Lists.{All}
use Rattle.matching.proofs.Alls.{all_append}
use Rattle.checks.proofs.Rows.{first_none, list_none}

-- ---- refusals

pub number_some : (r : Refusal) → 0 < number r
number_some FewWords = omega arith
number_some NoList = omega arith
number_some TooLarge = omega arith
number_some WrongLength = omega arith
number_some StrayEntry = omega arith
number_some Unordered = omega arith
number_some BadSlip = omega arith
number_some Disallowed = omega arith
number_some BadPairing = omega arith
number_some NoPairing = omega arith
number_some Crowded = omega arith
number_some ShortOutput = omega arith
number_some BadRaw = omega arith

-- ---- answers

-- an answer with no value is a refusal, where an accepted one has a value
pub answer_refused : (n k v : ℕ) (vs : List ℕ) → (k, []) ≡ answer n (v ∷ vs) → (0 < n) × (k ≡ n)
answer_refused zero k v vs e = absurd (omega (arith, ap (λ (a : Answer). length a.1) e))
answer_refused (suc n) k v vs e = (omega arith, ap (λ (a : Answer). a.0) e)

-- a refusal's number is that of the rows
pub answer_number : (n k : ℕ) (vs : List ℕ) → 0 < k → (answer n vs ≡ (k, [])) ↔ (n ≡ k)
answer_number n k vs h = (λ e. number n e, λ e. ap (λ j. answer j vs) e ∙ refused k h)
  where
    number : (n : ℕ) → answer n vs ≡ (k, []) → n ≡ k
    number zero e = ap (λ (a : Answer). a.0) e
    number (suc n) e = ap (λ (a : Answer). a.0) e

    refused : (k : ℕ) → 0 < k → answer k vs ≡ (k, [])
    refused zero h = absurd (omega arith)
    refused (suc k) h = refl

-- an answer with the number 0 is no refusal
pub answer_accepted : (n : ℕ) (us vs : List ℕ) → (0, us) ≡ answer n vs → (n ≡ 0) × (us ≡ vs)
answer_accepted zero us vs e = (refl, ap (λ (a : Answer). a.1) e)
answer_accepted (suc n) us vs e = absurd (omega (arith, ap (λ (a : Answer). a.0) e))

-- ---- rows after rows

pub first_refused : (rows more : List Row) → 0 < first rows → first (rows ++ more) ≡ first rows
first_refused [] more h = absurd (omega arith)
first_refused (r ∷ rows) more h = go r.1 h (first_refused rows more)
  where
    go : (t : Bool) → 0 < cond t r.0 (first rows) → (0 < first rows → first (rows ++ more) ≡ first rows)
        → cond t r.0 (first (rows ++ more)) ≡ cond t r.0 (first rows)
    go true k i = refl
    go false k i = i k

pub first_passed : (rows more : List Row) → All (λ (r : Row). r.1 ≡ false) rows → first (rows ++ more) ≡ first more
first_passed [] more h = refl
first_passed (r ∷ rows) more h = rw (h.0, first_passed rows more h.1)

-- where a check passes, the rows behind its own decide
module _ (rows more : List Row) where
  pub after_passed : {k : ℕ} → All (λ (r : Row). 0 < r.0) rows → 0 ≡ first rows → k ≡ first more
      → k ≡ first (rows ++ more)
  after_passed h e p = p ∙ sym (first_passed rows more (first_none rows h (sym e)))

-- the answer of a refusal, and where no row holds
pub refusal_answers : (rows : List Row) (values : List ℕ) (r : Refusal) → number r ≡ first rows
    → (number r, []) ≡ answer (first rows) values
refusal_answers rows values r e = sym ((answer_number (first rows) (number r) values (number_some r)).1 (sym e))

-- ---- the rows of a call: 1, those of the list, and more

pub rows_pass : (rows : List Row) (vs : List ℕ) → All (λ (r : Row). r.1 ≡ false) rows
    → answer (first rows) vs ≡ (0, vs)
rows_pass [] vs h = refl
rows_pass (r ∷ rows) vs h = rw h.0 (rows_pass rows vs h.1)

-- where the number is 0 none of them holds
pub rows_sound : (rows : List Row) (us values : List ℕ) → All (λ (r : Row). 0 < r.0) rows
    → answer (first rows) values ≡ (0, us) → All (λ (r : Row). r.1 ≡ false) rows × (us ≡ values)
rows_sound rows us values p e =
    let a = answer_accepted (first rows) us values (sym e) in (first_none rows p a.0, a.1)

rows_apart : (rows more : List Row) → All (λ (r : Row). r.1 ≡ false) (rows ++ more)
    → (first rows ≡ 0) × All (λ (r : Row). r.1 ≡ false) more
rows_apart [] more h = (refl, h)
rows_apart (r ∷ rows) more h = let a = rows_apart rows more h.1 in (rw h.0 a.0, a.1)

-- the first row that holds has the number k, which no other row has
never : (rows : List Row) (k : ℕ) → 0 < k → All (λ (r : Row). r.0 ≢ k) rows → first rows ≢ k
never [] k h p = λ e. omega arith
never (r ∷ rows) k h p = go r.1 (never rows k h p.1)
  where
    go : (t : Bool) → first rows ≢ k → cond t r.0 (first rows) ≢ k
    go true i = p.0
    go false i = i

first_at : (rows more : List Row) (k : ℕ) (t : Bool) → 0 < k → All (λ (r : Row). r.0 ≢ k) rows
    → All (λ (r : Row). r.0 ≢ k) more → first (rows ++ (k, t) ∷ more) ≡ k
    → All (λ (r : Row). r.1 ≡ false) rows × (t ≡ true)
first_at [] more k t h p q e = (tt, go t e)
  where
    go : (t : Bool) → cond t k (first more) ≡ k → t ≡ true
    go true d = refl
    go false d = absurd (never more k h q d)
first_at (r ∷ rows) more k t h p q e = go r.1 e (first_at rows more k t h p.1 q)
  where
    go : (s : Bool) → cond s r.0 (first (rows ++ (k, t) ∷ more)) ≡ k
        → (first (rows ++ (k, t) ∷ more) ≡ k → All (λ (r : Row). r.1 ≡ false) rows × (t ≡ true))
        → ((s ≡ false) × All (λ (r : Row). r.1 ≡ false) rows) × (t ≡ true)
    go true d i = absurd (p.0 d)
    go false d i = let a = i d in ((refl, a.0), a.1)

first_here : (rows more : List Row) (k : ℕ) (t : Bool) → All (λ (r : Row). r.1 ≡ false) rows → t ≡ true
    → first (rows ++ (k, t) ∷ more) ≡ k
first_here rows more k t p e = first_passed rows ((k, t) ∷ more) p ∙ ap (λ (s : Bool). cond s k (first more)) e

-- a number is answered just where its row is the first that holds
pub row_refused : (rows more : List Row) (k : ℕ) (t : Bool) (values : List ℕ) → 0 < k → All (λ (r : Row). r.0 ≢ k) rows
    → All (λ (r : Row). r.0 ≢ k) more
    → (answer (first (rows ++ (k, t) ∷ more)) values ≡ (k, [])) ↔ (All (λ (r : Row). r.1 ≡ false) rows × (t ≡ true))
row_refused rows more k t values h p q =
    let number = answer_number (first (rows ++ (k, t) ∷ more)) k values h in
    ((λ e. first_at rows more k t h p q (number.0 e)), λ s. number.1 (first_here rows more k t s.0 s.1))

module _ (list lent : List ℕ) (more : List Row) where
  abbrev called : List Row
  called = call_rows (too_few_words lent) list ++ more

  -- where none of them holds the answer is the values
  pub call_passes : (values : List ℕ) → too_few_words lent ≡ false → first (list_rows lists list) ≡ 0
      → All (λ (r : Row). r.1 ≡ false) more → answer (first called) values ≡ (0, values)
  call_passes values few h p =
      rows_pass called values (
        few,
        all_append (λ (r : Row). r.1 ≡ false) (list_rows lists list) more (list_none lists list h) p,
      )

  -- where the number is 0 none of them holds
  pub call_sound : (us values : List ℕ) → All (λ (r : Row). 0 < r.0) more → answer (first called) values ≡ (0, us)
      → (too_few_words lent ≡ false) × (first (list_rows lists list) ≡ 0) × All (λ (r : Row). r.1 ≡ false) more
      × (us ≡ values)
  call_sound us values p e =
      let b =
      rows_sound called us values
      (omega arith, all_append (λ (r : Row). 0 < r.0) (list_rows lists list) more (omega arith) p) e in
      let c = rows_apart (list_rows lists list) more b.0.1 in
      (b.0.0, c.0, c.1, b.1)

-- a number above 6 is answered just where its row is the first that holds
pub call_refused : (list lent : List ℕ) (rows more : List Row) (k : ℕ) (t : Bool) (values : List ℕ) → 6 < k
    → All (λ (r : Row). r.0 ≢ k) rows → All (λ (r : Row). r.0 ≢ k) more
    → (answer (first (call_rows (too_few_words lent) list ++ (rows ++ (k, t) ∷ more))) values ≡ (k, []))
    ↔ ((too_few_words lent ≡ false) × (first (list_rows lists list) ≡ 0) × All (λ (r : Row). r.1 ≡ false) rows
    × (t ≡ true))
call_refused list lent rows more k t values h p q = (to, from)
  where
    before : List Row
    before = (1, too_few_words lent) ∷ (list_rows lists list ++ rows)

    others : All (λ (r : Row). r.0 ≢ k) (list_rows lists list)
    others =
        ((λ e. omega arith), ((λ e. omega arith), ((λ e. omega arith), ((λ e. omega arith), ((λ e. omega arith), tt)))))

    just : (answer (first (before ++ (k, t) ∷ more)) values ≡ (k, []))
        ↔ (All (λ (r : Row). r.1 ≡ false) before × (t ≡ true))
    just =
        row_refused before more k t values (omega arith)
        ((λ e. omega arith), all_append (λ (r : Row). r.0 ≢ k) (list_rows lists list) rows others p) q

    Says : Type 0
    Says =
        (too_few_words lent ≡ false) × (first (list_rows lists list) ≡ 0) × All (λ (r : Row). r.1 ≡ false) rows
        × (t ≡ true)

    to : answer (first (before ++ (k, t) ∷ more)) values ≡ (k, []) → Says
    to e =
        let a = just.0 e in
        let b = rows_apart (list_rows lists list) rows a.0.1 in
        (a.0.0, b.0, b.1, a.1)

    from : Says → answer (first (before ++ (k, t) ∷ more)) values ≡ (k, [])
    from s =
        just.1 (
          (
            s.0,
            all_append (λ (r : Row). r.1 ≡ false) (list_rows lists list) rows (list_none lists list s.1) s.2,
          ),
          s.3,
        )
