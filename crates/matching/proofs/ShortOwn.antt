-- The short list of a list's own graph: of an accepted list without zero entries it is the list itself
-- (`short_list_is`), of any accepted list its entries above zero (`short_own`), so it is no longer (`short_length`).
-- Assumes nothing.
use mathlib.Core.Path.{◌≡◌, refl, sym, ap, subst, ◌∙◌, fun_ext}
use mathlib.Core.Logic.{inl, inr}
use mathlib.Core.Bool.{Bool, true, false, cond}
use mathlib.Core.List.{List, [], ◌∷◌}
use Prim.Native.Nat.{ℕ, suc, ◌≤◌, ◌<◌}
use native.Mathlib.Omega.{arith}
use lib.Dec.{ltb}
use lib.ListN.{length}
use Rattle.matching.specs.Lists.{All}
use Rattle.matching.specs.Pairs.{Points, same}
use Rattle.matching.specs.Listed.{Entry, Before, Accepted, listed, short_list}
use Rattle.matching.proofs.Tests.{Test, pass, fail, lt_test}
use Rattle.matching.proofs.Alls.{all_map, all_at, Has, ascends_same}
use Rattle.matching.proofs.Entries.{Fit, accepted_all, accepted_ascends, has_listed, listed_has}
use Rattle.matching.proofs.Short.{EntryOf, short_entries, short_ascends, short_has}

-- Two orders of two entries are not both.
before_strict : (e f : Entry) → Before e f → Before f e → ⊥
before_strict e f (inl p) (inl q) = omega arith
before_strict e f (inl p) (inr q) = omega (arith, q.0)
before_strict e f (inr p) (inl q) = omega (arith, p.0)
before_strict e f (inr p) (inr q) = omega (arith, p.1, q.1)

pub short_list_is : (n : ℕ) (es : List Entry) → Accepted n es → All (λ (e : Entry). 0 < e.2) es
    → short_list n (listed es) ≡ es
short_list_is n es h p =
    ascends_same Before before_strict (short_list n w) es (short_ascends n w) (accepted_ascends n es h) there back
  where
    w : Points
    w = listed es

    there : (e : Entry) → Has (short_list n w) e → Has es e
    there e k =
        (let q = all_at (EntryOf n w) (short_list n w) e (short_entries n w) k in
        subst (λ (x : ℕ). Has es (e.0, e.1, x)) (sym q.its)
        (listed_has n es h e.0 e.1 q.up (omega (arith, q.its, q.some))))

    back : (e : Entry) → Has es e → Has (short_list n w) e
    back e k =
        (let q = all_at (Fit n) es e (accepted_all n es h) k in
        let v = has_listed n es h e k in
        subst (λ (x : ℕ). Has (short_list n w) (e.0, e.1, x)) v
        (short_has n w e.0 e.1 q.0 q.1 (omega (arith, v, all_at (λ (e : Entry). 0 < e.2) es e p k))))

-- The entries above zero: an accepted list with the same points.
abbrev pub entries_above : List Entry → List Entry
entries_above [] = []
entries_above (e ∷ es) = cond (ltb 0 e.2) (e ∷ entries_above es) (entries_above es)

above_all : (P : Entry → Type 0) (es : List Entry) → All P es → All (λ e. P e × (0 < e.2)) (entries_above es)
above_all P [] p = tt
above_all P (e ∷ es) p = go (lt_test 0 e.2) (above_all P es p.1)
  where
    go : {t : Bool} → Test (0 < e.2) (e.2 ≤ 0) t → All (λ e. P e × (0 < e.2)) (entries_above es)
        → All (λ e. P e × (0 < e.2)) (cond t (e ∷ entries_above es) (entries_above es))
    go (pass h) i = ((p.0, h), i)
    go (fail h) i = i

above_accepted : (n : ℕ) (es : List Entry) → Accepted n es → Accepted n (entries_above es)
above_accepted n [] h = tt
above_accepted n (e ∷ es) h = go (ltb 0 e.2) (above_accepted n es h.1.1)
  where
    go : (t : Bool) → Accepted n (entries_above es) → Accepted n (cond t (e ∷ entries_above es) (entries_above es))
    go true i = (h.0, (all_map (λ f p. p.0) (entries_above es) (above_all (Before e) es h.1.0), i))
    go false i = i

above_listed : (es : List Entry) (a b : ℕ) → listed (entries_above es) a b ≡ listed es a b
unfolding listed
above_listed [] a b = refl
above_listed (e ∷ es) a b = go (lt_test 0 e.2) (above_listed es a b)
  where
    go : {t : Bool} → Test (0 < e.2) (e.2 ≤ 0) t → listed (entries_above es) a b ≡ listed es a b
        → listed (cond t (e ∷ entries_above es) (entries_above es)) a b ≡ listed (e ∷ es) a b
    go (pass h) i = omega arith
    go (fail h) i = omega (arith, light (same e.0 e.1 a b))
      where
        light : (t : Bool) → cond t e.2 0 ≤ e.2
        light true = omega arith
        light false = omega arith

above_length : (es : List Entry) → length (entries_above es) ≤ length es
above_length [] = omega arith
above_length (e ∷ es) = go (ltb 0 e.2) (above_length es)
  where
    go : (t : Bool) → length (entries_above es) ≤ length es
        → length (cond t (e ∷ entries_above es) (entries_above es)) ≤ suc (length es)
    go true i = omega arith
    go false i = omega arith

-- The short list of a list's graph is its entries above zero.
pub short_own : (n : ℕ) (es : List Entry) → Accepted n es → short_list n (listed es) ≡ entries_above es
short_own n es h =
    ap (short_list n) (fun_ext (λ a. fun_ext (λ b. sym (above_listed es a b))))
    ∙ short_list_is n (entries_above es) (above_accepted n es h)
    (all_map (λ e q. q.1) (entries_above es) (above_all (Fit n) es (accepted_all n es h)))

pub short_length : (n : ℕ) (es : List Entry) → Accepted n es → length (short_list n (listed es)) ≤ length es
short_length n es h = omega (arith, ap length (short_own n es h), above_length es)
