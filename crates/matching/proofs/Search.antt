-- The search for a step below k. In order: what is found is the first that is there (`searched`), and the first that is
-- there is found (`search_first`, `search_nothing`); where all that are there are one step, it is found
-- (`search_found`). Assumes nothing.
use mathlib.Core.Path.{◌≡◌, refl, sym, ap, subst, ◌∙◌}
use mathlib.Core.Logic.{◌≢◌}
use mathlib.Core.Bool.{Bool}
use mathlib.Core.Option.{Option, some, none}
use Prim.Native.Nat.{ℕ, zero, suc, ◌≤◌, ◌<◌}
use native.Mathlib.Omega.{arith}
use Rattle.matching.specs.Steps.{Step}
use Rattle.matching.specs.Find.{or_else, search}
use Rattle.matching.proofs.Tests.{Test, pass, fail, eq_test, lt_test}

pub none_some : {P : Type 0} {o : Option Step} {s : Step} → o ≡ none → o ≡ some s → P
none_some p q = let y : ◌≡◌ {A = ℕ} 0 1 = cc in absurd (omega arith)

-- Nothing below k is there; or a step is, and none before it.
abbrev pub Searched : (ℕ → Option Step) → ℕ → Option Step → Type 0
Searched f k none = (i : ℕ) → i < k → f i ≡ none
Searched f k (some s) = (i : ℕ) × (i < k) × (f i ≡ some s) × ((j : ℕ) → j < i → f j ≡ none)

pub searched : (f : ℕ → Option Step) (k : ℕ) → Searched f k (search f k)
searched f zero = λ i h. absurd (omega arith)
searched f (suc k) = go (search f k) (f k) refl (searched f k)
  where
    go : (o p : Option Step) → f k ≡ p → Searched f k o → Searched f (suc k) (or_else o p)
    go none none e i = λ j h. at j h (eq_test j k)
      where
        at : (j : ℕ) → j < suc k → {t : Bool} → Test (j ≡ k) (j ≢ k) t → f j ≡ none
        at j h (pass q) = ap f q ∙ e
        at j h (fail d) = i j (omega arith)
    go none (some s) e i = (k, omega arith, e, i)
    go (some s) p e i = (i.0, omega arith, i.2, i.3)

pub search_some : (f : ℕ → Option Step) (k : ℕ) (s : Step) → search f k ≡ some s → Searched f k (some s)
search_some f k s h = subst (Searched f k) h (searched f k)

pub search_first : (f : ℕ → Option Step) (k i : ℕ) (s : Step) → i < k → f i ≡ some s
    → ((j : ℕ) → j < i → f j ≡ none) → search f k ≡ some s
search_first f k i s l h nil = go (search f k) (searched f k)
  where
    go : (o : Option Step) → Searched f k o → o ≡ some s
    go none n = none_some (n i l) h
    go (some t) y = at (lt_test y.0 i) (lt_test i y.0)
      where
        at : {p q : Bool} → Test (y.0 < i) (i ≤ y.0) p → Test (i < y.0) (y.0 ≤ i) q → some t ≡ some s
        at (pass b) c = none_some (nil y.0 b) y.2
        at (fail b) (pass c) = none_some (y.3 i c) h
        at (fail b) (fail c) = sym y.2 ∙ ap f {x = y.0} {y = i} (omega arith) ∙ h

pub search_nothing : (f : ℕ → Option Step) (k : ℕ) → ((j : ℕ) → j < k → f j ≡ none) → search f k ≡ none
search_nothing f k nil = go (search f k) (searched f k)
  where
    go : (o : Option Step) → Searched f k o → o ≡ none
    go none n = refl
    go (some t) y = none_some (nil y.0 y.1) y.2

pub search_found : (f : ℕ → Option Step) (k i : ℕ) (s : Step) → i < k → f i ≡ some s
    → ((j : ℕ) (t : Step) → f j ≡ some t → t ≡ s) → search f k ≡ some s
search_found f k i s l h one = go (search f k) (searched f k)
  where
    go : (o : Option Step) → Searched f k o → o ≡ some s
    go none n = none_some (n i l) h
    go (some t) y = ap some (one y.0 t y.2)
