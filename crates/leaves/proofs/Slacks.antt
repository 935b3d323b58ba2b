-- What cells and slots show. In order: no leaf below a cell (`quiet_to`); a leaf of u (`due_here`); a live slot of u
-- (`stays_on`); the loop over the slots of u: what holds of the slots passed (`Slacks`): how it passes a slot
-- (`slacks_on`), and what it shows at its end (`slacks_end`). Assumes nothing.
use mathlib.Core.Path.{◌≡◌, refl, sym, ap, ◌∙◌}
use mathlib.Core.Logic.{◌≢◌}
use mathlib.Core.Bool.{Bool, true}
use mathlib.Core.List.{List, [], ◌∷◌}
use Prim.Native.Nat.{ℕ, suc, ◌+◌, ◌-◌, ◌≤◌, ◌<◌, min, max}
use native.Mathlib.Omega.{arith}
use lib.ListN.{get_or}
use Rattle.matching.specs.Pairs.{Points, touches}
use Rattle.matching.specs.Graph.{degree}
use Rattle.matching.proofs.Tests.{Test, pass, fail, lt_test}
use Rattle.matching.proofs.Members.{clash}
use Rattle.slots.specs.Slots.{Holds, graph_of, low_of, high_of}
use Rattle.slots.specs.Found.{LastSlot, Only}
use Rattle.slots.specs.declared.read.Other.{Other}
use Rattle.slots.proofs.Graphs.{joins_points}
use Rattle.slots.proofs.Scanning.{slot_joins, joins_turned, joins_some, joins_has, slots_on}
use Rattle.finding.specs.Finding.{NoLeaf, Quiet}
use Rattle.leaves.specs.Runs.{NotAbove, Slack, LeafOf}

-- no cell below n is a leaf
pub quiet_to : (w : Points) {low n : ℕ} → Quiet low w → NoLeaf w low n → Quiet n w
quiet_to w {low} {n} q m = λ c l. go c l (lt_test c low)
  where
    go : (c : ℕ) → c < n → {t : Bool} → Test (c < low) (low ≤ c) t → degree 1024 w c ≢ 1
    go c l (pass b) = q c b
    go c l (fail b) = m c b l

-- the only pair of c is with u
pub due_here : {e : ℕ} {w1 w2 : List ℕ} → Holds e w1 w2 → {u c : ℕ} {r : Other} → Only e w1 c r → r.partner ≡ u
    → LeafOf (graph_of e w1) u c (get_or w1 r.slot 0)
due_here {e} {w1} h {u} {c} {r} o q = (
  o.partner ∙ ap (λ x. x ∷ []) q,
  sym (joins_points h (joins_turned o.joins)) ∙ ap (λ x. graph_of e w1 x c) q,
)

-- `least` is not above the points of a slot from i on that joins u with a cell that is no leaf; `most` is not above the
-- points of some pair at u; slot i - 1 has u.
pub record Slacks (e : ℕ) (w1 : List ℕ) (u least most i : ℕ) : Type 0 where
  pub top : i ≤ e
  pub has : (k : ℕ) → i ≡ suc k → touches u (low_of w1 k) (high_of w1 k) ≡ true
  pub past : (j : ℕ) → i ≤ j → NotAbove e w1 u j least
  pub stays : (y : ℕ) × (most ≤ graph_of e w1 u y)

-- a live slot of u
pub stays_on : {e : ℕ} {w1 w2 : List ℕ} → Holds e w1 w2 → (u k : ℕ) → k < e
    → touches u (low_of w1 k) (high_of w1 k) ≡ true → 0 < get_or w1 k 0 → (y : ℕ) × (get_or w1 k 0 ≤ graph_of e w1 u y)
stays_on {e} {w1} h u k l t p =
    let j = slot_joins h (record { below = l; live = p; has = t }) refl in
    (low_of w1 k + high_of w1 k - u, omega (arith, joins_points h j.0))

module _ {e : ℕ} {w1 w2 : List ℕ} (h : Holds e w1 w2) {u : ℕ} where
  pub slacks_on : {least most k : ℕ} → Slacks e w1 u least most (suc k) → {least' : ℕ} → least' ≤ least
      → NotAbove e w1 u k least' → {i : ℕ} → LastSlot w1 u k i → {most' : ℕ} → most' ≡ max most (get_or w1 k 0)
      → Slacks e w1 u least' most' i
  slacks_on {least} {most} {k} s {least'} a here {i} l {most'} m = record {
    top = omega (arith, l.low, s.top);
    has = l.at;
    past = slots_on l (λ j. NotAbove e w1 u j least') (λ j o f x d. clash (joins_has x) o) here
        (λ j n f x d. omega (arith, s.past j (omega arith) f x d));
    stays = go (lt_test most (get_or w1 k 0));
  }
    where
      go : {t : Bool} → Test (most < get_or w1 k 0) (get_or w1 k 0 ≤ most) t → (y : ℕ) × (most' ≤ graph_of e w1 u y)
      go (pass p) = let y = stays_on h u k (omega (arith, s.top)) (s.has k refl) (omega arith) in
          (y.0, omega (arith, y.1))
      go (fail p) = (s.stays.0, omega (arith, s.stays.1))

  pub slacks_end : {least most r : ℕ} → Slacks e w1 u least most 0 → r ≡ min least most → Slack (graph_of e w1) u r
  slacks_end {least} {most} {r} s a = record {
    others = λ x p d. (let j = joins_some e w1 u x p in
        omega (arith, s.past j.0 (omega arith) x j.1 d, joins_points h j.1));
    stays = (s.stays.0, omega (arith, s.stays.1));
  }
