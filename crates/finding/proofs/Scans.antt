-- The first step of a rule. In order: what a slot shows (`none_at_slot`); the slots of a cell (`unmet_on`,
-- `unmet_end`); the cells (`Barren`, `scan_none`, `scan_some`); a leaf, by its degree (`leaf_found`, `leaf_none`,
-- `leaf_some`); a scan that leaves out cells below a bound (`from_bound`, `from_low`); the first step of all rules
-- (`leaf_first`, `first_ring`, `first_chain`).
use mathlib.Core.Path.{◌≡◌, refl, sym, ap, ap₂, subst, ◌∙◌, fun_ext}
use mathlib.Core.Logic.{◌≢◌}
use mathlib.Core.Bool.{Bool}
use mathlib.Core.List.{List}
use mathlib.Core.Option.{Option, some, none}
use Rattle.std.specs.Prelude.{Option as Perhaps, Some, None, MatchOption}
use Prim.Native.Nat.{ℕ, suc, ◌+◌, ◌-◌, ◌≤◌, ◌<◌, max}
use native.Mathlib.Omega.{arith}
use Rattle.matching.specs.Pairs.{Points}
use Rattle.matching.specs.Graph.{Graph, degree}
use Rattle.matching.specs.Steps.{Rule, by_leaf, by_ring, by_chain, Step, leaf, ring, chain}
use Rattle.matching.specs.Shapes.{IsStep}
use Rattle.matching.specs.Find.{or_else, search, step_at, first_step_of}
use Rattle.matching.proofs.Tests.{Test, pass, fail, eq_test, lt_test}
use Rattle.matching.proofs.Members.{clash}
use Rattle.matching.proofs.Search.{Searched, searched, search_first, search_nothing}
use Rattle.matching.proofs.Find.{step_found, step_none}
use Rattle.matching.proofs.More.{first_more}
use Rattle.cellfile.specs.Answers.{Answer}
use Rattle.slots.specs.Slots.{Holds, graph_of}
use Rattle.slots.specs.Found.{LastSlot, Only}
use Rattle.slots.specs.declared.read.Other.{Other}
use Rattle.slots.proofs.Graphs.{holds_graph}
use Rattle.slots.proofs.Holding.{joins_pair}
use Rattle.slots.proofs.Scanning.{joins_turned, joins_some, joins_has, slots_on}
use Rattle.finding.specs.Finding.{told, to_tell, Finds, MayFind, step_from, Unnamed, StepAtSlot}
use Rattle.finding.specs.Finding.{FindsAt, Unmet, NoLeaf, FirstLeaf, Quiet}
use Rattle.finding.specs.declared.Found.{Found}
use Rattle.finding.specs.declared.Step as declared
use Rattle.finding.specs.declared.Step.TheVariants as found
use Rattle.finding.proofs.Ways.{step_met}

-- ---- what the enum tells

-- what is told of a step is one
pub told_some : (s : declared.Step) (o : Option Step) → told s ≡ to_tell o → (t : Step) × (o ≡ some t)
told_some s (some t) e = (t, refl)
told_some (found.Leaf v u) none e = absurd (omega (arith, ap (λ (x : Answer). x.0) e))
told_some (found.Ring u z) none e = absurd (omega (arith, ap (λ (x : Answer). x.0) e))
told_some (found.Chain u v z) none e = absurd (omega (arith, ap (λ (x : Answer). x.0) e))

module _ {e : ℕ} {w1 w2 : List ℕ} (h : Holds e w1 w2) where
  -- ---- what a slot shows

  -- where nothing is found, none is met
  pub none_at_slot : {r : Rule} {c i : ℕ} → FindsAt e w1 r c i None → StepAtSlot e w1 r c i none
  none_at_slot {r} {c} {i} a = subst (StepAtSlot e w1 r c i) a.finds a.is

  -- ---- the slots of a cell

  module _ {r : Rule} {c k : ℕ} (n : Unmet e w1 r c (suc k)) where
    -- slot k shows none either
    pub unmet_on : StepAtSlot e w1 r c k none → {i : ℕ} → LastSlot w1 c k i → Unmet e w1 r c i
    unmet_on miss {i} l = record {
      top = omega (arith, l.low, n.top);
      has = l.at;
      fits = λ j q. n.fits k refl;
      past = slots_on l (λ j. StepAtSlot e w1 r c j none) (λ j o f m s p y. clash (joins_has m) o) miss
          (λ j a. n.past j (omega arith));
    }

  -- no slot is left
  pub unmet_end : {r : Rule} {c : ℕ} → Unmet e w1 r c 0 → (s : Step) → IsStep 1024 (graph_of e w1) r c s → ⊥
  unmet_end {r} {c} n s p =
      let m = step_met (holds_graph h) r c s p in
      let j = joins_some e w1 c m.0 m.1 in
      n.past j.0 (omega arith) m.0 j.1 s p m.2

-- ---- the cells

-- No step of the rule stands at the cells from `from` to before c.
pub record Barren (e : ℕ) (w1 : List ℕ) (r : Rule) (from c : ℕ) : Type 0 where
  pub low : from ≤ c
  pub none_at : (x : ℕ) → from ≤ x → x < c → (s : Step) → IsStep 1024 (graph_of e w1) r x s → ⊥

module _ {e : ℕ} {w1 : List ℕ} {r : Rule} {from : ℕ} where
  pub barren_on : {c : ℕ} → Barren e w1 r from c → ((s : Step) → IsStep 1024 (graph_of e w1) r c s → ⊥)
      → Barren e w1 r from (c + 1)
  barren_on {c} b n = record { low = omega (arith, b.low); none_at = λ x a l. at x a l (eq_test x c) }
    where
      at : (x : ℕ) → from ≤ x → x < c + 1 → {t : Bool} → Test (x ≡ c) (x ≢ c) t
          → (s : Step) → IsStep 1024 (graph_of e w1) r x s → ⊥
      at x a l (pass q) = rw q n
      at x a l (fail d) = b.none_at x a (omega arith)

module _ {e : ℕ} {w1 w2 : List ℕ} (h : Holds e w1 w2) {r : Rule} {from c : ℕ} (b : Barren e w1 r from c) where
  barren_none : (j : ℕ) → from + j < c → step_at 1024 (graph_of e w1) r (from + j) ≡ none
  barren_none j l = (step_none (holds_graph h) r (from + j)).1 (b.none_at (from + j) (omega arith) l)

  pub scan_none : {to : ℕ} → to ≤ c → MayFind e w1 (step_from (graph_of e w1) r from to) None
  scan_none {to} l =
      search_nothing (λ i. step_at 1024 (graph_of e w1) r (from + i)) (to - from) (λ j k. barren_none j (omega arith))

  pub scan_some : {to : ℕ} {x : Found} {i : ℕ} → c < to → FindsAt e w1 r c i (Some x)
      → Finds e w1 (step_from (graph_of e w1) r from to) x
  scan_some {to} {x} {i} l at = go at.found at.is at.finds
    where
      go : (o : Option Step) → StepAtSlot e w1 r c i o → Finds e w1 o x
          → Finds e w1 (step_from (graph_of e w1) r from to) x
      go none is finds = absurd (clash_none (told_some x.step none finds.step))
        where
          clash_none : (t : Step) × (◌≡◌ {A = Option Step} none (some t)) → ⊥
          clash_none (t, q) = (let y : ◌≡◌ {A = ℕ} 0 1 = cc in omega arith)
      go (some s) is finds =
          let here : from + (c - from) ≡ c = omega (arith, b.low) in
          subst (λ (o : Option Step). Finds e w1 o x)
          (sym (search_first (λ i. step_at 1024 (graph_of e w1) r (from + i)) (to - from) (c - from) s
          (omega (arith, b.low)) (rw here (step_found (holds_graph h) r c s is))
          (λ j m. barren_none j (omega arith))))
          finds

-- ---- the leaves

-- the first leaf from `from` to before `to`
pub leaf_found : (w : Points) (from to : ℕ) (r : Perhaps ℕ)
    → MatchOption r (NoLeaf w from to) (λ c. (from ≤ c) × (c < to) × (degree 1024 w c ≡ 1) × NoLeaf w from c)
    → FirstLeaf w from to r
leaf_found w from to None m = m
leaf_found w from to (Some c) m = m

leaf_degree : (w : Points) (c : ℕ) (s : Step) → IsStep 1024 w by_leaf c s → degree 1024 w c ≡ 1
leaf_degree w c (leaf u v) p = rw (← p.0) p.1.one
leaf_degree w c (ring u z inner) p = elim p [ ]
leaf_degree w c (chain u v z inner) p = elim p [ ]

module _ {e : ℕ} {w1 w2 : List ℕ} (h : Holds e w1 w2) (from to : ℕ) where
  pub leaf_none : NoLeaf (graph_of e w1) from to → MayFind e w1 (step_from (graph_of e w1) by_leaf from to) None
  leaf_none f = scan_none h {c = max from to}
      (record { low = omega arith; none_at = not_there }) (omega arith)
    where
      not_there : (c : ℕ) → from ≤ c → c < max from to → (s : Step) → IsStep 1024 (graph_of e w1) by_leaf c s → ⊥
      not_there c a l s p = f c a (omega arith) (leaf_degree _ c s p)

  pub leaf_some : {c : ℕ} → FirstLeaf (graph_of e w1) from to (Some c) → {x : Other} → Only e w1 c x
      → Finds e w1 (step_from (graph_of e w1) by_leaf from to)
      (record { step = found.Leaf c x.partner; first = x.partner; slot = x.slot })
  leaf_some {c} f {x} o =
      scan_some h (record { low = f.0; none_at = λ k a l s p. f.3 k a l (leaf_degree _ k s p) }) {i = x.slot} f.1
      (record {
        found = some (leaf x.partner c);
        is = (refl, record { one = f.2; pair = joins_pair h o.joins });
        finds = record { step = refl; way = joins_turned o.joins };
      })

-- ---- the first step of all

from_zero : (e : ℕ) (w1 : List ℕ) (r : Rule) (n : ℕ)
    → step_from (graph_of e w1) r 0 n ≡ search (step_at 1024 (graph_of e w1) r) n
from_zero e w1 r n =
    ap₂ search (fun_ext (λ i. ap (step_at 1024 (graph_of e w1) r) (let q : 0 + i ≡ i = omega arith in q)))
    (let q : n - 0 ≡ n = omega arith in q)

-- cells below `low` where nothing is found are left out
search_from : (at : ℕ → Option Step) (low n : ℕ) → ((j : ℕ) → j < low → at j ≡ none)
    → search (λ i. at (low + i)) (n - low) ≡ search at n
search_from at low n nil = go (search later (n - low)) (searched later (n - low))
  where
    later : ℕ → Option Step
    later i = at (low + i)

    below : (k : ℕ) → ((i : ℕ) → i < k - low → later i ≡ none) → (j : ℕ) → j < k → {t : Bool}
        → Test (j < low) (low ≤ j) t → at j ≡ none
    below k m j l (pass b) = nil j b
    below k m j l (fail b) = ap at {x = j} {y = low + (j - low)} (omega arith) ∙ m (j - low) (omega arith)

    go : (o : Option Step) → Searched later (n - low) o → o ≡ search at n
    go none m = sym (search_nothing at n (λ j l. below n m j l (lt_test j low)))
    go (some s) y =
        sym (search_first at n (low + y.0) s (omega (arith, y.1)) y.2
        (λ j l. below (low + y.0) (λ i k. y.3 i (omega arith)) j l (lt_test j low)))

-- below `low` no step of the rule is named
pub from_bound : {e : ℕ} {w1 w2 : List ℕ} → Holds e w1 w2 → (r : Rule) (low n : ℕ)
    → ((c : ℕ) → c < low → Unnamed (graph_of e w1) r c) → (x : Perhaps Found)
    → MayFind e w1 (step_from (graph_of e w1) r low n) x → MayFind e w1 (step_from (graph_of e w1) r 0 n) x
from_bound {e} {w1} h r low n q x =
    subst (λ (o : Option Step). MayFind e w1 o x)
    (search_from (step_at 1024 (graph_of e w1) r) low n (λ j l. (step_none (holds_graph h) r j).1 (q j l))
    ∙ sym (from_zero e w1 r n))

-- below `low` no cell is a leaf
pub from_low : {e : ℕ} {w1 w2 : List ℕ} → Holds e w1 w2 → (low n : ℕ) → Quiet low (graph_of e w1) → (x : Perhaps Found)
    → MayFind e w1 (step_from (graph_of e w1) by_leaf low n) x → MayFind e w1 (step_from (graph_of e w1) by_leaf 0 n) x
from_low h low n q x = from_bound h by_leaf low n (λ c l s p. q c l (leaf_degree _ c s p)) x

-- the three searches in their order
in_order : (e : ℕ) (w1 : List ℕ) (n : ℕ) → Graph n (graph_of e w1) → n ≤ 1024 → first_step_of n (graph_of e w1)
    ≡ or_else (step_from (graph_of e w1) by_leaf 0 n)
    (or_else (step_from (graph_of e w1) by_ring 0 n) (step_from (graph_of e w1) by_chain 0 n))
in_order e w1 n g le =
    sym (first_more g 1024 le)
    ∙ rw (from_zero e w1 by_leaf n, from_zero e w1 by_ring n, from_zero e w1 by_chain n)

first_of : {e : ℕ} {w1 : List ℕ} {o : Option Step} (p : Option Step) {x : Found} → Finds e w1 o x
    → Finds e w1 (or_else o p) x
first_of {e} {w1} {o} p {x} f =
    let t = told_some x.step o f.step in
    subst (λ (y : Option Step). Finds e w1 y x) (t.1 ∙ ap (λ (y : Option Step). or_else y p) (sym t.1)) f

module _ (e : ℕ) (w1 : List ℕ) (n : ℕ) (g : Graph n (graph_of e w1)) (le : n ≤ 1024) where
  pub leaf_first : {x : Found} → Finds e w1 (step_from (graph_of e w1) by_leaf 0 n) x
      → Finds e w1 (first_step_of n (graph_of e w1)) x
  leaf_first {x} a = subst (λ (o : Option Step). Finds e w1 o x) (sym (in_order e w1 n g le)) (first_of _ a)

  module _ (no_leaf : step_from (graph_of e w1) by_leaf 0 n ≡ none) where
    abbrev chains : Option Step
    chains = step_from (graph_of e w1) by_chain 0 n

    rest : first_step_of n (graph_of e w1) ≡ or_else (step_from (graph_of e w1) by_ring 0 n) chains
    rest =
        in_order e w1 n g le
        ∙ ap (λ (o : Option Step). or_else o (or_else (step_from (graph_of e w1) by_ring 0 n) chains)) no_leaf

    pub first_ring : {y : Found} → Finds e w1 (step_from (graph_of e w1) by_ring 0 n) y
        → Finds e w1 (first_step_of n (graph_of e w1)) y
    first_ring {y} b = subst (λ (o : Option Step). Finds e w1 o y) (sym rest) (first_of _ b)

    pub first_chain : step_from (graph_of e w1) by_ring 0 n ≡ none → (z : Perhaps Found)
        → MayFind e w1 (step_from (graph_of e w1) by_chain 0 n) z → MayFind e w1 (first_step_of n (graph_of e w1)) z
    first_chain no_ring z c =
        subst (λ (o : Option Step). MayFind e w1 o z)
        (sym (rest ∙ ap (λ (o : Option Step). or_else o chains) no_ring)) c
