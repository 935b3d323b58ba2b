-- What finding a step promises. The enum `Step` of the source has the cells that the description names; the definition
-- of a step has its inner cells too.
use Rattle.std.specs.Prelude.{◌≡◌, ◌⊎◌, ◌≢◌, Bool, true, false, List, [], ◌∷◌, ℕ, suc, ◌+◌, ◌-◌, ◌≤◌, ◌<◌}
use Rattle.std.specs.Prelude.{Option as Perhaps, Some, None}
use Rattle.std.proofs.Math.Option.{Option, some, none}
use Rattle.matching.specs.Pairs.{Points, touches}
use Rattle.matching.specs.Graph.{degree}
use Rattle.matching.specs.Steps.{Rule, by_ring, Step, leaf, ring, chain}
use Rattle.matching.specs.Shapes.{IsStep, first, last}
use Rattle.matching.specs.Find.{search, step_at}
use Rattle.cellfile.specs.Answers.{Answer}
use Rattle.slots.specs.Slots.{graph_of, low_of, high_of, Joins}
use Rattle.finding.specs.Rows.{row_at}
use Rattle.finding.specs.Walks.{stretch_at}
use Rattle.finding.specs.declared.Found.{Found}
use Rattle.finding.specs.declared.Step as declared
use Rattle.finding.specs.declared.Step.TheVariants as found

-- The number and the values of each case of the enum: its rule, and 'leaf v, u; ring u, z; chain u, v, z'.
abbrev pub told : declared.Step → Answer
told (found.Leaf v u) = (1, v ∷ u ∷ [])
told (found.Ring u z) = (2, u ∷ z ∷ [])
told (found.Chain u v z) = (3, u ∷ v ∷ z ∷ [])

-- The same of a step or none.
abbrev pub told_of : Perhaps declared.Step → Answer
told_of None = (0, [])
told_of (Some s) = told s

-- What is to be told of a step.
abbrev pub to_tell : Option Step → Answer
to_tell none = (0, [])
to_tell (some (leaf u v)) = (1, v ∷ u ∷ [])
to_tell (some (ring u z inner)) = (2, u ∷ z ∷ [])
to_tell (some (chain u v z inner)) = (3, u ∷ v ∷ z ∷ [])

-- The pair by which a step is taken: a leaf's only pair; the pair of u with the first inner cell.
abbrev pub Way : ℕ → List ℕ → Option Step → ℕ → ℕ → Type 0
Way e w1 none f i = Unit {0}
Way e w1 (some (leaf u v)) f i = Joins e w1 i u v
Way e w1 (some (ring u z inner)) f i = (f ≡ first u inner) × Joins e w1 i u f
Way e w1 (some (chain u v z inner)) f i = (f ≡ first v inner) × Joins e w1 i u f

-- This step is found.
pub record Finds (e : ℕ) (w1 : List ℕ) (o : Option Step) (r : Found) : Type 0 where
  pub step : told r.step ≡ to_tell o
  pub way : Way e w1 o r.first r.slot

-- This step is found, or there is none.
abbrev pub MayFind : ℕ → List ℕ → Option Step → Perhaps Found → Type 0
MayFind e w1 o None = o ≡ none
MayFind e w1 o (Some r) = Finds e w1 o r

-- The step that is found, on the graph where it was found: its inner cells are read by walking.
abbrev pub as_step : declared.Step → (ℕ → List ℕ) → Step
as_step (found.Leaf v u) inner = leaf u v
as_step (found.Ring u z) inner = ring u z (inner u)
as_step (found.Chain u v z) inner = chain u v z (inner u)

abbrev pub step_of : Points → Found → Step
step_of w x = as_step x.step (λ u. (row_at w u x.first).0)

-- The first step of a rule at the cells from `from` to before `to`.
abbrev pub step_from : Points → Rule → ℕ → ℕ → Option Step
step_from w r from to = search (λ i. step_at 1024 w r (from + i)) (to - from)

-- No cell from `from` to before `to` is a leaf; the first leaf there, or there is none.
abbrev pub NoLeaf : Points → ℕ → ℕ → Type 0
NoLeaf w from to = (c : ℕ) → from ≤ c → c < to → degree 1024 w c ≢ 1

abbrev pub FirstLeaf : Points → ℕ → ℕ → Perhaps ℕ → Type 0
FirstLeaf w from to None = NoLeaf w from to
FirstLeaf w from to (Some c) = (from ≤ c) × (c < to) × (degree 1024 w c ≡ 1) × NoLeaf w from c

-- ---- inner contracts

-- A test's answer tells whether P holds.
abbrev pub Tells : Type 0 → Bool → Type 0
Tells P true = P
Tells P false = P → ⊥

-- The row that leaves u at p, comes from `before` and ends at `end`, is a ring or a chain at z.
abbrev pub RingTest : Points → ℕ → ℕ → ℕ → ℕ → ℕ → Type 0
RingTest w z u p before end = (end ≡ u) × (p < before) × ((u < z) ⊎ (degree 1024 w u ≢ 2))

abbrev pub ChainTest : Points → ℕ → ℕ → ℕ → ℕ → Type 0
ChainTest w u p before end = (u < end) × (p ≢ before) × (degree 1024 w u ≢ 2) × (degree 1024 w end ≢ 2)

-- The row from u over the inner cells to v is met from z at its partner f: walking over cells above z leads to u, and
-- walking from there over cells not below z leads over the inner cells to v.
pub record Met (w : Points) (z f u : ℕ) (inner : List ℕ) (v : ℕ) : Type 0 where
  pub end : (stretch_at w (suc z) z f).1 ≡ u
  pub before : last z (stretch_at w (suc z) z f).0 ≡ first v inner
  pub row : stretch_at w z u (first v inner) ≡ (inner, v)

abbrev pub MetBy : Points → ℕ → Step → Type 0
MetBy w f (leaf u v) = u ≡ f
MetBy w f (ring u z inner) = Met w z f u inner u
MetBy w f (chain u v z inner) = Met w z f u inner v

-- No step of the rule is named by c.
abbrev pub Unnamed : Points → Rule → ℕ → Type 0
Unnamed w r c = (s : Step) → IsStep 1024 w r c s → ⊥

-- A step of the rule at c, or none that is met at f.
abbrev pub StepBy : Points → Rule → ℕ → ℕ → Option Step → Type 0
StepBy w r c f none = (s : Step) → IsStep 1024 w r c s → MetBy w f s → ⊥
StepBy w r c f (some s) = IsStep 1024 w r c s

pub record FindsBy (e : ℕ) (w1 : List ℕ) (r : Rule) (c f : ℕ) (x : Perhaps Found) : Type 0 where
  pub found : Option Step
  pub is : StepBy (graph_of e w1) r c f found
  pub finds : MayFind e w1 found x

-- A step of the rule at c, or none that is met by slot i.
abbrev pub StepAtSlot : ℕ → List ℕ → Rule → ℕ → ℕ → Option Step → Type 0
StepAtSlot e w1 r c i none = (f : ℕ) → Joins e w1 i c f → StepBy (graph_of e w1) r c f none
StepAtSlot e w1 r c i (some s) = IsStep 1024 (graph_of e w1) r c s

pub record FindsAt (e : ℕ) (w1 : List ℕ) (r : Rule) (c i : ℕ) (x : Perhaps Found) : Type 0 where
  pub found : Option Step
  pub is : StepAtSlot e w1 r c i found
  pub finds : MayFind e w1 found x

-- No step is met by the slots of c from i on; slot i - 1 has c, which has degree two.
pub record Unmet (e : ℕ) (w1 : List ℕ) (r : Rule) (c i : ℕ) : Type 0 where
  pub top : i ≤ e
  pub has : (k : ℕ) → i ≡ suc k → touches c (low_of w1 k) (high_of w1 k) ≡ true
  pub fits : (k : ℕ) → i ≡ suc k → degree 1024 (graph_of e w1) c ≡ 2
  pub past : (j : ℕ) → i ≤ j → StepAtSlot e w1 r c j none

-- ---- the bounds of the search

-- No cell below `low` has degree one.
abbrev pub Quiet : ℕ → Points → Type 0
Quiet low w = (c : ℕ) → c < low → degree 1024 w c ≢ 1

-- No ring step is named by a cell below `low`.
abbrev pub RingQuiet : ℕ → Points → Type 0
RingQuiet low w = (c : ℕ) → c < low → Unnamed w by_ring c
