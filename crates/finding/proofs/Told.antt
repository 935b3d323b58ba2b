-- A step by what is told of it, its rule and the cells that the rule names: with the inner cells given it is that step
-- (`told_step`), with its own it is the step itself (`told_same`). Assumes nothing.
use mathlib.Core.Path.{◌≡◌, refl, sym, ap, ◌∙◌}
use mathlib.Core.Bool.{cond}
use mathlib.Core.List.{List}
use mathlib.Core.Option.{some}
use Prim.Native.Nat.{ℕ}
use lib.Dec.{eqb}
use lib.ListN.{get_or}
use Rattle.matching.specs.Steps.{Step, leaf, ring, chain, inside}
use Rattle.cellfile.specs.Answers.{Answer}
use Rattle.finding.specs.Finding.{told, to_tell, as_step}
use Rattle.finding.specs.declared.Step as declared
use Rattle.finding.specs.declared.Step.TheVariants as found

-- The step with the inner cells of a row from its u on.
abbrev pub over : (ℕ → List ℕ) → Step → Step
over inner (leaf u v) = leaf u v
over inner (ring u z cs) = ring u z (inner u)
over inner (chain u v z cs) = chain u v z (inner u)

module _ (inner : ℕ → List ℕ) where
  abbrev back : Answer → Step
  back (r, cs) =
      cond (eqb r 1) (leaf (get_or cs 1 0) (get_or cs 0 0))
      (cond (eqb r 2) (ring (get_or cs 0 0) (get_or cs 1 0) (inner (get_or cs 0 0)))
      (chain (get_or cs 0 0) (get_or cs 1 0) (get_or cs 2 0) (inner (get_or cs 0 0))))

  back_told : (k : declared.Step) → back (told k) ≡ as_step k inner
  back_told (found.Leaf v u) = refl
  back_told (found.Ring u z) = refl
  back_told (found.Chain u v z) = refl

  back_tell : (s : Step) → back (to_tell (some s)) ≡ over inner s
  back_tell (leaf u v) = refl
  back_tell (ring u z cs) = refl
  back_tell (chain u v z cs) = refl

  pub told_step : (k : declared.Step) (s : Step) → told k ≡ to_tell (some s) → as_step k inner ≡ over inner s
  told_step k s q = sym (back_told k) ∙ ap back q ∙ back_tell s

pub told_same : (k : declared.Step) (s : Step) → told k ≡ to_tell (some s) → as_step k (λ u. inside s) ≡ s
told_same k s q = told_step (λ u. inside s) k s q ∙ own s
  where
    own : (s : Step) → over (λ u. inside s) s ≡ s
    own (leaf u v) = refl
    own (ring u z cs) = refl
    own (chain u v z cs) = refl
