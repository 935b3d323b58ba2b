-- Entering a pairing, from its parts: where a pair is missing; where none is, and the pairs were entered. Assumes
-- nothing.
use mathlib.Core.Path.{◌≡◌, sym, ◌∙◌}
use mathlib.Core.Bool.{Bool, true, false, not, and-true, and-false}
use mathlib.Core.List.{List}
use Prim.Native.Nat.{ℕ}
use borrow.Author.Tests.{not-true, not-false}
use Rattle.matching.specs.Pairs.{Pair, Points}
use Rattle.matching.specs.Lists.{distinct}
use Rattle.matching.specs.Pairing.{is_pairing, cells}
use Rattle.checks.specs.Refusals.{no_pairing}
use Rattle.partners.specs.Table.{TableOnly}
use Rattle.partners.specs.Entering.{all_there, Filled}

-- where it is found by its parts
module _ (w : Points) (ps : List Pair) {t : Bool} (there : t ≡ not (all_there w ps)) where
  pub missing_is : t ≡ true → no_pairing w ps ≡ true
  unfolding is_pairing
  missing_is q = rw (not-true (all_there w ps) (sym there ∙ q), and-false)

  pub filled_is : t ≡ false → {b : Bool} → b ≡ not (distinct (cells ps)) → b ≡ no_pairing w ps
  unfolding is_pairing
  filled_is q e = rw (not-false (all_there w ps) (sym there ∙ q), and-true) e

pub filled_on : {m : List Pair} {w2 v u : List ℕ} {b : Bool} → TableOnly w2 v → Filled m v u b → Filled m w2 u b
filled_on kept f = record { answer = f.answer; mates = f.mates; aside = λ j l. f.aside j l ∙ kept j l }
