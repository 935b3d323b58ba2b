-- Stamps. In order: a rule is that with its number (`rule_again`), at most 3 (`rule_most`), and found by it; an origin
-- is that with its stamp (`origin_again`); the record of a pair by its stamp (`record_stamp`). Assumes nothing.
use mathlib.Core.Path.{◌≡◌, refl}
use Prim.Native.Nat.{ℕ, ◌+◌, ◌*◌, ◌/◌, ◌%◌, ◌≤◌}
use native.Mathlib.Omega.{arith}
use borrow.Author.Tests.{ne_eqb}
use Rattle.matching.specs.Steps.{Rule, by_leaf, by_ring, by_chain}
use Rattle.matching.specs.Origin.{Origin, from_short, from_step}
use Rattle.cellfile.specs.Fields.{packed}
use Rattle.cellfile.specs.Files.{rule_named, number_of}
use Rattle.cellfile.specs.Words.{word_of_origin}
use Rattle.origins.specs.Stamps.{stamp_for, origin_in}

pub rule_again : (r : Rule) → rule_named (number_of r) ≡ r
rule_again by_leaf = refl
rule_again by_ring = refl
rule_again by_chain = refl

pub rule_most : (r : Rule) → (1 ≤ number_of r) × (number_of r ≤ 3)
rule_most by_leaf = (omega arith, omega arith)
rule_most by_ring = (omega arith, omega arith)
rule_most by_chain = (omega arith, omega arith)

pub origin_again : (o : Origin) → origin_in (stamp_for o) ≡ o
origin_again from_short = refl
origin_again (from_step number rule) =
    let stamp : ℕ = number * 8 + number_of rule in
    let step : stamp / 8 ≡ number = omega (arith, rule_most rule) in
    let last : stamp % 8 ≡ number_of rule = omega (arith, rule_most rule) in
    rw (ne_eqb stamp 0 (λ e. omega (arith, rule_most rule)), step, last, rule_again rule)

pub record_stamp : (o : Origin) (a b : ℕ) {k : ℕ} → k ≡ stamp_for o
    → a * 1073741824 + b * 1048576 + k * 64 ≡ word_of_origin (λ x y. o) (a, b)
unfolding packed
record_stamp o a b e = omega (arith, e)
