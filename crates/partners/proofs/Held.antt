-- Partners by the table: whether two cells are (`table_held`), and whether a cell is free (`table_free`). Assumes
-- nothing.
use mathlib.Core.Path.{◌≡◌, refl, sym, ap, ◌∙◌}
use mathlib.Core.Logic.{◌⊎◌, inl, inr}
use mathlib.Core.Bool.{Bool}
use mathlib.Core.List.{List}
use Prim.Native.Nat.{ℕ, ◌+◌, ◌%◌, ◌≤◌, ◌<◌}
use native.Mathlib.Omega.{arith}
use lib.Dec.{eqb}
use lib.ListN.{get_or}
use borrow.Author.Tests.{eq-eqb, ne_eqb}
use Rattle.buffers.specs.Map.{at_table, partner_field}
use Rattle.matching.specs.Pairs.{Pair, sum, hit, like, held, free}
use Rattle.matching.specs.Pairing.{Once, partner}
use Rattle.matching.specs.Origin.{Origins}
use Rattle.matching.proofs.Tests.{Test, pass, fail, lt_test}
use Rattle.matching.proofs.Sums.{like_hit}
use Rattle.matching.proofs.Partner.{partner_view, partner_of, partner_none}
use Rattle.partners.specs.Table.{InTable}
use Rattle.partners.proofs.Tags.{tag_partner, tag_free, tag_held}

partners_held : (x y : ℕ) (m : List Pair) → Once m → eqb (partner x m) (y + 1) ≡ held x y m
partners_held x y m o = go (partner_view x m) (lt_test 0 (sum (like x y) m))
  where
    go : {t : Bool} → (sum (hit x) m ≡ 0) ⊎ ((b : ℕ) × (1 ≤ sum (like x b) m))
        → Test (0 < sum (like x y) m) (sum (like x y) m ≤ 0) t → eqb (partner x m) (y + 1) ≡ t
    go v (pass k) = eq-eqb (partner x m) (y + 1) (omega (arith, partner_of x y m o k))
    go (inl z) (fail n) = ne_eqb (partner x m) (y + 1) (λ e. omega (arith, partner_none x m z))
    go (inr (b, k)) (fail n) =
        ne_eqb (partner x m) (y + 1)
        (λ e. let q : b ≡ y = omega (arith, partner_of x b m o k) in
        omega (arith, ap (λ d. sum (like x d) m) q))

module _ (w2 : List ℕ) (c : ℕ) (l : c < 1024) (o : Origins) (m : List Pair) (h : InTable w2 o m) where
  pub table_held : (y : ℕ) → eqb (get_or w2 (at_table + c) 0 % partner_field) (y + 1) ≡ held c y m
  table_held y =
      ap (λ (k : ℕ). eqb k (y + 1)) (tag_partner w2 o m h.mates c l h.once (omega arith) h.within)
      ∙ partners_held c y m h.once

  pub table_free : eqb (get_or w2 (at_table + c) 0) 0 ≡ free c m
  table_free = go (partner_view c m)
    where
      go : (sum (hit c) m ≡ 0) ⊎ ((b : ℕ) × (1 ≤ sum (like c b) m)) → eqb (get_or w2 (at_table + c) 0) 0 ≡ free c m
      go (inl z) =
          eq-eqb (get_or w2 (at_table + c) 0) 0 (tag_free w2 o m h.mates c l z) ∙ sym (eq-eqb (sum (hit c) m) 0 z)
      go (inr (b, k)) =
          ne_eqb (get_or w2 (at_table + c) 0) 0 (λ e. omega (arith, tag_held w2 o m h.mates c l h.once b k))
          ∙ sym (ne_eqb (sum (hit c) m) 0 (λ e. omega (arith, like_hit c b m c (inl refl))))
