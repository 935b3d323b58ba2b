-- The words of the table. In order: without stamps they are the partners (`tags_short`); the word of a cell is 0 where
-- it is free (`tag_free`), else its partner below the stamp (`tag_held`), so its low bits are the partner
-- (`tag_partner`), and it is small (`tag_small`); the record that it makes (`record_small`, `record_is`, `tag_record`).
-- Assumes nothing.
use mathlib.Core.Path.{◌≡◌, sym, ap, subst, fun_ext, ◌∙◌}
use mathlib.Core.Logic.{◌⊎◌, inl, inr}
use mathlib.Core.Bool.{Bool, true, false, cond}
use mathlib.Core.List.{List, [], ◌∷◌}
use Prim.Native.Nat.{ℕ, suc, ◌+◌, ◌*◌, ◌-◌, ◌/◌, ◌%◌, ◌≤◌, ◌<◌}
use native.Mathlib.Omega.{arith}
use lib.Dec.{eqb}
use lib.ListN.{get_or}
use Rattle.buffers.specs.Map.{at_table, partner_field}
use Rattle.matching.specs.Pairs.{Pair, sum, hit, like}
use Rattle.matching.specs.Pairing.{Once, seen, partner}
use Rattle.matching.specs.Origin.{Origin, Origins, all_short, from_short, from_step, number_in}
use Rattle.matching.proofs.Tests.{Test, pass, fail, lt_test}
use Rattle.matching.proofs.Pairs.{Same}
use Rattle.matching.proofs.Sums.{like_same}
use Rattle.matching.proofs.Partner.{seen_none, seen_of, partner_none, partner_view, partner_of}
use Rattle.cellfile.specs.Files.{rule_named}
use Rattle.cellfile.specs.Words.{word_of_origin}
use Rattle.origins.specs.Stamps.{stamp_for, origin_in}
use Rattle.origins.proofs.Stamps.{origin_again, rule_most}
use Rattle.partners.specs.Table.{tag, Mates, Within, record_in}

pub tags_short : (c : ℕ) (m : List Pair) → sum (seen (tag all_short c) c) m ≡ partner c m
tags_short c m = ap (λ (f : ℕ → ℕ). sum (seen f c) m) (fun_ext (λ b. same b))
  where
    same : (b : ℕ) → tag all_short c b ≡ suc b
    same b = omega arith

-- the pairs that hold x, y have its cells below n
pub like_within : (n x y : ℕ) (m : List Pair) → Within n m → 1 ≤ sum (like x y) m → (x < n) × (y < n)
like_within n x y [] p h = absurd (omega arith)
like_within n x y (e ∷ m) p h = go (lt_test 0 (like x y e.0 e.1)) (like_within n x y m p.1)
  where
    here : Same x y e.0 e.1 → (x < n) × (y < n)
    here (inl q) = (omega (arith, q.0, p.0.0), omega (arith, q.1, p.0.1))
    here (inr q) = (omega (arith, q.1, p.0.1), omega (arith, q.0, p.0.0))

    go : {t : Bool} → Test (0 < like x y e.0 e.1) (like x y e.0 e.1 ≤ 0) t
        → (1 ≤ sum (like x y) m → (x < n) × (y < n)) → (x < n) × (y < n)
    go (pass k) i = here (like_same x y e.0 e.1 k)
    go (fail k) i = i (omega arith)

stamp_few : (o : Origin) → number_in o < 2048 → stamp_for o < 16384
stamp_few from_short h = omega arith
stamp_few (from_step number rule) h = omega (arith, rule_most rule)

record_few : (stamp : ℕ) → stamp < 16384 → number_in (origin_in stamp) < 2048
record_few stamp h = go (eqb stamp 0)
  where
    go : (t : Bool) → number_in (cond t from_short (from_step (stamp / 8) (rule_named (stamp % 8)))) < 2048
    go true = omega arith
    go false = omega arith

pub record_is : (a word : ℕ) {x : Origin} → x ≡ origin_in (word / partner_field)
    → word_of_origin (λ c d. x) (a, word % partner_field - 1) ≡ record_in a word
record_is a word e = ap (λ (y : Origin). word_of_origin (λ c d. y) (a, word % partner_field - 1)) e

pub record_small : (word : ℕ) {x : Origin} → word < partner_field * 16384 → x ≡ origin_in (word / partner_field)
    → number_in x < 2048
record_small word l e =
    subst (λ (y : Origin). number_in y < 2048) (sym e) (record_few (word / partner_field) (omega arith))

module _ (w2 : List ℕ) (o : Origins) (m : List Pair) (h : Mates w2 o m) (c : ℕ) (l : c < 1024) where
  abbrev word : ℕ
  word = get_or w2 (at_table + c) 0

  pub tag_free : sum (hit c) m ≡ 0 → word ≡ 0
  tag_free z = h c l ∙ seen_none (tag o c) c m z

  module _ (once : Once m) where
    pub tag_held : (b : ℕ) → 1 ≤ sum (like c b) m → word ≡ suc b + 2048 * stamp_for (o c b)
    tag_held b k = h c l ∙ seen_of c b m once k (tag o c)

    module _ {n : ℕ} (le : n ≤ 1024) (within : Within n m) where
      pub tag_partner : get_or w2 (at_table + c) 0 % partner_field ≡ partner c m
      tag_partner = go (partner_view c m)
        where
          go : (sum (hit c) m ≡ 0) ⊎ ((b : ℕ) × (1 ≤ sum (like c b) m)) → word % 2048 ≡ partner c m
          go (inl z) = omega (arith, tag_free z, partner_none c m z)
          go (inr (b, k)) = omega (arith, tag_held b k, partner_of c b m once k, (like_within n c b m within k).1)

      module _ (few : (a b : ℕ) → number_in (o a b) < 2048) where
        pub tag_small : get_or w2 (at_table + c) 0 < partner_field * 16384
        tag_small = go (partner_view c m)
          where
            go : (sum (hit c) m ≡ 0) ⊎ ((b : ℕ) × (1 ≤ sum (like c b) m)) → word < 2048 * 16384
            go (inl z) = omega (arith, tag_free z)
            go (inr (b, k)) =
                omega (arith, tag_held b k, (like_within n c b m within k).1, stamp_few (o c b) (few c b))

      -- the record of the pair of a cell that is not free
      pub tag_record : 0 < partner c m
          → record_in c (get_or w2 (at_table + c) 0) ≡ word_of_origin o (c, partner c m - 1)
      tag_record p = go (partner_view c m)
        where
          go : (sum (hit c) m ≡ 0) ⊎ ((b : ℕ) × (1 ≤ sum (like c b) m))
              → record_in c word ≡ word_of_origin o (c, partner c m - 1)
          go (inl z) = absurd (omega (arith, partner_none c m z))
          go (inr (b, k)) =
              let lb = (like_within n c b m within k).1 in
              let low : word % 2048 - 1 ≡ b = omega (arith, tag_held b k) in
              let high : word / 2048 ≡ stamp_for (o c b) = omega (arith, tag_held b k) in
              let mate : partner c m - 1 ≡ b = omega (arith, partner_of c b m once k) in
              rw (low, high, mate, origin_again (o c b))
