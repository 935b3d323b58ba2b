-- The pair that a ring or a chain step put for its row goes out of the table. In order: a held pair as a count; the
-- pairs that stay behind a chain, by one pair after the other (`stays_each`); a ring's pair, held or not (`ring_held`,
-- `ring_unheld`); each case of a chain: u, z held, v, z held, the direct pair to stay, u, v held, and none of them
-- (`chain_uz`, `chain_vz`, `chain_more`, `chain_uv`, `chain_none`). Assumes nothing.
use mathlib.Core.Path.{◌≡◌, refl, sym, subst, ◌∙◌}
use mathlib.Core.Logic.{inl, inr}
use mathlib.Core.Bool.{Bool, true, false, not, ◌&&◌, ◌||◌}
use mathlib.Core.List.{List}
use Prim.Native.Nat.{ℕ, ◌≤◌, ◌<◌}
use native.Mathlib.Omega.{arith}
use lib.ListN.{length}
use Rattle.matching.specs.Pairs.{Pair, sum, keep, same, like, held, without}
use Rattle.matching.specs.Pairing.{Once}
use Rattle.matching.proofs.Tests.{Test, pass, fail, lt_test, holds}
use Rattle.matching.proofs.Sums.{times_none, sum_apart, like_turned, keep_all, keep_and, without_once, without_none}
use Rattle.matching.proofs.Partner.{held_free}
use Rattle.matching.specs.Origin.{Origins}
use Rattle.partners.specs.Table.{parted, Mates, InTable, TableOnly}
use Rattle.undoing.specs.Unwinding.{TableOf, chain_stays, ChainFreed, RingFreed}
use Rattle.undoing.specs.declared.Ends.{Ends}
use Rattle.undoing.proofs.Mating.{parted_aside, mates_part, mates_without, free_unheld}

-- ---- a held pair as a count

held_some : (x y : ℕ) (m : List Pair) → held x y m ≡ true → 1 ≤ sum (like x y) m
held_some x y m e = holds (lt_test 0 (sum (like x y) m)) e

held_none : (x y : ℕ) (m : List Pair) → held x y m ≡ false → sum (like x y) m ≡ 0
held_none x y m = go (lt_test 0 (sum (like x y) m))
  where
    go : {t : Bool} → Test (0 < sum (like x y) m) (sum (like x y) m ≤ 0) t → t ≡ false → sum (like x y) m ≡ 0
    go (pass h) e = (let z : ◌≡◌ {A = ℕ} 0 1 = cc in omega arith)
    go (fail h) e = omega arith

-- without a pair that is not held, the others are held as before
without_like : (x y a b : ℕ) (m : List Pair) → sum (like x y) m ≡ 0
    → sum (like a b) (without x y m) ≡ sum (like a b) m
without_like x y a b m e =
    omega (
      arith,
      sum_apart (like a b) (like_turned a b) x y m,
      times_none (like a b x y) (sum (like x y) m) e,
    )

abbrev unless : Bool → ℕ → ℕ → List Pair → List Pair
unless d x y m = keep (λ a b. d || not (same x y a b)) m

unless_mates : (d : Bool) (w2 : List ℕ) (from : Origins) (x y : ℕ) (m : List Pair) → Mates w2 from m
    → sum (like x y) m ≡ 0 → Mates w2 from (unless d x y m)
unless_mates true w2 from x y m h e = rw (keep_all m) h
unless_mates false w2 from x y m h e = mates_without w2 from m x y h e

stays_each : (u v z : ℕ) (d : Bool) (m : List Pair)
    → chain_stays u v z d m ≡ unless d u v (without v z (without u z m))
stays_each u v z d m =
    keep_and (λ a b. not (same u z a b)) (λ a b. not (same v z a b) && (d || not (same u v a b))) m
    ∙ keep_and (λ a b. not (same v z a b)) (λ a b. d || not (same u v a b)) (without u z m)

-- ---- ring and chain

module _ (w2 : List ℕ) (r : 8192 ≤ length w2) (u z : ℕ) (p : u < 1024) (q : z < 1024) (from : Origins)
    (m : List Pair) (it : InTable w2 from m) where
  o : Once m
  o = it.once

  h : Mates w2 from m
  h = it.mates

  pub ring_held : {w2' : List ℕ} → held u z m ≡ true → w2' ≡ parted u z w2 → RingFreed u z from m w2 w2' false
  ring_held e s = rw s (record {
    off = rw e;
    table = record {
      mates = mates_part w2 from m u z r p q h o (held_some u z m e);
      aside = parted_aside w2 u z;
    };
  })

  pub ring_unheld : held u z m ≡ false → RingFreed u z from m w2 w2 true
  ring_unheld e = record {
    off = rw e;
    table = record { mates = mates_without w2 from m u z h (held_none u z m e); aside = λ j l. refl };
  }

  module _ (v : ℕ) (s : v < 1024) (d : Bool) where
    -- the others, one pair less after the other
    abbrev m₁ : List Pair
    m₁ = without u z m

    abbrev m₂ : List Pair
    m₂ = without v z m₁

    table_each : {w2' : List ℕ} → Mates w2' from (unless d u v m₂)
        → TableOnly w2 w2' → TableOf w2 w2' from (chain_stays u v z d m)
    table_each {w2'} k a =
        subst (TableOf w2 w2' from) (sym (stays_each u v z d m)) (record { mates = k; aside = a })

    pub chain_uz : {w2' : List ℕ} {x : Ends} → x.less_u ≡ false → x.less_v ≡ true → held u z m ≡ true
        → w2' ≡ parted u z w2 → ChainFreed u v z d from m w2 w2' x
    chain_uz {w2'} {x} a b e t =
        let k = held_some u z m e in
        let zs = held_free u z m o k z (inr refl) in
        let us = without_none v z m₁ u (held_free u z m o k u (inl refl)) in
        record {
          off = rw (a, b, e);
          table =
              rw t
              (table_each
              (unless_mates d (parted u z w2) from u v m₂
              (mates_without (parted u z w2) from m₁ v z (mates_part w2 from m u z r p q h o k)
              (free_unheld v z z m₁ (inr refl) zs))
              (free_unheld u v u m₂ (inl refl) us))
              (parted_aside w2 u z));
        }

    module _ (e : held u z m ≡ false) where
      n₁ : sum (like u z) m ≡ 0
      n₁ = held_none u z m e

      o₁ : Once m₁
      o₁ = without_once u z m o

      h₁ : Mates w2 from m₁
      h₁ = mates_without w2 from m u z h n₁

      pub chain_vz : {w2' : List ℕ} {x : Ends} → x.less_u ≡ true → x.less_v ≡ false → held v z m ≡ true
          → w2' ≡ parted v z w2 → ChainFreed u v z d from m w2 w2' x
      chain_vz {w2'} {x} a b f t =
          let k : 1 ≤ sum (like v z) m₁ = omega (arith, without_like u z v z m n₁, held_some v z m f) in
          record {
            off = rw (a, b, e, f);
            table =
                rw t
                (table_each
                (unless_mates d (parted v z w2) from u v m₂ (mates_part w2 from m₁ v z r s q h₁ o₁ k)
                (free_unheld u v v m₂ (inr refl) (held_free v z m₁ o₁ k v (inl refl))))
                (parted_aside w2 v z));
          }

      module _ (f : held v z m ≡ false) where
        n₂ : sum (like v z) m₁ ≡ 0
        n₂ = without_like u z v z m n₁ ∙ held_none v z m f

        h₂ : Mates w2 from m₂
        h₂ = mates_without w2 from m₁ v z h₁ n₂

        direct_like : sum (like u v) m₂ ≡ sum (like u v) m
        direct_like = without_like v z u v m₁ n₂ ∙ without_like u z u v m n₁

        pub chain_more : {x : Ends} → x.less_u ≡ true → x.less_v ≡ true → d ≡ true
            → ChainFreed u v z d from m w2 w2 x
        chain_more {x} a b g = record {
          off = rw (a, b, e, f, g, and_no (held u v m));
          table = table_each (subst (λ t. Mates w2 from (unless t u v m₂)) (sym g) (rw (keep_all m₂) h₂)) (λ j l. refl);
        }
          where
            and_no : (t : Bool) → t && false ≡ false
            and_no true = refl
            and_no false = refl

        pub chain_uv : {w2' : List ℕ} {x : Ends} → x.less_u ≡ false → x.less_v ≡ false → d ≡ false
            → held u v m ≡ true → w2' ≡ parted u v w2 → ChainFreed u v z d from m w2 w2' x
        chain_uv {w2'} {x} a b g i t =
            let k : 1 ≤ sum (like u v) m₂ = omega (arith, direct_like, held_some u v m i) in
            record {
              off = rw (a, b, e, f, g, i);
              table =
                  rw t
                  (table_each
                  (subst (λ t. Mates (parted u v w2) from (unless t u v m₂)) (sym g)
                  (mates_part w2 from m₂ u v r p s h₂ (without_once v z m₁ o₁) k))
                  (parted_aside w2 u v));
            }

        pub chain_none : {x : Ends} → x.less_u ≡ true → x.less_v ≡ true → held u v m ≡ false
            → ChainFreed u v z d from m w2 w2 x
        chain_none {x} a b i = record {
          off = rw (a, b, e, f, i);
          table =
              table_each (unless_mates d w2 from u v m₂ h₂ (direct_like ∙ held_none u v m i)) (λ j l. refl);
        }
