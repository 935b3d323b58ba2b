-- The table of partners. In order: a pair that goes out of it (`mates_part`), and one that was not there
-- (`mates_without`), the words before the table staying as they are (`parted_aside`); a pair of a free
-- cell is not held (`free_unheld`). Assumes nothing.
use mathlib.Core.Path.{◌≡◌, sym, ap, ◌∙◌}
use mathlib.Core.Logic.{◌⊎◌, inl, inr, ◌≢◌}
use mathlib.Core.Bool.{Bool, cond}
use mathlib.Core.List.{List}
use Prim.Native.Nat.{ℕ, ◌+◌, ◌≤◌, ◌<◌}
use native.Mathlib.Omega.{arith}
use lib.Dec.{eqb}
use lib.ListN.{length, get_or}
use borrow.Author.Tests.{eq-eqb, ne_eqb}
use Rattle.buffers.specs.Map.{at_table}
use Rattle.matching.specs.Pairs.{Pair, Points, sum, hit, like, without}
use Rattle.matching.specs.Pairing.{Once, seen}
use Rattle.matching.specs.Origin.{Origin, Origins}
use Rattle.matching.proofs.Tests.{Test, pass, fail, eq_test}
use Rattle.matching.proofs.Sums.{times_none, sum_apart, like_hit}
use Rattle.matching.proofs.Partner.{seen_turned, seen_off, seen_none}
use Rattle.matching.proofs.Partner.{held_sum, held_free}
use Rattle.partners.specs.Table.{tag, joined, parted, Mates, TableOnly}
use Rattle.partners.proofs.Joining.{two_last, two_first, two_else, two_aside}

-- ---- two words of the table

pub join_one : (k x y : ℕ) (origin : Origin) (w2 : List ℕ) {w2' : List ℕ} → k ≡ 1 → w2' ≡ joined x y origin w2
    → w2' ≡ cond (eqb k 1) (joined x y origin w2) w2
join_one k x y origin w2 e q = rw (eq-eqb k 1 e) q

pub join_not : (k x y : ℕ) (origin : Origin) (w2 : List ℕ) → k ≢ 1 → w2 ≡ cond (eqb k 1) (joined x y origin w2) w2
join_not k x y origin w2 e = rw (ne_eqb k 1 e)

pub parted_aside : (w2 : List ℕ) (x y : ℕ) → TableOnly w2 (parted x y w2)
parted_aside w2 x y = two_aside w2 x y 0 0

-- ---- a pair comes and goes

module _ (w2 : List ℕ) (o : Origins) (m : List Pair) (x y : ℕ) (r : 8192 ≤ length w2) (p : x < 1024) (q : y < 1024)
    (h : Mates w2 o m) where
  -- what the table has for the cell c
  abbrev said : ℕ → Points
  said c = seen (tag o c) c

  pub mates_part : Once m → 1 ≤ sum (like x y) m → Mates (parted x y w2) o (without x y m)
  mates_part once k c l = go (eq_test x c) (eq_test y c)
    where
      now : ℕ → ℕ
      now d = get_or (parted x y w2) (at_table + d) 0

      alone : (x ≡ c) ⊎ (y ≡ c) → 0 ≡ sum (said c) (without x y m)
      alone e = sym (seen_none (tag o c) c (without x y m) (held_free x y m once k c e))

      go : {s t : Bool} → Test (x ≡ c) (x ≢ c) s → Test (y ≡ c) (y ≢ c) t → now c ≡ sum (said c) (without x y m)
      go i (pass e) = ap now (sym e) ∙ two_last w2 x y 0 0 r q ∙ alone (inr e)
      go (pass e) (fail j) =
          ap now (sym e) ∙ two_first w2 x y 0 0 r p (λ f. j (sym f ∙ e)) ∙ alone (inl e)
      go (fail i) (fail j) =
          two_else w2 x y 0 0 (at_table + c) (λ e. i (omega arith)) (λ e. j (omega arith))
          ∙ omega (
            arith,
            h c l,
            seen_off (tag o c) c x y i j,
            held_sum x y m once k (said c) (seen_turned (tag o c) c),
          )

pub mates_without : (w2 : List ℕ) (o : Origins) (m : List Pair) (x y : ℕ) → Mates w2 o m → sum (like x y) m ≡ 0
    → Mates w2 o (without x y m)
mates_without w2 o m x y h k c l =
    omega (
      arith,
      h c l,
      sum_apart (seen (tag o c) c) (seen_turned (tag o c) c) x y m,
      times_none (seen (tag o c) c x y) (sum (like x y) m) k,
    )

-- a pair of a free cell is not held
pub free_unheld : (x y c : ℕ) (m : List Pair) → (x ≡ c) ⊎ (y ≡ c) → sum (hit c) m ≡ 0 → sum (like x y) m ≡ 0
free_unheld x y c m e z = omega (arith, like_hit x y m c e)
