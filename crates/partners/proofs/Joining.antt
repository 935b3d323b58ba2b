-- A pair put into the table. In order: two words of the table set; a pair
-- that comes in (`mates_join`), the words before the table staying as they are (`joined_aside`). Assumes nothing.
use mathlib.Core.Path.{◌≡◌, refl, sym, ap, ◌∙◌}
use mathlib.Core.Logic.{◌⊎◌, inl, inr, ◌≢◌}
use mathlib.Core.Bool.{Bool}
use mathlib.Core.List.{List, ◌∷◌}
use Prim.Native.Nat.{ℕ, ◌+◌, ◌*◌, ◌≤◌, ◌<◌}
use native.Mathlib.Omega.{arith}
use lib.ListN.{length, get_or, set, length-set}
use lib.Seq.{get_or-set_same, get_or-set_other}
use Rattle.buffers.specs.Map.{at_table, partner_field}
use Rattle.matching.specs.Pairs.{Pair, Points, sum, hit}
use Rattle.matching.specs.Pairing.{Once, seen}
use Rattle.matching.specs.Origin.{Origin, Origins}
use Rattle.matching.proofs.Tests.{Test, pass, fail, eq_test}
use Rattle.matching.proofs.Sums.{ι_is, hit_some}
use Rattle.matching.proofs.Partner.{seen_left, seen_right, seen_off, seen_none}
use Rattle.origins.specs.Stamps.{stamp_for}
use Rattle.partners.specs.Table.{tag, joined, IsFrom, Mates, TableOnly}

-- ---- two words of the table

module _ (w2 : List ℕ) (x y k l : ℕ) where
  abbrev after : List ℕ
  after = set (set w2 (at_table + x) k) (at_table + y) l

  pub two_last : 8192 ≤ length w2 → y < 1024 → get_or after (at_table + y) 0 ≡ l
  two_last r p =
      get_or-set_same (set w2 (at_table + x) k) (at_table + y) l 0 (omega (arith, length-set w2 (at_table + x) k))

  pub two_first : 8192 ≤ length w2 → x < 1024 → x ≢ y → get_or after (at_table + x) 0 ≡ k
  two_first r p n =
      get_or-set_other (set w2 (at_table + x) k) (at_table + y) (at_table + x) l 0 (λ q. n (omega arith))
      ∙ get_or-set_same w2 (at_table + x) k 0 (omega arith)

  pub two_else : (j : ℕ) → j ≢ at_table + x → j ≢ at_table + y → get_or after j 0 ≡ get_or w2 j 0
  two_else j p q =
      get_or-set_other (set w2 (at_table + x) k) (at_table + y) j l 0 q ∙ get_or-set_other w2 (at_table + x) j k 0 p

  pub two_aside : TableOnly w2 after
  two_aside j p = two_else j (λ q. omega arith) (λ q. omega arith)

pub joined_aside : (w2 : List ℕ) (x y : ℕ) (origin : Origin) → TableOnly w2 (joined x y origin w2)
joined_aside w2 x y origin =
    two_aside w2 x y (y + 1 + partner_field * stamp_for origin) (x + 1 + partner_field * stamp_for origin)

-- ---- a pair comes

-- a pair that leaves no cell twice: two cells
once_apart : (x y : ℕ) (m : List Pair) → Once ((x, y) ∷ m) → x ≢ y
unfolding hit
once_apart x y m o e = omega (arith, o x, ι_is x {b = x} refl, ι_is y {b = x} (sym e))

module _ (w2 : List ℕ) (o : Origins) (m : List Pair) (x y : ℕ) (r : 8192 ≤ length w2) (p : x < 1024) (q : y < 1024)
    (h : Mates w2 o m) where
  -- what the table has for the cell c
  abbrev said : ℕ → Points
  said c = seen (tag o c) c

  pub mates_join : (origin : Origin) → IsFrom o origin x y → Once ((x, y) ∷ m)
      → Mates (joined x y origin w2) o ((x, y) ∷ m)
  mates_join origin is once c l = go (eq_test x c) (eq_test y c)
    where
      for_x : ℕ
      for_x = y + 1 + 2048 * stamp_for origin

      for_y : ℕ
      for_y = x + 1 + 2048 * stamp_for origin

      now : ℕ → ℕ
      now d = get_or (joined x y origin w2) (at_table + d) 0

      alone : (x ≡ c) ⊎ (y ≡ c) → sum (said c) m ≡ 0
      alone e = seen_none (tag o c) c m (omega (arith, once c, hit_some c x y e))

      go : {s t : Bool} → Test (x ≡ c) (x ≢ c) s → Test (y ≡ c) (y ≢ c) t → now c ≡ said c x y + sum (said c) m
      go (pass e) j =
          ap now (sym e)
          ∙ two_first w2 x y for_x for_y r p (once_apart x y m once)
          ∙ omega (
            arith,
            ap stamp_for is.0,
            ap (λ d. tag o d y) e,
            ap (λ a. said c a y) e,
            seen_left (tag o c) c y,
            alone (inl e),
          )
      go (fail i) (pass e) =
          ap now (sym e)
          ∙ two_last w2 x y for_x for_y r q
          ∙ omega (
            arith,
            ap stamp_for is.1,
            ap (λ d. tag o d x) e,
            ap (λ b. said c x b) e,
            seen_right (tag o c) c x,
            alone (inr e),
          )
      go (fail i) (fail j) =
          two_else w2 x y for_x for_y (at_table + c) (λ e. i (omega arith)) (λ e. j (omega arith))
          ∙ omega (arith, h c l, seen_off (tag o c) c x y i j)
