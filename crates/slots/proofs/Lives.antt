-- How many slots are live. In order: what a slot counts; never more than there are (`live_most`); one slot more
-- (`live_none`, `live_more`, `live_past`); a live slot that goes (`live_kill`). Assumes nothing.
use mathlib.Core.Path.{◌≡◌, refl, ap}
use mathlib.Core.Bool.{Bool, true, false}
use mathlib.Core.List.{List}
use Prim.Native.Nat.{ℕ, ◌+◌, ◌≤◌, ◌<◌}
use native.Mathlib.Omega.{arith}
use native.Mathlib.Numerals.{add-one}
use lib.Dec.{ltb}
use lib.ListN.{length, get_or, set}
use Rattle.matching.specs.Pairs.{ι}
use Rattle.matching.proofs.Tests.{Test, pass, fail, lt_test}
use Rattle.slots.specs.Slots.{total, live}
use Rattle.slots.proofs.Totals.{total_most, total_but}
use Rattle.slots.proofs.Stores.{stored, elsewhere}

-- ---- one slot

-- What slot i counts.
abbrev lives : List ℕ → ℕ → ℕ
lives w i = ι (ltb 0 (get_or w i 0))

lives_most : (w : List ℕ) (i : ℕ) → lives w i ≤ 1
lives_most w i = go (ltb 0 (get_or w i 0))
  where
    go : (t : Bool) → ι t ≤ 1
    go true = omega arith
    go false = omega arith

lives_one : (w : List ℕ) (i : ℕ) → 0 < get_or w i 0 → lives w i ≡ 1
lives_one w i h = go (lt_test 0 (get_or w i 0))
  where
    go : {t : Bool} → Test (0 < get_or w i 0) (get_or w i 0 ≤ 0) t → ι t ≡ 1
    go (pass p) = refl
    go (fail n) = absurd (omega arith)

lives_none : (w : List ℕ) (i : ℕ) → get_or w i 0 ≡ 0 → lives w i ≡ 0
lives_none w i z = rw z

-- ---- all of them

pub live_most : (e : ℕ) (w : List ℕ) → live e w ≤ e
unfolding live
live_most e w = omega (arith, total_most (lives w) e 1 (λ j l. lives_most w j))

pub live_none : (w : List ℕ) → live 0 w ≡ 0
unfolding live total
live_none w = refl

live_next : (e : ℕ) (w : List ℕ) → live (e + 1) w ≡ lives w e + live e w
unfolding live total
live_next e w = rw add-one refl

pub live_more : (e : ℕ) (w : List ℕ) → 0 < get_or w e 0 → live (e + 1) w ≡ live e w + 1
live_more e w h = omega (arith, live_next e w, lives_one w e h)

pub live_past : (e : ℕ) (w : List ℕ) → get_or w e 0 ≡ 0 → live (e + 1) w ≡ live e w
live_past e w z = omega (arith, live_next e w, lives_none w e z)

pub live_kill : (e i : ℕ) (w : List ℕ) → i < e → i < length w → 0 < get_or w i 0 → live e (set w i 0) + 1 ≡ live e w
unfolding live
live_kill e i w l r h =
    omega (
      arith,
      total_but (lives (set w i 0)) (lives w) e i l (λ j n. ap (λ x. ι (ltb 0 x)) (elsewhere w i 0 refl j n)),
      lives_one w i h,
      lives_none (set w i 0) i (stored w i 0 refl r),
    )
