-- Words of a buffer that did not change: the first ones (`take_same`), the last ones (`drop_same`), and some between
-- (`part_same`). Assumes nothing.
use mathlib.Core.Path.{◌≡◌, sym, ◌∙◌}
use mathlib.Core.List.{List}
use Prim.Native.Nat.{ℕ, ◌+◌, ◌≤◌, ◌<◌}
use native.Mathlib.Omega.{arith}
use lib.ListN.{length, get_or, take, drop, length-drop}
use lib.Seq.{length-take-le, get_or-take, get_or-drop, ext_get_or}

pub take_same : (w w' : List ℕ) (t : ℕ) → t ≤ length w' → t ≤ length w
    → ((j : ℕ) → j < t → get_or w' j 0 ≡ get_or w j 0) → take t w' ≡ take t w
take_same w w' t l m h =
    ext_get_or 0 (take t w') (take t w) (length-take-le t w' l ∙ sym (length-take-le t w m))
    (λ i k. (let b : i < t = omega (arith, length-take-le t w' l) in
    get_or-take t w' i 0 b ∙ h i b ∙ sym (get_or-take t w i 0 b)))

pub drop_same : (w w' : List ℕ) (t : ℕ) → length w' ≡ length w → ((j : ℕ) → t ≤ j → get_or w' j 0 ≡ get_or w j 0)
    → drop t w' ≡ drop t w
drop_same w w' t l h =
    ext_get_or 0 (drop t w') (drop t w) (omega (arith, length-drop t w', length-drop t w))
    (λ i k. get_or-drop t w' i 0 ∙ h (t + i) (omega arith) ∙ sym (get_or-drop t w i 0))

pub part_same : (w w' : List ℕ) (a k : ℕ) → a + k ≤ length w' → a + k ≤ length w
    → ((j : ℕ) → j < a + k → get_or w' j 0 ≡ get_or w j 0) → take k (drop a w') ≡ take k (drop a w)
part_same w w' a k l m h =
    take_same (drop a w) (drop a w') k (omega (arith, length-drop a w')) (omega (arith, length-drop a w))
    (λ j p. get_or-drop a w' j 0 ∙ h (a + j) (omega arith) ∙ sym (get_or-drop a w j 0))
