-- Words stored in a buffer. In order: words elsewhere, and the length, stay; words aside of the graph's. Assumes
-- nothing.
use mathlib.Core.Path.{◌≡◌, ◌∙◌}
use mathlib.Core.Logic.{◌⊎◌, inl, inr, ◌≢◌}
use mathlib.Core.List.{List}
use Prim.Native.Nat.{ℕ, ◌+◌, ◌≤◌, ◌<◌}
use native.Mathlib.Omega.{arith}
use lib.ListN.{length, get_or, set, length-set}
use lib.Seq.{get_or-set_same, get_or-set_other}
use Rattle.buffers.specs.Map.{trail_room, at_sums, at_names}
use Rattle.slots.specs.Slots.{Added, Aside}

-- ---- one store, two stores

module _ (w : List ℕ) (i v : ℕ) {w' : List ℕ} (e : w' ≡ set w i v) where
  pub stored : i < length w → get_or w' i 0 ≡ v
  stored l = rw (e, get_or-set_same w i v 0 l)

  pub elsewhere : (j : ℕ) → j ≢ i → get_or w' j 0 ≡ get_or w j 0
  elsewhere j n = rw (e, get_or-set_other w i j v 0 n)

  pub as_long : length w' ≡ length w
  as_long = rw (e, length-set)

module _ (w : List ℕ) (i v i' v' : ℕ) {w' : List ℕ} (e : w' ≡ set (set w i v) i' v') where
  pub stored_first : i ≢ i' → i < length w → get_or w' i 0 ≡ v
  stored_first n l = elsewhere (set w i v) i' v' e i n ∙ get_or-set_same w i v 0 l

  pub stored_last : i' < length w → get_or w' i' 0 ≡ v'
  stored_last l = stored (set w i v) i' v' e (rw length-set l)

  pub elsewhere_both : (j : ℕ) → j ≢ i → j ≢ i' → get_or w' j 0 ≡ get_or w j 0
  elsewhere_both j n m = elsewhere (set w i v) i' v' e j m ∙ get_or-set_other w i j v 0 n

  pub as_long_both : length w' ≡ length w
  as_long_both = rw (e, length-set, length-set)

-- ---- words that are not the graph's

aside_apart : {j : ℕ} → (j < trail_room) ⊎ (at_names ≤ j) → (k : ℕ) → at_sums ≤ k → k < at_names → j ≢ k
aside_apart (inl l) k a b = omega arith
aside_apart (inr l) k a b = omega arith

pub aside_both : (w : List ℕ) (i v i' v' : ℕ) {w' : List ℕ} → w' ≡ set (set w i v) i' v'
    → (at_sums ≤ i) × (i < at_names)
    → (at_sums ≤ i') × (i' < at_names) → Aside w w'
aside_both w i v i' v' e a b j l =
    elsewhere_both w i v i' v' e j (aside_apart l i a.0 a.1) (aside_apart l i' b.0 b.1)

pub aside_added : {w w' : List ℕ} {i a b : ℕ} → Added w w' i a b → a < b → b < 1024 → Aside w w'
aside_added {w} {w'} {i} {a} {b} ad lt lb j l =
    ad.others j (aside_apart l (at_sums + a) (omega arith) (omega arith))
    (aside_apart l (at_sums + b) (omega arith) (omega arith))

pub aside_on : (w w' w'' : List ℕ) → Aside w w' → Aside w' w'' → Aside w w''
aside_on w w' w'' a b j l = b j l ∙ a j l
