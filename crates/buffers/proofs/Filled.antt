-- A part of a buffer filled with 0: its words are 0, the others stay, and the buffer keeps its length. Assumes nothing.
use mathlib.Core.Path.{◌≡◌}
use mathlib.Core.Logic.{◌⊎◌, inl, inr}
use mathlib.Core.List.{List}
use Prim.Native.Nat.{ℕ, ◌+◌, ◌≤◌, ◌<◌}
use lib.ListN.{length, get_or, take, drop, replicate}
use borrow.Rule.Slice.PartMut.{put_mid}
use Rattle.std.proofs.Common.{rules}
use Rattle.std.proofs.lemmas.List.{places}

-- the k words from place a on
module _ (w x : List ℕ) (a k : ℕ) (room : a + k ≤ length w) (q : x ≡ replicate (length (take k (drop a w))) 0) where
  pub zero_in : (j : ℕ) → a ≤ j → j < a + k → get_or (put_mid a k w x) j 0 ≡ 0
  zero_in j l m = search (rules, places)

  pub same_out : (j : ℕ) → (j < a) ⊎ (a + k ≤ j) → get_or (put_mid a k w x) j 0 ≡ get_or w j 0
  same_out j (inl l) = search (rules, places)
  same_out j (inr l) = search (rules, places)

  pub as_long : length (put_mid a k w x) ≡ length w
  as_long = search (rules, places)
