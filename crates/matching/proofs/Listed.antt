-- What one entry adds to a list: an entry that joins the two cells one more and its points, any other nothing.
-- Assumes nothing.
use mathlib.Core.Path.{◌≡◌}
use mathlib.Core.Bool.{true, false}
use mathlib.Core.List.{List, ◌∷◌}
use Prim.Native.Nat.{ℕ, suc, ◌+◌}
use native.Mathlib.Omega.{arith}
use Rattle.matching.specs.Pairs.{same}
use Rattle.matching.specs.Listed.{Entry, joined, listed}

module _ (e : Entry) (es : List Entry) (a b : ℕ) where
  pub joined_same : same e.0 e.1 a b ≡ true → joined (e ∷ es) a b ≡ suc (joined es a b)
  unfolding joined
  joined_same h = rw h (omega arith)

  pub listed_same : same e.0 e.1 a b ≡ true → listed (e ∷ es) a b ≡ e.2 + listed es a b
  unfolding listed
  listed_same h = rw h

  pub joined_apart : same e.0 e.1 a b ≡ false → joined (e ∷ es) a b ≡ joined es a b
  unfolding joined
  joined_apart h = rw h (omega arith)

  pub listed_apart : same e.0 e.1 a b ≡ false → listed (e ∷ es) a b ≡ listed es a b
  unfolding listed
  listed_apart h = rw h (omega arith)
