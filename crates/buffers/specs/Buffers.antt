-- The work buffers lent to a call.
use Rattle.std.specs.Prelude.{ℕ, ◌≡◌, List, [], ◌∷◌, length, replicate}

-- The lengths of the work buffers lent to a call, and such a buffer as every call leaves it.
abbrev pub lent : List ℕ → List ℕ → List ℕ
lent a b = length a ∷ length b ∷ []

abbrev pub zeros : ℕ → List ℕ
zeros n = replicate n 0

abbrev pub Cleared : List ℕ → List ℕ → Type 0
Cleared before after = after ≡ zeros (length before)
