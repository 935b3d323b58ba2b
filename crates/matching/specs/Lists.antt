-- Tests and statements over lists.
use Rattle.std.specs.Prelude.{Bool, true, false, ◌&&◌, ◌||◌, not, List, [], ◌∷◌, ℕ, ◌+◌, eqb}

-- Whether every element, or some element, passes the test.
abbrev pub all : {A : Type 0} → (A → Bool) → List A → Bool
all t [] = true
all t (x ∷ xs) = t x && all t xs

abbrev pub any : {A : Type 0} → (A → Bool) → List A → Bool
any t [] = false
any t (x ∷ xs) = t x || any t xs

-- Whether the number is in the list.
abbrev pub mem : ℕ → List ℕ → Bool
mem c [] = false
mem c (x ∷ xs) = eqb x c || mem c xs

-- Whether no number stands twice.
abbrev pub distinct : List ℕ → Bool
distinct [] = true
distinct (x ∷ xs) = not (mem x xs) && distinct xs

-- Every element is as P says.
abbrev pub All : {A : Type 0} → (A → Type 0) → List A → Type 0
All P [] = Unit {0}
All P (x ∷ xs) = P x × All P xs

-- Each element stands in the order R before all later ones.
abbrev pub Ascends : {A : Type 0} → (A → A → Type 0) → List A → Type 0
Ascends R [] = Unit {0}
Ascends R (x ∷ xs) = All (R x) xs × Ascends R xs

-- The numbers together.
abbrev pub together : List ℕ → ℕ
together [] = 0
together (x ∷ xs) = x + together xs
