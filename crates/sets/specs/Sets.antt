-- A set of at most 12 cells, by their places in a list of cells, as a number whose bits tell which are in it; the
-- points between them; the heaviest pairing of a set, and what is kept of it. Inner contracts cite this; what they
-- promise is `solve` of crate matching.
--
-- The words ws have the points from place i to a higher place j at 12 × i + j. In the buffer w1 stands, from `at_sets`
-- on, for each set of the first k places 0 or its word (`Best`).
use Rattle.std.specs.Prelude.{◌≡◌, cond, List, [], ◌∷◌, ◌++◌, ℕ, zero, suc, ◌+◌, ◌*◌, ◌-◌, ◌/◌, ◌%◌, ◌^◌, ◌≤◌, ◌<◌}
use Rattle.std.specs.Prelude.{eqb, ltb, length, get_or, take, Option, None, Some}
use Rattle.std.specs.Option.{IfSome}
use Rattle.matching.specs.Pairs.{Pair, Points, sum}
use Rattle.matching.specs.Solve.{solve}
use Rattle.buffers.specs.Map.{unit, at_sets}
use Rattle.sets.specs.declared.Taken.{Taken}

-- The places below k that are in the set, ascending.
unfoldable pub places : ℕ → ℕ → List ℕ
places zero s = []
places (suc k) s = places k s ++ cond (eqb (s / 2 ^ k % 2) 1) (k ∷ []) []

abbrev pub in_set : ℕ → List ℕ
in_set s = places 12 s

abbrev pub between : List ℕ → Points
between ws i j = get_or ws (12 * i + j) 0

-- The heaviest pairing of the set, and its points.
abbrev pub heaviest : List ℕ → ℕ → List Pair
heaviest ws s = solve 12 (between ws) (in_set s)

abbrev pub points : List ℕ → ℕ → ℕ
points ws s = sum (between ws) (heaviest ws s)

-- The place is in the set, and none below it.
abbrev pub Lowest : ℕ → ℕ → Type 0
Lowest c s = (c < 12) × (s / 2 ^ c % 2 ≡ 1) × (places c s ≡ [])

-- The heaviest pairing of the place c and a set above it in which c has that partner, if any; such a partner.
abbrev pub partnered : List ℕ → ℕ → ℕ → Option ℕ → List Pair
partnered ws c rest None = heaviest ws rest
partnered ws c rest (Some p) = (c, p) ∷ heaviest ws (rest - 2 ^ p)

abbrev pub Partner : ℕ → Option ℕ → Type 0
Partner rest r = IfSome r (λ p. (p < 12) × (rest / 2 ^ p % 2 ≡ 1))

-- The partner that a word tells in its four low bits: 1 where there is none, else the partner's place and 2.
abbrev pub told : ℕ → Option ℕ
told x = cond (ltb 1 x) (Some (x - 2)) None

abbrev pub partner_told : ℕ → Option ℕ
partner_told v = told (v % 16)

-- The word v of a set: the points of its heaviest pairing, and its lowest place's partner in it.
pub record Best (ws : List ℕ) (s v : ℕ) : Type 0 where
  pub marked : 0 < v % 16
  pub sums : v / 16 ≡ points ws s
  pub leads : {c b : ℕ} → b ≡ 2 ^ c → Lowest c s
      → Partner (s - b) (partner_told v) × (heaviest ws s ≡ partnered ws c (s - b) (partner_told v))

-- What is known of sets of the first k places is right.
abbrev pub Known : List ℕ → ℕ → List ℕ → Type 0
Known ws k w1 = (s : ℕ) → s < 2 ^ k → 0 < get_or w1 (at_sets + s) 0 → Best ws s (get_or w1 (at_sets + s) 0)

-- The buffer w1 where it was w0: what is known is right, and nothing before the table changed.
pub record Kept (ws : List ℕ) (k : ℕ) (w0 w1 : List ℕ) : Type 0 where
  pub long : length w1 ≡ length w0
  pub known : Known ws k w1
  pub front : take at_sets w1 ≡ take at_sets w0

-- The points between places stay below `unit`: those of 12 pairs have less than 58 bits, and a word has room for them.
pub record Ready (ws w1 : List ℕ) (k s : ℕ) : Type 0 where
  pub few : k ≤ 12
  pub within : s < 2 ^ k
  pub words : 144 ≤ length ws
  pub room : 8192 ≤ length w1
  pub light : (i : ℕ) → i < 144 → get_or ws i 0 < unit
  pub known : Known ws k w1

-- Nothing is known of the sets of the first k places, and nothing before the table changed.
pub record Forgotten (k : ℕ) (w0 w1 : List ℕ) : Type 0 where
  pub long : length w1 ≡ length w0
  pub none : (s : ℕ) → s < 2 ^ k → get_or w1 (at_sets + s) 0 ≡ 0
  pub front : take at_sets w1 ≡ take at_sets w0

-- The heaviest pairing of the set s is that of the rest, with the lowest place and its partner where it has one.
abbrev pub with_partner : ℕ → Option ℕ → List Pair → List Pair
with_partner c None m = m
with_partner c (Some p) m = (c, p) ∷ m

pub record Takes (ws : List ℕ) (s : ℕ) (t : Taken) : Type 0 where
  pub low : t.low < 12
  pub partner : IfSome t.partner (λ p. p < 12)
  pub fewer : t.rest < s
  pub leads : heaviest ws s ≡ with_partner t.low t.partner (heaviest ws t.rest)
