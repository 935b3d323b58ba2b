-- The heaviest pairing of a set. In order: solving with more fuel than there are places; the heaviest pairing of no
-- place; the bound of its points (`points_light`) and of a word (`word_light`).
use mathlib.Core.Path.{◌≡◌, refl, sym, ap, ap₂, ◌∙◌, fun_ext}
use mathlib.Core.Bool.{Bool, true, false, cond, ◌&&◌}
use mathlib.Core.List.{List, [], ◌∷◌}
use Prim.Native.Nat.{ℕ, zero, suc, ◌+◌, ◌*◌, ◌/◌, ◌%◌, ◌≤◌, ◌<◌}
use native.Mathlib.Omega.{arith}
use lib.Dec.{ltb}
use lib.Pow.{pow_pos}
use lib.ListN.{length, get_or}
use Rattle.matching.specs.Lists.{mem}
use Rattle.matching.specs.Pairs.{Pair, Points, sum}
use Rattle.matching.specs.Solve.{less, tries, solve}
use Rattle.matching.proofs.Members.{mem_head, mem_on}
use Rattle.matching.proofs.Alls.{all_mem}
use Rattle.matching.proofs.Solve.{less_length, less_mem}
use Rattle.buffers.specs.Map.{unit}
use Rattle.sets.specs.Sets.{in_set, between, heaviest, points, Best}
use Rattle.sets.proofs.Places.{places_under, places_empty, without_first}

-- ---- solving with more fuel than there are places

pub solve_more : (k : ℕ) (w : Points) (cs : List ℕ) → length cs ≤ k → solve (suc k) w cs ≡ solve k w cs
solve_more zero w [] l = refl
solve_more zero w (c ∷ cs) l = (let z : ⊥ = omega arith in absurd z)
solve_more (suc k) w [] l = refl
solve_more (suc k) w (c ∷ cs) l =
    ap₂ (λ f had. tries f w c cs had)
    (fun_ext (λ p. solve_more k w (less p cs) (omega (arith, less_length p cs))))
    (solve_more k w cs (omega arith))

-- ---- of no place

pub heaviest_none : (ws : List ℕ) (s : ℕ) → s ≡ 0 → heaviest ws s ≡ []
heaviest_none ws s e = ap (solve 12 (between ws)) (places_empty 12 s e)

pub best_none : (ws : List ℕ) (s : ℕ) {v : ℕ} → s ≡ 0 → 0 < v % 16 → v / 16 ≡ 0 → Best ws s v
best_none ws s e m z = record {
  marked = m;
  sums = z ∙ sym (ap (sum (between ws)) (heaviest_none ws s e));
  leads = λ {c} q l. absurd (omega (arith, (without_first c s q l).0, pow_pos c));
}

-- ---- the bound of its points

module _ (u : ℕ) where
  module _ (w : Points) (c m : ℕ) (rest : ℕ → List Pair) (r : (p : ℕ) → sum w (rest p) ≤ m) where
    tries_light : (ps : List ℕ) (had : List Pair) → ((p : ℕ) → mem p ps ≡ true → w c p < u)
        → sum w had ≤ m + u → sum w (tries rest w c ps had) ≤ m + u
    tries_light [] had l h = h
    tries_light (p ∷ ps) had l h =
        tries_light ps (cond better ((c, p) ∷ rest p) had) (λ q n. l q (mem_on q p ps n)) (go better)
      where
        better : Bool
        better = ltb 0 (w c p) && ltb (sum w had) (w c p + sum w (rest p))

        go : (t : Bool) → sum w (cond t ((c, p) ∷ rest p) had) ≤ m + u
        go true = omega (arith, l p (mem_head p p ps refl), r p)
        go false = h

  solve_light : (k : ℕ) (w : Points) (cs : List ℕ)
      → ((a b : ℕ) → mem a cs ≡ true → mem b cs ≡ true → w a b < u)
      → sum w (solve k w cs) ≤ k * u
  solve_light zero w cs l = omega arith
  solve_light (suc k) w [] l = omega arith
  solve_light (suc k) w (c ∷ cs) l =
      omega (
        arith,
        tries_light w c (k * u) (λ p. solve k w (less p cs)) (λ p. solve_light k w (less p cs) (λ a b g h. l a b
            (mem_on a c cs (less_mem p a cs g).0) (mem_on b c cs (less_mem p b cs h).0))) cs (solve k w cs)
            (λ p h. l c p (mem_head c c cs refl) (mem_on p c cs h))
            (omega (arith, solve_light k w cs (λ a b g h. l a b (mem_on a c cs g) (mem_on b c cs h)))),
      )

  pub points_light : (ws : List ℕ) (s : ℕ) → ((i : ℕ) → i < 144 → get_or ws i 0 < u) → points ws s ≤ 12 * u
  points_light ws s l = solve_light 12 (between ws) (in_set s) small
    where
      under : (x : ℕ) → mem x (in_set s) ≡ true → x < 12
      under = all_mem (λ x. x < 12) (in_set s) (places_under 12 s)

      small : (i j : ℕ) → mem i (in_set s) ≡ true → mem j (in_set s) ≡ true → between ws i j < u
      small i j g h = l (12 * i + j) (omega (arith, under i g, under j h))

pub word_light : {ws : List ℕ} {s v : ℕ} → ((i : ℕ) → i < 144 → get_or ws i 0 < unit) → Best ws s v
    → v / 16 ≤ 12 * unit
word_light {ws} {s} l b = omega (arith, b.sums, points_light unit ws s l)
