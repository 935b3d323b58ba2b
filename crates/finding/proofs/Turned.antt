-- A run read the other way: `turn` and its laws (`turn_run`, `turn_first`); the way back from an inner cell z to the
-- start of the run (`Back`, `back`).
use mathlib.Core.Path.{◌≡◌, refl}
use mathlib.Core.Logic.{◌⊎◌, inl, inr, ◌≢◌}
use mathlib.Core.Bool.{Bool, true, false}
use mathlib.Core.List.{List, [], ◌∷◌}
use Prim.Native.Nat.{ℕ, ◌+◌, ◌<◌}
use native.Mathlib.Omega.{arith}
use lib.ListN.{length}
use borrow.Author.Tests.{ne_eqb}
use Rattle.matching.specs.Lists.{mem}
use Rattle.matching.specs.Pairs.{Points}
use Rattle.matching.specs.Shapes.{first, last}
use Rattle.matching.proofs.Tests.{Test, pass, fail, eq_test}
use Rattle.matching.proofs.Members.{no_mem, mem_on, mem_head, mem_cases, mem_more}
use Rattle.matching.proofs.Partners.{between_turned}
use Rattle.matching.proofs.Rows.{Run}

-- The cells the other way round, before those passed.
abbrev pub turn : List ℕ → List ℕ → List ℕ
turn [] passed = passed
turn (c ∷ cs) passed = turn cs (c ∷ passed)

pub turn_length : (cs passed : List ℕ) → length (turn cs passed) ≡ length cs + length passed
turn_length [] passed = omega arith
turn_length (c ∷ cs) passed = omega (arith, turn_length cs (c ∷ passed))

pub turn_first : (cs passed : List ℕ) (v : ℕ) → first v (turn cs passed) ≡ last (first v passed) cs
turn_first [] passed v = refl
turn_first (c ∷ cs) passed v = turn_first cs (c ∷ passed) v

pub turn_mem : (P : ℕ → Type 0) (cs passed : List ℕ) → ((c : ℕ) → mem c cs ≡ true → P c)
    → ((c : ℕ) → mem c passed ≡ true → P c) → (c : ℕ) → mem c (turn cs passed) ≡ true → P c
turn_mem P [] passed p q = q
turn_mem P (x ∷ xs) passed p q =
    turn_mem P xs (x ∷ passed) (λ c m. p c (mem_on c x xs m)) (mem_more P x passed (p x (mem_head x x xs refl)) q)

module _ (n : ℕ) (w : Points) where
  pub turn_run : (u v : ℕ) (cs passed : List ℕ) → Run n w (first v cs) passed u → Run n w (first u passed) cs v
      → Run n w v (turn cs passed) u
  turn_run u v [] passed b r = b
  turn_run u v (c ∷ cs) passed b r = turn_run u v cs (c ∷ passed) (between_turned r.0, b) r.1

  -- The cells from z back to u, the start of a run over inner cells to v.
  pub record Back (u : ℕ) (inner : List ℕ) (v z : ℕ) : Type 0 where
    pub passed : List ℕ
    pub run : Run n w z passed u
    pub way : 0 < w z (first u passed)
    pub within : (c : ℕ) → mem c passed ≡ true → mem c inner ≡ true
    pub free : mem z passed ≡ false
    pub starts : last z passed ≡ first v inner

  -- going on from the cells passed to those ahead
  back_on : (u : ℕ) (inner : List ℕ) (v z : ℕ) (passed cs : List ℕ)
      → Run n w (first v cs) passed u → Run n w (first u passed) cs v
      → ((c : ℕ) → mem c passed ≡ true → mem c inner ≡ true) → ((c : ℕ) → mem c cs ≡ true → mem c inner ≡ true)
      → mem z passed ≡ false → last (first v cs) passed ≡ first v inner → mem z cs ≡ true → Back u inner v z
  back_on u inner v z passed [] b r i k f s m = no_mem z m
  back_on u inner v z passed (c ∷ cs) b r i k f s m =
      at (eq_test c z) (λ d. back_on u inner v z (c ∷ passed) cs (between_turned r.0, b) r.1
      (mem_more (λ x. mem x inner ≡ true) c passed (k c (mem_head c c cs refl)) i)
      (λ x q. k x (mem_on x c cs q)) (rw (ne_eqb c z d) f) s)
    where
      later : c ≢ z → (c ≡ z) ⊎ (mem z cs ≡ true) → mem z cs ≡ true
      later d (inl e) = absurd (d e)
      later d (inr q) = q

      at : {t : Bool} → Test (c ≡ z) (c ≢ z) t → (c ≢ z → mem z cs ≡ true → Back u inner v z) → Back u inner v z
      at (pass e) h =
          rw (← e) record { passed = passed; run = b; way = r.0.back; within = i; free = rw e f; starts = s }
      at (fail d) h = h d (later d (mem_cases z c cs m))

  pub back : (u : ℕ) (inner : List ℕ) (v : ℕ) → Run n w u inner v → (z : ℕ) → mem z inner ≡ true → Back u inner v z
  back u inner v r z h = back_on u inner v z [] inner tt r (λ c m. no_mem c m) (λ c m. m) refl refl h
