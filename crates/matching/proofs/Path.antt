-- The best of a row of cells and its points, by recurrence: the row's first pair is left out, or taken with the best
-- from two cells on (`path_step`), which in a ring leaves the first cell free (`ring_step`). Before them: of the cells
-- kept free only those count that the pairs have (`h_ext`, `best_ext`). Assumes nothing.
use mathlib.Core.Path.{◌≡◌, refl, ap, ◌∙◌}
use mathlib.Core.Logic.{◌⊎◌, inl, inr, ◌≢◌}
use mathlib.Core.Bool.{Bool, true, cond, ◌||◌}
use mathlib.Core.List.{List, [], ◌∷◌}
use Prim.Native.Nat.{ℕ, suc, ◌+◌, max}
use lib.Dec.{eqb}
use lib.ListN.{length}
use Rattle.matching.specs.Lists.{mem}
use Rattle.matching.specs.Pairs.{Pair, Points, Each}
use Rattle.matching.specs.Best.{barred, H, pays, best, walk}
use Rattle.matching.proofs.Members.{mem_on, mem_head, mem_past}
use Rattle.matching.proofs.Sums.{each_map}
use Rattle.matching.proofs.Best.{both, h_cons, best_cons}

-- The same cells of the pairs are kept free.
abbrev pub Alike : List ℕ → List ℕ → List Pair → Type 0
Alike off on es = Each (λ a b. (mem a off ≡ mem a on) × (mem b off ≡ mem b on)) es

alike_both : (e : Pair) (off on : List ℕ) (es : List Pair) → Alike off on es → Alike (both e off) (both e on) es
alike_both e off on es p = each_map (λ a b h. (more a h.0, more b h.1)) es p
  where
    more : (c : ℕ) → mem c off ≡ mem c on → mem c (both e off) ≡ mem c (both e on)
    more c h = ap (λ t. eqb e.0 c || (eqb e.1 c || t)) h

pub h_ext : (w : Points) (es : List Pair) (off on : List ℕ) → Alike off on es → H w off es ≡ H w on es
unfolding H
h_ext w [] off on p = refl
h_ext w (e ∷ es) off on p =
    let q = alike_both e off on es p.1 in
    cc (h_ext w es off on p.1, h_ext w es (both e off) (both e on) q, p.0.0, p.0.1)

pub best_ext : (t : Bool) (w : Points) (es : List Pair) (off on : List ℕ) → Alike off on es
    → best t w off es ≡ best t w on es
unfolding best
best_ext t w [] off on p = refl
best_ext t w (e ∷ es) off on p =
    let q = alike_both e off on es p.1 in
    let out = h_ext w es off on p.1 in
    let with = h_ext w es (both e off) (both e on) q in
    cc (best_ext t w es off on p.1, best_ext t w es (both e off) (both e on) q, out, with, p.0.0, p.0.1)

-- What holds of the cells of a walk holds of both cells of each of its pairs.
pub length_walk : (u : ℕ) (cs : List ℕ) (v : ℕ) → length (walk u cs v) ≡ suc (length cs)
length_walk u [] v = refl
length_walk u (c ∷ cs) v = ap suc (length_walk c cs v)

pub walk_each : (P : ℕ → Type 0) (cs : List ℕ) (u v : ℕ) → P u → P v → ((c : ℕ) → mem c cs ≡ true → P c)
    → Each (λ a b. P a × P b) (walk u cs v)
walk_each P [] u v hu hv h = ((hu, hv), tt)
walk_each P (c ∷ cs) u v hu hv h =
    let hc = h c (mem_head c c cs refl) in ((hu, hc), walk_each P cs c v hc hv (λ x k. h x (mem_on x c cs k)))

-- The best of the row u, c, d, .. v and its points, from those of the row without u, and those of the row without u
-- and c that leave `on` free.
abbrev pub Recurs : Bool → Points → List ℕ → List ℕ → ℕ → ℕ → ℕ → List ℕ → ℕ → Type 0
Recurs t w off on u c d cs v =
    (best t w off (walk u (c ∷ d ∷ cs) v)
    ≡ cond (barred off (u, c)) (best t w off (walk c (d ∷ cs) v))
    (cond (pays t (H w off (walk c (d ∷ cs) v)) (w u c + H w on (walk d cs v)))
    ((u, c) ∷ best t w on (walk d cs v))
    (best t w off (walk c (d ∷ cs) v))))
    × (H w off (walk u (c ∷ d ∷ cs) v)
    ≡ cond (barred off (u, c)) (H w off (walk c (d ∷ cs) v))
    (max (H w off (walk c (d ∷ cs) v)) (w u c + H w on (walk d cs v))))

-- With u, c taken, c's other pair is barred, and behind it `on` is what is kept free.
module _ (off on : List ℕ) (u c d : ℕ) (cs : List ℕ) (v : ℕ)
    (past : (x : ℕ) → (mem x (d ∷ cs) ≡ true) ⊎ (v ≡ x) → mem x (u ∷ c ∷ off) ≡ mem x on) where
  alike : Alike (u ∷ c ∷ off) on (walk d cs v)
  alike =
      walk_each (λ x. mem x (u ∷ c ∷ off) ≡ mem x on) cs d v (past d (inl (mem_head d d cs refl))) (past v (inr refl))
      (λ x k. past x (inl (mem_on x d cs k)))

  barred_c : mem c (u ∷ c ∷ off) ≡ true
  barred_c = mem_on c u (c ∷ off) (mem_head c c off refl)

  best_on : (t : Bool) (w : Points) → best t w (u ∷ c ∷ off) (walk c (d ∷ cs) v) ≡ best t w on (walk d cs v)
  best_on t w =
      best_cons t w (u ∷ c ∷ off) (c, d) (walk d cs v)
      ∙ rw barred_c (best_ext t w (walk d cs v) (u ∷ c ∷ off) on alike)

  h_on : (w : Points) → H w (u ∷ c ∷ off) (walk c (d ∷ cs) v) ≡ H w on (walk d cs v)
  h_on w = h_cons w (u ∷ c ∷ off) (c, d) (walk d cs v) ∙ rw barred_c (h_ext w (walk d cs v) (u ∷ c ∷ off) on alike)

  two_step : (t : Bool) (w : Points) → Recurs t w off on u c d cs v
  two_step t w = (
    rw (best_cons t w off (u, c) (walk c (d ∷ cs) v), best_on t w, h_on w),
    rw (h_cons w off (u, c) (walk c (d ∷ cs) v), h_on w),
  )

-- A path: neither u nor c stands again.
pub path_step : (off : List ℕ) (u c d : ℕ) (cs : List ℕ) (v : ℕ)
    → ((x : ℕ) → (mem x (d ∷ cs) ≡ true) ⊎ (v ≡ x) → (u ≢ x) × (c ≢ x))
    → (t : Bool) (w : Points) → Recurs t w off off u c d cs v
path_step off u c d cs v fresh =
    two_step off off u c d cs v (λ x h. mem_past x u (c ∷ off) (fresh x h).0 ∙ mem_past x c off (fresh x h).1)

-- A ring: u stands again at the end, c does not.
pub ring_step : (off : List ℕ) (u c d : ℕ) (cs : List ℕ)
    → ((x : ℕ) → (mem x (d ∷ cs) ≡ true) ⊎ (u ≡ x) → c ≢ x)
    → (t : Bool) (w : Points) → Recurs t w off (u ∷ off) u c d cs u
ring_step off u c d cs fresh =
    two_step off (u ∷ off) u c d cs u (λ x h. ap (λ t. eqb u x || t) (mem_past x c off (fresh x h)))
