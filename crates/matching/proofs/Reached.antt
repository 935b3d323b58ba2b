-- The connected group of a cell: the least set with the cell that no pair leaves (`group_least`, `group_closed`).
-- In order: the cells around some cells; the cells reached, which a round leaves as they are or makes more, so that n
-- rounds are enough (`group_stays`) and a group of k + 1 cells is reached over k pairs (`reached_all`); two groups are
-- the same or have no cell in common (`group_turned`, `group_meets`); the largest group (`largest_most`,
-- `largest_least`). Assumes nothing.
use mathlib.Core.Path.{◌≡◌, refl, sym, ap, subst, ◌∙◌}
use mathlib.Core.Logic.{◌⊎◌, inl, inr}
use mathlib.Core.Bool.{Bool, true, false, not, ◌||◌}
use mathlib.Core.List.{List, [], ◌∷◌, map}
use Prim.Native.Nat.{ℕ, zero, suc, ◌+◌, ◌-◌, ◌≤◌, ◌<◌, max}
use native.Mathlib.Omega.{arith}
use lib.Dec.{ltb}
use lib.ListN.{length}
use borrow.Author.Tests.{lt-ltb}
use Rattle.matching.specs.Lists.{any, mem, All}
use Rattle.matching.specs.Pairs.{Points}
use Rattle.matching.specs.Graph.{Graph, degree}
use Rattle.matching.specs.Solve.{with_pairs}
use Rattle.matching.specs.Groups.{around, reached, group, greatest, largest}
use Rattle.matching.proofs.Tests.{Test, pass, fail, is_test, lt_test, or_test, map_test, holds, passes}
use Rattle.matching.proofs.Members.{clash, no_mem, mem_on, mem_head, mem_cases, mem_one}
use Rattle.matching.proofs.Alls.{all_mem}
use Rattle.matching.proofs.Where.{Rises, rises_distinct, where_test, where_in, where_below, where_rises, Inside}
use Rattle.matching.proofs.Where.{same_members, members_more, any_test}
use Rattle.matching.proofs.Upto.{distinct_length}
use Rattle.matching.proofs.Put.{pair_below}
use Rattle.matching.proofs.Solution.{with_test}

-- A set of cells, by its test, that no pair leaves.
abbrev pub Closed : Points → (ℕ → Bool) → Type 0
Closed w t = (a b : ℕ) → 0 < w a b → t a ≡ t b

-- ---- the cells around some cells

-- b is one of the cells or paired with one of them.
abbrev pub Near : Points → List ℕ → ℕ → Type 0
Near w cs b = (mem b cs ≡ true) ⊎ ((a : ℕ) × (mem a cs ≡ true) × (0 < w a b))

near_test : (w : Points) (cs : List ℕ) (b : ℕ)
    → Test (Near w cs b) (Near w cs b → ⊥) (mem b cs || any (λ a. ltb 0 (w a b)) cs)
near_test w cs b = map_test near far (or_test (is_test (mem b cs)) (any_test (λ a. ltb 0 (w a b)) cs))
  where
    near : (mem b cs ≡ true) ⊎ ((a : ℕ) × (mem a cs ≡ true) × (ltb 0 (w a b) ≡ true)) → Near w cs b
    near (inl h) = inl h
    near (inr (a, h, p)) = inr (a, h, holds (lt_test 0 (w a b)) p)

    far : (mem b cs ≡ false) × ((a : ℕ) → mem a cs ≡ true → ltb 0 (w a b) ≡ false) → Near w cs b → ⊥
    far f (inl h) = clash h f.0
    far f (inr (a, h, p)) = clash (lt-ltb 0 (w a b) p) (f.1 a h)

module _ (n : ℕ) (w : Points) (cs : List ℕ) (b : ℕ) where
  pub around_near : mem b (around n w cs) ≡ true → Near w cs b
  around_near h = holds (near_test w cs b) (holds (where_test _ n b) h).1

  pub near_around : b < n → Near w cs b → mem b (around n w cs) ≡ true
  near_around l h = where_in _ n b l (passes (near_test w cs b) (λ f. f h))

-- ---- the cells reached

module _ (n : ℕ) (w : Points) (c : ℕ) where
  pub reached_rises : (k : ℕ) → Rises (reached n w c k)
  unfolding reached
  reached_rises zero = (tt, tt)
  reached_rises (suc k) = where_rises _ n

  -- what holds of c and is handed on by pairs holds of them
  pub reached_each : (P : ℕ → Type 0) → P c → ((a b : ℕ) → 0 < w a b → P a → P b)
      → (k x : ℕ) → mem x (reached n w c k) ≡ true → P x
  unfolding reached
  reached_each P p f zero x h = subst P (mem_one x c h) p
  reached_each P p f (suc k) x h = go (around_near n w (reached n w c k) x h) (reached_each P p f k)
    where
      go : Near w (reached n w c k) x → ((y : ℕ) → mem y (reached n w c k) ≡ true → P y) → P x
      go (inl m) i = i x m
      go (inr (a, m, l)) i = f a x l (i a m)

  -- the group is inside every set with the cell that no pair leaves
  pub group_least : (t : ℕ → Bool) → Closed w t → t c ≡ true → (x : ℕ) → mem x (group n w c) ≡ true → t x ≡ true
  group_least t closed h = reached_each (λ x. t x ≡ true) h (λ a b l e. sym (closed a b l) ∙ e) n

  module _ (g : Graph n w) (low : c < n) where
    pub reached_below : (k : ℕ) → All (λ x. x < n) (reached n w c k)
    unfolding reached
    reached_below zero = (low, tt)
    reached_below (suc k) = where_below _ n

    reached_on : (k : ℕ) → Inside (reached n w c k) (reached n w c (suc k))
    unfolding reached
    reached_on k x h =
        near_around n w (reached n w c k) x (all_mem (λ y. y < n) (reached n w c k) (reached_below k) x h) (inl h)

    pub reached_later : (j k : ℕ) → Inside (reached n w c k) (reached n w c (j + k))
    reached_later zero k x h = let e : 0 + k ≡ k = omega arith in rw e h
    reached_later (suc j) k x h =
        let e : suc j + k ≡ suc (j + k) = omega arith in
        rw e (reached_on (j + k) x (reached_later j k x h))

    pub reached_own : (k : ℕ) → mem c (reached n w c k) ≡ true
    unfolding reached
    reached_own zero = mem_head c c [] refl
    reached_own (suc k) = reached_on k c (reached_own k)

    pub reached_pair : (k a b : ℕ) → mem a (reached n w c k) ≡ true → 0 < w a b → mem b (reached n w c (suc k)) ≡ true
    unfolding reached
    reached_pair k a b h l = near_around n w (reached n w c k) b (pair_below g a b l).1 (inr (a, h, l))

    -- a round that finds no new cell is the last
    abbrev Stays : ℕ → Type 0
    Stays k = reached n w c k ≡ reached n w c (suc k)

    stays_on : (j k : ℕ) → Stays k → reached n w c k ≡ reached n w c (j + k)
    unfolding reached
    stays_on zero k e = let z : 0 + k ≡ k = omega arith in rw z
    stays_on (suc j) k e =
        let z : suc j + k ≡ suc (j + k) = omega arith in
        rw z (e ∙ ap (around n w) (stays_on j k e))

    settled : (k : ℕ) → ((j : ℕ) × (j ≤ k) × Stays j) ⊎ (k < length (reached n w c k))
    unfolding reached
    settled zero = inr (omega arith)
    settled (suc k) =
        go (settled k)
        (members_more n _ _ (reached_rises k) (reached_rises (suc k)) (reached_below (suc k)) (reached_on k))
      where
        go : ((j : ℕ) × (j ≤ k) × Stays j) ⊎ (k < length (reached n w c k))
            → Stays k ⊎ (length (reached n w c k) < length (reached n w c (suc k)))
            → ((j : ℕ) × (j ≤ suc k) × Stays j) ⊎ (suc k < length (reached n w c (suc k)))
        go (inl (j, l, e)) y = inl (j, omega arith, e)
        go (inr l) (inl e) = inl (k, omega arith, e)
        go (inr l) (inr m) = inr (omega arith)

    reached_most : (k : ℕ) → length (reached n w c k) ≤ n
    reached_most k =
        distinct_length n (reached n w c k) (rises_distinct (reached n w c k) (reached_rises k))
        (all_mem (λ x. x < n) (reached n w c k) (reached_below k))

    later : (j k : ℕ) → j ≤ k → Stays j → reached n w c j ≡ reached n w c k
    later j k l e = let z : (k - j) + j ≡ k = omega arith in rw z at (stays_on (k - j) j e)

    -- n rounds are enough
    pub group_stays : (k : ℕ) → n ≤ k → group n w c ≡ reached n w c k
    group_stays k l = go (settled n)
      where
        go : ((j : ℕ) × (j ≤ n) × Stays j) ⊎ (n < length (group n w c)) → group n w c ≡ reached n w c k
        go (inl (j, m, e)) = sym (later j n m e) ∙ later j k (omega arith) e
        go (inr m) = absurd (omega (arith, reached_most n))

    pub reached_group : (k : ℕ) → Inside (reached n w c k) (group n w c)
    reached_group k x h = rw (group_stays (n + k) (omega arith)) (reached_later n k x h)

    -- a group of at most k + 1 cells is reached over at most k pairs
    pub reached_all : (k : ℕ) → length (group n w c) ≤ suc k → reached n w c k ≡ group n w c
    reached_all k l =
        go (settled k) (members_more n _ _ (reached_rises k) (reached_rises n) (reached_below n) (reached_group k))
      where
        go : ((j : ℕ) × (j ≤ k) × Stays j) ⊎ (k < length (reached n w c k))
            → (reached n w c k ≡ group n w c) ⊎ (length (reached n w c k) < length (group n w c))
            → reached n w c k ≡ group n w c
        go y (inl e) = e
        go (inl (j, m, e)) (inr q) =
            sym (later j k m e) ∙ later j (n + k) (omega arith) e ∙ sym (group_stays (n + k) (omega arith))
        go (inr m) (inr q) = absurd (omega arith)

    pub group_own : mem c (group n w c) ≡ true
    group_own = reached_own n

    group_pair : (a b : ℕ) → 0 < w a b → mem a (group n w c) ≡ true → mem b (group n w c) ≡ true
    group_pair a b l h = rw (group_stays (suc n) (omega arith)) (reached_pair n a b h l)

    -- no pair leaves the group
    pub group_closed : Closed w (λ x. mem x (group n w c))
    group_closed a b l = go (is_test (mem a (group n w c))) (is_test (mem b (group n w c)))
      where
        go : {s t : Bool} → Test (mem a (group n w c) ≡ true) (mem a (group n w c) ≡ false) s
            → Test (mem b (group n w c) ≡ true) (mem b (group n w c) ≡ false) t → s ≡ t
        go (pass p) (pass q) = refl
        go (pass p) (fail q) = clash (group_pair a b l p) q
        go (fail p) (pass q) = clash (group_pair b a (omega (arith, g.turned a b)) q) p
        go (fail p) (fail q) = refl

-- over k + 1 pairs: over k, or over a first pair and k more
pub reached_first : {n : ℕ} {w : Points} → Graph n w → (c : ℕ) → c < n → (k d : ℕ)
    → mem d (reached n w c (suc k)) ≡ true
    → (mem d (reached n w c k) ≡ true) ⊎ ((b : ℕ) × (0 < w c b) × (mem d (reached n w b k) ≡ true))
unfolding reached
reached_first {n} {w} g c m zero d h = go (around_near n w (c ∷ []) d h)
  where
    go : Near w (c ∷ []) d
        → (mem d (c ∷ []) ≡ true) ⊎ ((b : ℕ) × (0 < w c b) × (mem d (b ∷ []) ≡ true))
    go (inl q) = inl q
    go (inr (a, q, p)) = inr (d, subst (λ (x : ℕ). 0 < w x d) (sym (mem_one a c q)) p, mem_head d d [] refl)
reached_first {n} {w} g c m (suc k) d h = go (around_near n w (reached n w c (suc k)) d h) (reached_first g c m k)
  where
    Way : ℕ → ℕ → Type 0
    Way j x = (mem x (reached n w c j) ≡ true) ⊎ ((b : ℕ) × (0 < w c b) × (mem x (reached n w b j) ≡ true))

    on : (a : ℕ) → 0 < w a d → Way k a → Way (suc k) d
    on a p (inl q) = inl (reached_pair n w c g m k a d q p)
    on a p (inr (b, l, q)) = inr (b, l, reached_pair n w b g (pair_below g c b l).1 k a d q p)

    go : Near w (reached n w c (suc k)) d → ((x : ℕ) → mem x (reached n w c (suc k)) ≡ true → Way k x) → Way (suc k) d
    go (inl q) i = inl q
    go (inr (a, q, p)) i = on a p (i a q)

-- ---- two groups

module _ {n : ℕ} {w : Points} (g : Graph n w) where
  pub group_below : (a b : ℕ) → a < n → mem b (group n w a) ≡ true → b < n
  group_below a b low h = all_mem (λ x. x < n) (group n w a) (reached_below n w a g low n) b h

  -- b is reached from a, so a from b
  pub group_turned : (a b : ℕ) → a < n → mem b (group n w a) ≡ true → mem a (group n w b) ≡ true
  group_turned a b low h = passes (is_test (mem a (group n w b))) off
    where
      up : b < n
      up = group_below a b low h

      off : mem a (group n w b) ≡ false → ⊥
      off f =
          clash (group_least n w a (λ x. not (mem x (group n w b))) (λ x y l. ap not (group_closed n w b g up x y l))
          (ap not f) b h) (ap not (group_own n w b g up))

  pub group_same : (a b : ℕ) → a < n → mem b (group n w a) ≡ true → group n w a ≡ group n w b
  group_same a b low h =
      same_members (group n w a) (group n w b) (reached_rises n w a n) (reached_rises n w b n)
      (group_least n w a (λ x. mem x (group n w b)) (group_closed n w b g up) (group_turned a b low h))
      (group_least n w b (λ x. mem x (group n w a)) (group_closed n w a g low) h)
    where
      up : b < n
      up = group_below a b low h

  pub pair_group : (a b : ℕ) → 0 < w a b → group n w a ≡ group n w b
  pair_group a b h =
      let low = (pair_below g a b h).0 in
      group_same a b low (sym (group_closed n w a g low a b h) ∙ group_own n w a g low)

  -- the groups of two cells with a cell in common are the same
  pub group_meets : (a b x : ℕ) → a < n → b < n → mem x (group n w a) ≡ true → mem x (group n w b) ≡ true
      → group n w a ≡ group n w b
  group_meets a b x la lb h k = group_same a x la h ∙ sym (group_same b x lb k)

-- ---- the largest group

greatest_most : (k : ℕ) (f : ℕ → ℕ) (xs : List ℕ) → ((x : ℕ) → mem x xs ≡ true → f x ≤ k) → greatest (map f xs) ≤ k
greatest_most k f [] h = omega arith
greatest_most k f (x ∷ xs) h =
    omega (arith, h x (mem_head x x xs refl), greatest_most k f xs (λ y m. h y (mem_on y x xs m)))

greatest_least : (f : ℕ → ℕ) (xs : List ℕ) (x : ℕ) → mem x xs ≡ true → f x ≤ greatest (map f xs)
greatest_least f [] x h = no_mem x h
greatest_least f (y ∷ ys) x h = go (mem_cases x y ys h) (greatest_least f ys x)
  where
    go : (y ≡ x) ⊎ (mem x ys ≡ true) → (mem x ys ≡ true → f x ≤ greatest (map f ys))
        → f x ≤ max (f y) (greatest (map f ys))
    go (inl e) i = omega (arith, ap f e)
    go (inr m) i = omega (arith, i m)

module _ (n : ℕ) (w : Points) where
  pub largest_most : (k : ℕ) → ((c : ℕ) → c < n → 0 < degree n w c → length (group n w c) ≤ k) → largest n w ≤ k
  unfolding largest
  largest_most k h =
      greatest_most k (λ c. length (group n w c)) (with_pairs n w)
      (λ c m. let p = holds (with_test n w c) m in h c p.0 p.1)

  pub largest_least : (c : ℕ) → mem c (with_pairs n w) ≡ true → length (group n w c) ≤ largest n w
  unfolding largest
  largest_least c m = greatest_least (λ c. length (group n w c)) (with_pairs n w) c m
