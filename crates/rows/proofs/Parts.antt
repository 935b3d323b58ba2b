-- The parts of the row of a chain or a ring: the points and the best of each are those of the row with its ends kept
-- free. In order: a first or last pair that may not be taken; the words of a part; chains and rings; what the functions
-- answer.
use Prim.Native.Nat.{ℕ, zero, suc, ◌+◌, ◌*◌, ◌-◌, ◌<◌, ◌≤◌, max}
use mathlib.Core.Path.{◌≡◌, refl, sym, ap, ap₂, subst, ◌∙◌}
use mathlib.Core.Logic.{◌⊎◌, inl, inr, ◌≢◌}
use mathlib.Core.Bool.{Bool, true, false, cond, ◌||◌}
use mathlib.Core.List.{List, [], ◌∷◌, ◌++◌, map}
use native.Mathlib.Omega.{arith}
use lib.Dec.{eqb}
use borrow.Author.Tests.{ne_eqb}
use lib.ListN.{length, take, drop, get_or, set, length-drop}
use borrow.Rule.Slice.PartMut.{put_mid, Post-is}
use lib.Seq.{take_all}
use Rattle.matching.specs.Lists.{mem, distinct}
use Rattle.matching.specs.Pairs.{Pair, Points, ι, Each}
use Rattle.matching.specs.Best.{barred, H, pays, best, tie, walk}
use Rattle.matching.specs.Shapes.{last}
use Rattle.matching.proofs.Tests.{eq_test, is_test, or_test, fails}
use Rattle.matching.proofs.Members.{no_mem, mem_on, mem_head, mem_not, mem_cases, mem_apart, mem_past, distinct_cons}
use Rattle.matching.proofs.Upto.{distinct_length}
use Rattle.matching.proofs.Best.{h_nil, h_cons, best_nil, best_cons}
use Rattle.matching.proofs.Path.{Alike, Recurs, h_ext, best_ext, length_walk, walk_each, ring_step}
use Rattle.buffers.specs.Map.{unit}
use Rattle.rows.specs.Row.{row_points, words_of_row, RowOf, two, heavy, paying, standing, path_marks, part_marks}
use Rattle.rows.specs.Row.{unmarked, marked, less, RowBest, out, taking}
use Rattle.rows.proofs.Points.{ApartPath, words_along, two_none, two_path}
use Rattle.rows.proofs.Best.{marked_path, length_marks, no_marks}

-- ---- a first or last pair that may not be taken

-- the same points and the same best
abbrev Same : Points → List ℕ → List Pair → List ℕ → List Pair → Type 0
Same w off es on fs = (H w off es ≡ H w on fs) × (best tie w off es ≡ best tie w on fs)

same : {A B : Type 0} {a b c : A} {x y z : B} → (a ≡ b) × (x ≡ y) → (b ≡ c) × (y ≡ z) → (a ≡ c) × (x ≡ z)
same p q = (p.0 ∙ q.0, p.1 ∙ q.1)

barred_pair : (w : Points) (off : List ℕ) (e : Pair) (es : List Pair) → barred off e ≡ true → Same w off (e ∷ es) off es
barred_pair w off e es m = (h_cons w off e es ∙ rw m, best_cons tie w off e es ∙ rw m)

barred_first : (w : Points) (off : List ℕ) (e : Pair) (es : List Pair) → mem e.0 off ≡ true
    → Same w off (e ∷ es) off es
barred_first w off e es m = barred_pair w off e es (rw m)

alike : (w : Points) (es : List Pair) (off on : List ℕ) → Alike off on es → Same w off es on es
alike w es off on a = (h_ext w es off on a, best_ext tie w es off on a)

or-true : (t : Bool) → (t || true) ≡ true
or-true true = refl
or-true false = refl

-- the first pair is barred, and its cell u stands in no other
less_first : (w : Points) (u c : ℕ) (cs : List ℕ) (v : ℕ) (off : List ℕ) → u ≢ v → mem u (c ∷ cs) ≡ false
    → Same w (u ∷ off) (walk u (c ∷ cs) v) off (walk c cs v)
less_first w u c cs v off n f =
    same (barred_first w (u ∷ off) (u, c) (walk c cs v) (mem_head u u off refl))
    (alike w (walk c cs v) (u ∷ off) off
    (walk_each (λ x. mem x (u ∷ off) ≡ mem x off) cs c v (past c (mem_not u c cs f).0) (past v (λ e. n (sym e)))
    (λ x m. past x (λ e. mem_apart x u cs m (mem_not u c cs f).1 e))))
  where
    past : (x : ℕ) → x ≢ u → mem x (u ∷ off) ≡ mem x off
    past x q = mem_past x u off (λ e. q (sym e))

-- the inner cells but the last
abbrev pub front : List ℕ → List ℕ
front [] = []
front (c ∷ []) = []
front (c ∷ d ∷ cs) = c ∷ front (d ∷ cs)

walk_last : (u c : ℕ) (cs : List ℕ) (v : ℕ)
    → walk u (c ∷ cs) v ≡ walk u (front (c ∷ cs)) (last c cs) ++ ((last c cs, v) ∷ [])
walk_last u c [] v = refl
walk_last u c (d ∷ cs) v = ap (λ es. (u, c) ∷ es) (walk_last c d cs v)

off_last : (w : Points) (off : List ℕ) (es : List Pair) (x v : ℕ) → mem v off ≡ true
    → Same w off (es ++ ((x, v) ∷ [])) off es
off_last w off [] x v m = barred_pair w off (x, v) [] (rw m (or-true (mem x off)))
off_last w off (e ∷ es) x v m =
    let i = off_last w off es x v m in
    let k = off_last w (e.0 ∷ e.1 ∷ off) es x v (mem_on v e.0 (e.1 ∷ off) (mem_on v e.1 off m)) in (
      h_cons w off e (es ++ ((x, v) ∷ [])) ∙ rw (i.0, k.0) (sym (h_cons w off e es)),
      best_cons tie w off e (es ++ ((x, v) ∷ [])) ∙ rw (i.0, k.0, i.1, k.1) (sym (best_cons tie w off e es)),
    )

-- the cells of a row but the last are among them
mem_front : (x : ℕ) (cs : List ℕ) → mem x (front cs) ≡ true → mem x cs ≡ true
mem_front x [] h = h
mem_front x (c ∷ []) h = no_mem x h
mem_front x (c ∷ d ∷ cs) h = go (mem_cases x c (front (d ∷ cs)) h) (mem_front x (d ∷ cs))
  where
    go : (c ≡ x) ⊎ (mem x (front (d ∷ cs)) ≡ true) → (mem x (front (d ∷ cs)) ≡ true → mem x (d ∷ cs) ≡ true)
        → mem x (c ∷ d ∷ cs) ≡ true
    go (inl e) i = mem_head x c (d ∷ cs) e
    go (inr m) i = mem_on x c (d ∷ cs) (i m)

mem_last : (c : ℕ) (cs : List ℕ) → mem (last c cs) (c ∷ cs) ≡ true
mem_last c [] = mem_head c c [] refl
mem_last c (d ∷ cs) = mem_on (last d cs) c (d ∷ cs) (mem_last d cs)

-- the last pair is barred, and its cell v stands in no other
less_last : (w : Points) (u c : ℕ) (cs : List ℕ) (v : ℕ) (off : List ℕ) → u ≢ v → mem v (c ∷ cs) ≡ false
    → Same w (v ∷ off) (walk u (c ∷ cs) v) off (walk u (front (c ∷ cs)) (last c cs))
less_last w u c cs v off n f =
    let es = walk u (front (c ∷ cs)) (last c cs) in
    let o = off_last w (v ∷ off) es (last c cs) v (mem_head v v off refl) in
    same (ap (H w (v ∷ off)) (walk_last u c cs v) ∙ o.0, ap (best tie w (v ∷ off)) (walk_last u c cs v) ∙ o.1)
    (alike w es (v ∷ off) off
    (walk_each (λ x. mem x (v ∷ off) ≡ mem x off) (front (c ∷ cs)) u (last c cs) (past u n)
    (past (last c cs) (inside (last c cs) (mem_last c cs)))
    (λ x m. past x (inside x (mem_front x (c ∷ cs) m)))))
  where
    past : (x : ℕ) → x ≢ v → mem x (v ∷ off) ≡ mem x off
    past x q = mem_past x v off (λ e. q (sym e))

    inside : (x : ℕ) → mem x (c ∷ cs) ≡ true → x ≢ v
    inside x m = mem_apart x v (c ∷ cs) m f

-- the path up to the last inner cell
apart_front : (u c : ℕ) (cs : List ℕ) → distinct (c ∷ cs) ≡ true → mem u (c ∷ cs) ≡ false
    → ApartPath u (front (c ∷ cs)) (last c cs)
apart_front u c [] d f = record {
  ends = λ e. (mem_not u c [] f).0 (sym e);
  apart = refl;
  first_off = refl;
  last_off = refl;
}
apart_front u c (x ∷ cs) d f =
    let dc = distinct_cons c (x ∷ cs) d in
    let fc = mem_not u c (x ∷ cs) f in
    let i = apart_front c x cs dc.1 dc.0 in
    record {
      ends = λ e. mem_apart (last x cs) u (x ∷ cs) (mem_last x cs) fc.1 (sym e);
      apart = rw i.first_off i.apart;
      first_off = off u fc.0 (λ h. mem_front u (x ∷ cs) h) fc.1;
      last_off = rw i.last_off (ne (last x cs) c i.ends);
    }
  where
    ne : (a b : ℕ) → b ≢ a → (eqb b a || false) ≡ false
    ne a b n = rw (ne_eqb b a n)

    off : (y : ℕ) → c ≢ y → (mem y (front (x ∷ cs)) ≡ true → mem y (x ∷ cs) ≡ true) → mem y (x ∷ cs) ≡ false
        → mem y (c ∷ front (x ∷ cs)) ≡ false
    off y n h k = fails (or_test (eq_test c y) (is_test (mem y (front (x ∷ cs))))) no
      where
        no : (c ≡ y) ⊎ (mem y (front (x ∷ cs)) ≡ true) → ⊥
        no (inl e) = n e
        no (inr m) = mem_apart y y (x ∷ cs) (h m) k refl

-- ---- parts of the words

pub length_row : (w : Points) (u : ℕ) (cs : List ℕ) (v : ℕ) → length (words_of_row w u cs v) ≡ suc (length cs)
length_row w u [] v = refl
length_row w u (c ∷ cs) v = ap suc (length_row w c cs v)

-- no more words than cells
pub row_few : (n u : ℕ) (inner : List ℕ) → distinct inner ≡ true → mem u inner ≡ false → u < n
    → ((c : ℕ) → mem c inner ≡ true → c < n) → suc (length inner) ≤ n
row_few n u inner d off l low =
    distinct_length n (u ∷ inner) (rw (off, d)) (λ c m. go c (mem_cases c u inner m))
  where
    go : (c : ℕ) → (u ≡ c) ⊎ (mem c inner ≡ true) → c < n
    go c (inl e) = omega arith
    go c (inr m) = low c m

words_front : (w : Points) (u c : ℕ) (cs : List ℕ) (v : ℕ)
    → take (suc (length cs)) (words_of_row w u (c ∷ cs) v) ≡ words_of_row w u (front (c ∷ cs)) (last c cs)
words_front w u c [] v = refl
words_front w u c (d ∷ cs) v = ap (λ ws. (u * unit + w u c) ∷ ws) (words_front w c d cs v)

each_left : (P : ℕ → ℕ → Type 0) (m k : List Pair) → Each P (m ++ k) → Each P m
each_left P [] k p = tt
each_left P (e ∷ m) k p = (p.0, each_left P m k p.1)

abbrev FitsWords : Points → List Pair → Type 0
FitsWords w es = Each (λ a b. w a b < unit) es

fits_front : (w : Points) (u c : ℕ) (cs : List ℕ) (v : ℕ) → FitsWords w (walk u (c ∷ cs) v)
    → FitsWords w (walk u (front (c ∷ cs)) (last c cs))
fits_front w u c cs v h =
    each_left (λ a b. w a b < unit) (walk u (front (c ∷ cs)) (last c cs)) ((last c cs, v) ∷ [])
    (subst (λ es. Each (λ a b. w a b < unit) es) (walk_last u c cs v) h)

-- the marks of a part and then k unmarked pairs
marked_unmarked : (ms : List ℕ) (k : ℕ) (es : List Pair) → marked (ms ++ unmarked k) es ≡ marked ms es
marked_unmarked [] zero es = refl
marked_unmarked [] (suc k) [] = refl
marked_unmarked [] (suc k) (e ∷ es) = marked_unmarked [] k es
marked_unmarked (m ∷ ms) k [] = refl
marked_unmarked (m ∷ ms) k (e ∷ es) = rw (marked_unmarked ms k es)

marked_front : (ms : List ℕ) (es fs : List Pair) → length ms ≤ length es → marked ms (es ++ fs) ≡ marked ms es
marked_front [] es fs h = refl
marked_front (m ∷ ms) [] fs h = absurd (omega (arith, h))
marked_front (m ∷ ms) (e ∷ es) fs h = rw (marked_front ms es fs (omega (arith, h)))

-- Words that are a part of a row, behind a of its pairs and before k: the points of the part and its marks are those of
-- the best of `all` with the cells off kept free.
abbrev Is : Points → List ℕ → ℕ → ℕ → List ℕ → List Pair → Type 0
Is w ws a k off all =
    (heavy ws ≡ H w off all) × (marked (unmarked a ++ (path_marks ws ++ unmarked k)) all ≡ best tie w off all)

within : {A B : Type 0} {a b c : A} {x y z : B} → (a ≡ b) × (x ≡ y) → (c ≡ b) × (z ≡ y) → (a ≡ c) × (x ≡ z)
within p q = same p (sym q.0, sym q.1)

path : (w : Points) (a : ℕ) (cs : List ℕ) (b : ℕ) {ws : List ℕ} → ws ≡ words_of_row w a cs b → FitsWords w (walk a cs b)
    → ApartPath a cs b → Is w ws 0 0 [] (walk a cs b)
path w a cs b {ws} e h p =
    let q = ap (map row_points) e ∙ words_along w a cs b h in (
      ap (λ ps. (two ps).0) q ∙ (two_path w a cs b p).0,
      marked_unmarked (path_marks ws) 0 (walk a cs b)
          ∙ ap (λ ps. marked (standing 0 (paying ps)) (walk a cs b)) q
          ∙ marked_path w a cs b p,
    )

-- the row but its last pair, which leaves v free
ended : (w : Points) (u c : ℕ) (cs : List ℕ) (v : ℕ) {ws : List ℕ}
    → ws ≡ take (suc (length cs)) (words_of_row w u (c ∷ cs) v) → FitsWords w (walk u (c ∷ cs) v)
    → distinct (c ∷ cs) ≡ true → mem u (c ∷ cs) ≡ false → u ≢ v → mem v (c ∷ cs) ≡ false
    → Is w ws 0 1 (v ∷ []) (walk u (c ∷ cs) v)
ended w u c cs v {ws} e h d f n g =
    let es = walk u (front (c ∷ cs)) (last c cs) in
    let q = e ∙ words_front w u c cs v in
    let p = path w u (front (c ∷ cs)) (last c cs) q (fits_front w u c cs v h) (apart_front u c cs d f) in
    let l : length (path_marks ws) ≤ length es =
    omega (
      arith,
      length_marks ws,
      ap length q,
      length_row w u (front (c ∷ cs)) (last c cs),
      length_walk u (front (c ∷ cs)) (last c cs),
    ) in
    within (
      p.0,
      ap (marked (path_marks ws ++ unmarked 1)) (walk_last u c cs v)
          ∙ marked_unmarked (path_marks ws) 1 (es ++ ((last c cs, v) ∷ []))
          ∙ marked_front (path_marks ws) es ((last c cs, v) ∷ []) l
          ∙ sym (marked_unmarked (path_marks ws) 0 es)
          ∙ p.1,
    )
    (less_last w u c cs v [] n g)

-- ---- chains and rings

module _ (w : Points) (u c d : ℕ) (cs : List ℕ) (v : ℕ) (h : FitsWords w (walk u (c ∷ d ∷ cs) v))
    (apart : distinct (c ∷ d ∷ cs) ≡ true) (uf : mem u (c ∷ d ∷ cs) ≡ false) (vf : mem v (c ∷ d ∷ cs) ≡ false) where
  abbrev row : List ℕ
  row = words_of_row w u (c ∷ d ∷ cs) v

  abbrev all : List Pair
  all = walk u (c ∷ d ∷ cs) v

  -- the row without its first and last pair, and without its first
  inner_part : {ws : List ℕ} → ws ≡ take (suc (length cs)) (drop 1 row) → Is w ws 0 1 (v ∷ []) (walk c (d ∷ cs) v)
  inner_part e =
      let dc = distinct_cons c (d ∷ cs) apart in
      let n = mem_not v c (d ∷ cs) vf in
      ended w c d cs v e h.1 dc.1 dc.0 n.0 n.1

  rest_part : {ws : List ℕ} → ws ≡ drop 1 row → Is w ws 0 0 [] (walk c (d ∷ cs) v)
  rest_part e =
      let dc = distinct_cons c (d ∷ cs) apart in
      let n = mem_not v c (d ∷ cs) vf in
      path w c (d ∷ cs) v e h.1 (record { ends = n.0; apart = dc.1; first_off = dc.0; last_off = n.1 })

  module _ (ends : u ≢ v) where
    pub chain_whole : {ws : List ℕ} → ws ≡ row → Is w ws 0 0 [] all
    chain_whole e =
        path w u (c ∷ d ∷ cs) v e h (record { ends = ends; apart = apart; first_off = uf; last_off = vf })

    pub chain_less_u : {ws : List ℕ} → ws ≡ drop 1 row → Is w ws 1 0 (u ∷ []) all
    chain_less_u e = within (rest_part e) (less_first w u c (d ∷ cs) v [] ends uf)

    pub chain_less_v : {ws : List ℕ} → ws ≡ take (suc (suc (length cs))) row → Is w ws 0 1 (v ∷ []) all
    chain_less_v e = ended w u c (d ∷ cs) v e h apart uf ends vf

    pub chain_inner : {ws : List ℕ} → ws ≡ take (suc (length cs)) (drop 1 row) → Is w ws 1 1 (u ∷ v ∷ []) all
    chain_inner e = within (inner_part e) (less_first w u c (d ∷ cs) v (v ∷ []) ends uf)

-- a ring: v is u
module _ (w : Points) (u c d : ℕ) (cs : List ℕ) (h : FitsWords w (walk u (c ∷ d ∷ cs) u))
    (apart : distinct (c ∷ d ∷ cs) ≡ true) (uf : mem u (c ∷ d ∷ cs) ≡ false) where
  abbrev ring : List ℕ
  ring = words_of_row w u (c ∷ d ∷ cs) u

  pub ring_less_u : {ws : List ℕ} → ws ≡ take (suc (length cs)) (drop 1 ring)
      → Is w ws 1 1 (u ∷ []) (walk u (c ∷ d ∷ cs) u)
  ring_less_u e =
      within (inner_part w u c d cs u h apart uf uf e)
      (barred_first w (u ∷ []) (u, c) (walk c (d ∷ cs) u) (mem_head u u [] refl))

  -- with the first pair taken: what is left beside it
  beside : {ws : List ℕ} → ws ≡ take (length cs) (drop 2 ring) → Is w ws 0 1 (u ∷ []) (walk d cs u)
  beside e = go cs (distinct_cons c (d ∷ cs) apart).1 (mem_not u c (d ∷ cs) uf).1 h.1.1 e
    where
      go : (cs : List ℕ) → distinct (d ∷ cs) ≡ true → mem u (d ∷ cs) ≡ false → FitsWords w (walk d cs u) → {ws : List ℕ}
          → ws ≡ take (length cs) (words_of_row w d cs u) → Is w ws 0 1 (u ∷ []) (walk d cs u)
      go [] p f k e =
          within (
            ap heavy e ∙ two_none.0 ∙ sym (h_nil w (u ∷ [])),
            ap (λ ws. marked (path_marks ws ++ unmarked 1) ((d, u) ∷ [])) e
                ∙ ap (λ ms. marked (ms ++ unmarked 1) ((d, u) ∷ [])) no_marks
                ∙ sym (best_nil tie w (u ∷ [])),
          )
          (off_last w (u ∷ []) [] d u (mem_head u u [] refl))
      go (x ∷ xs) p f k e =
          let n = mem_not u d (x ∷ xs) f in
          let q = distinct_cons d (x ∷ xs) p in
          ended w d x xs u e k q.1 q.0 n.0 n.1

  -- by the first pair, left out or taken
  steps : Recurs tie w [] (u ∷ []) u c d cs u
  steps = ring_step [] u c d cs fresh tie w
    where
      fresh : (x : ℕ) → (mem x (d ∷ cs) ≡ true) ⊎ (u ≡ x) → c ≢ x
      fresh x (inl m) e = mem_apart x c (d ∷ cs) m (distinct_cons c (d ∷ cs) apart).0 (sym e)
      fresh x (inr q) e = (mem_not u c (d ∷ cs) uf).0 (e ∙ sym q)

  module _ (p : ℕ) {xs ys : List ℕ} (e : p ≡ w u c) (x : xs ≡ drop 1 ring)
      (y : ys ≡ take (length cs) (drop 2 ring)) where
    pub ring_whole : max (heavy xs) (p + heavy ys) ≡ H w [] (walk u (c ∷ d ∷ cs) u)
    ring_whole = rw (e, (rest_part w u c d cs u h apart uf uf x).0, (beside y).0) (sym steps.1)

    -- the first pair pays or not, by the points of the parts
    abbrev marks : Bool → List ℕ
    marks t = cond t (1 ∷ 0 ∷ (path_marks ys ++ unmarked 1)) (0 ∷ (path_marks xs ++ unmarked 0))

    abbrev bests : Bool → List Pair
    bests t = cond t ((u, c) ∷ best tie w (u ∷ []) (walk d cs u)) (best tie w [] (walk c (d ∷ cs) u))

    pub ring_marks : (t : Bool) → t ≡ pays tie (heavy xs) (p + heavy ys)
        → marked (marks t) (walk u (c ∷ d ∷ cs) u) ≡ best tie w [] (walk u (c ∷ d ∷ cs) u)
    ring_marks t q = go t ∙ sym (steps.0 ∙ ap bests (sym (q ∙ ap₂ (pays tie) rest.0 (ap₂ ◌+◌ e (beside y).0))))
      where
        rest : Is w xs 0 0 [] (walk c (d ∷ cs) u)
        rest = rest_part w u c d cs u h apart uf uf x

        go : (t : Bool) → marked (marks t) (walk u (c ∷ d ∷ cs) u) ≡ bests t
        go true = ap (λ es. (u, c) ∷ es) (beside y).1
        go false = rest.1

-- ---- what the functions answer

take_unmarked : (a n : ℕ) → a ≤ n → take a (unmarked n) ≡ unmarked a
take_unmarked zero n h = refl
take_unmarked (suc a) zero h = absurd (omega (arith, h))
take_unmarked (suc a) (suc n) h = ap (λ xs. 0 ∷ xs) (take_unmarked a n (omega (arith, h)))

drop_unmarked : (a n : ℕ) → drop a (unmarked n) ≡ unmarked (n - a)
drop_unmarked zero n = ap unmarked {x = n} {y = n - 0} (omega arith)
drop_unmarked (suc a) zero = ap unmarked {x = 0} {y = 0 - suc a} (omega arith)
drop_unmarked (suc a) (suc n) = drop_unmarked a n ∙ ap unmarked {x = n - a} {y = suc n - suc a} (omega arith)

-- the marks of a part written among pairs without a mark
pub part_marks_is : (ws ms z : List ℕ) (a e : ℕ) → a ≤ e → e ≤ length ws → z ≡ unmarked (length ws)
    → ms ≡ path_marks (take (e - a) (drop a ws)) → put_mid a (e - a) z ms ≡ part_marks a e ws
part_marks_is ws ms z a e h k q m =
    rw (
      q,
      m,
      Post-is a e (unmarked (length ws)) h,
      take_unmarked a (length ws) (omega arith),
      drop_unmarked e
          (length ws),
    )

module _ (ws : List ℕ) (w : Points) (u : ℕ) where
  -- the parts of the words, by those of the row
  long : (inner : List ℕ) (v : ℕ) → ws ≡ words_of_row w u inner v → length ws ≡ suc (length inner)
  long inner v e = ap length e ∙ length_row w u inner v

  part_is : (a i b k : ℕ) (row : List ℕ) → ws ≡ row → a ≡ b → i ≡ k → take i (drop a ws) ≡ take k (drop b row)
  part_is a i b k row e p q = rw (e, p, q)

  rest_is : (a i b : ℕ) (row : List ℕ) → ws ≡ row → a ≡ b → i ≡ length ws - b → take i (drop a ws) ≡ drop b row
  rest_is a i b row e p q =
      take_all i (drop a ws) (omega (arith, length-drop a ws, p)) ∙ ap₂ drop p e

  abbrev Chain : List ℕ → ℕ → Type 0
  Chain inner v =
      (heavy ws ≡ H w [] (walk u inner v))
      × (heavy (take (length ws - 1) (drop 1 ws)) ≡ H w (u ∷ []) (walk u inner v))
      × (heavy (take (length ws - 1 - 0) (drop 0 ws)) ≡ H w (v ∷ []) (walk u inner v))
      × (heavy (take (length ws - 1 - 1) (drop 1 ws)) ≡ H w (u ∷ v ∷ []) (walk u inner v))

  pub chain_h : (inner : List ℕ) (v : ℕ) → RowOf w u inner v ws → u ≢ v → Chain inner v
  chain_h [] v r n = absurd (omega (arith, r.more))
  chain_h (c ∷ []) v r n = absurd (omega (arith, r.more))
  chain_h (c ∷ d ∷ cs) v r n =
      let row = words_of_row w u (c ∷ d ∷ cs) v in
      let l = long (c ∷ d ∷ cs) v r.words in
      let f = r.fits in (
        (chain_whole w u c d cs v f r.apart r.first_off r.last_off n r.words).0,
        (chain_less_u w u c d cs v f r.apart r.first_off r.last_off n
            (rest_is 1 (length ws - 1) 1 row r.words refl refl)
            ).0,
        (chain_less_v w u c d cs v f r.apart r.first_off r.last_off n
            (part_is 0 (length ws - 1 - 0) 0 (suc (suc (length cs))) row r.words refl (omega arith))
            ).0,
        (chain_inner w u c d cs v f r.apart r.first_off r.last_off n
            (part_is 1 (length ws - 1 - 1) 1 (suc (length cs)) row r.words refl (omega arith))
            ).0,
      )

  -- a part's marks are those that stand in `Is`
  placed : (a e b k : ℕ) (off : List ℕ) (es : List Pair) → Is w (take (e - a) (drop a ws)) b k off es → a ≡ b
      → length ws - e ≡ k → marked (part_marks a e ws) es ≡ best tie w off es
  placed a e b k off es p q r =
      ap₂ (λ i j. marked (unmarked i ++ (path_marks (take (e - a) (drop a ws)) ++ unmarked j)) es) q r ∙ p.1

  pub chain_marks : (inner : List ℕ) (v : ℕ) → RowOf w u inner v ws → u ≢ v → (s t : Bool) (a e : ℕ) → a ≡ ι s
      → e ≡ length ws - ι t → RowBest w (less s u ++ less t v) u inner v (part_marks a e ws)
  chain_marks [] v r n s t a e p q = absurd (omega (arith, r.more))
  chain_marks (c ∷ []) v r n s t a e p q = absurd (omega (arith, r.more))
  chain_marks (c ∷ d ∷ cs) v r n s t a e p q = go s t a e p q
    where
      row : List ℕ
      row = words_of_row w u (c ∷ d ∷ cs) v

      all : List Pair
      all = walk u (c ∷ d ∷ cs) v

      l : length ws ≡ suc (suc (suc (length cs)))
      l = long (c ∷ d ∷ cs) v r.words

      go : (s t : Bool) (a e : ℕ) → a ≡ ι s → e ≡ length ws - ι t
          → RowBest w (less s u ++ less t v) u (c ∷ d ∷ cs) v (part_marks a e ws)
      go false false a e p q =
          placed a e 0 0 [] all
          (chain_whole w u c d cs v r.fits r.apart r.first_off r.last_off n
          (rest_is a (e - a) 0 row r.words p (omega (arith, p, q)))) p (omega (arith, q))
      go true false a e p q =
          placed a e 1 0 (u ∷ []) all
          (chain_less_u w u c d cs v r.fits r.apart r.first_off r.last_off n
          (rest_is a (e - a) 1 row r.words p (omega (arith, p, q)))) p (omega (arith, q))
      go false true a e p q =
          placed a e 0 1 (v ∷ []) all
          (chain_less_v w u c d cs v r.fits r.apart r.first_off r.last_off n
          (part_is a (e - a) 0 (suc (suc (length cs))) row r.words p (omega (arith, p, q, l)))) p
          (omega (arith, q, l))
      go true true a e p q =
          placed a e 1 1 (u ∷ v ∷ []) all
          (chain_inner w u c d cs v r.fits r.apart r.first_off r.last_off n
          (part_is a (e - a) 1 (suc (length cs)) row r.words p (omega (arith, p, q, l)))) p
          (omega (arith, q, l))

  abbrev Ring : List ℕ → Type 0
  Ring inner =
      (max (out ws) (taking ws) ≡ H w [] (walk u inner u))
      × (heavy (take (length ws - 1 - 1) (drop 1 ws)) ≡ H w (u ∷ []) (walk u inner u))

  first_points : (c d : ℕ) (cs : List ℕ) → RowOf w u (c ∷ d ∷ cs) u ws → row_points (get_or ws 0 0) ≡ w u c
  first_points c d cs r = ap (λ xs. row_points (get_or xs 0 0)) r.words ∙ omega (arith, r.fits.0)

  pub ring_h : (inner : List ℕ) → RowOf w u inner u ws → Ring inner
  ring_h [] r = absurd (omega (arith, r.more))
  ring_h (c ∷ []) r = absurd (omega (arith, r.more))
  ring_h (c ∷ d ∷ cs) r =
      let row = words_of_row w u (c ∷ d ∷ cs) u in
      let l = long (c ∷ d ∷ cs) u r.words in (
        ring_whole w u c d cs r.fits r.apart r.first_off (row_points (get_or ws 0 0)) (first_points c d cs r)
            (rest_is 1 (length ws - 1) 1 row r.words refl refl)
            (part_is 2 (length ws - 1 - 2) 2 (length cs) row r.words refl (omega arith)),
        (ring_less_u w u c d cs r.fits r.apart r.first_off
            (part_is 1 (length ws - 1 - 1) 1 (suc (length cs)) row r.words refl (omega arith))
            ).0,
      )

  -- the marks of a ring less u, of a ring whose first pair does not pay, and of one whose first pair pays
  pub ring_less : (inner : List ℕ) → RowOf w u inner u ws → (e : ℕ) → e ≡ length ws - 1
      → RowBest w (u ∷ []) u inner u (part_marks 1 e ws)
  ring_less [] r e q = absurd (omega (arith, r.more))
  ring_less (c ∷ []) r e q = absurd (omega (arith, r.more))
  ring_less (c ∷ d ∷ cs) r e q =
      let l = long (c ∷ d ∷ cs) u r.words in
      placed 1 e 1 1 (u ∷ []) (walk u (c ∷ d ∷ cs) u)
      (ring_less_u w u c d cs r.fits r.apart r.first_off
      (part_is 1 (e - 1) 1 (suc (length cs)) (words_of_row w u (c ∷ d ∷ cs) u) r.words refl (omega (arith, q)))) refl
      (omega (arith, q))

  taken : (c d : ℕ) (cs : List ℕ) → RowOf w u (c ∷ d ∷ cs) u ws → (t : Bool) → t ≡ pays tie (out ws) (taking ws)
      → marked (cond t (1 ∷ 0 ∷ (path_marks (take (length ws - 1 - 2) (drop 2 ws)) ++ unmarked 1))
      (0 ∷ (path_marks (take (length ws - 1) (drop 1 ws)) ++ unmarked 0))) (walk u (c ∷ d ∷ cs) u)
      ≡ best tie w [] (walk u (c ∷ d ∷ cs) u)
  taken c d cs r =
      let row = words_of_row w u (c ∷ d ∷ cs) u in
      let l = long (c ∷ d ∷ cs) u r.words in
      ring_marks w u c d cs r.fits r.apart r.first_off (row_points (get_or ws 0 0)) (first_points c d cs r)
      (rest_is 1 (length ws - 1) 1 row r.words refl refl)
      (part_is 2 (length ws - 1 - 2) 2 (length cs) row r.words refl (omega arith))

  pub ring_out : (inner : List ℕ) → RowOf w u inner u ws → (e : ℕ) → e ≡ length ws
      → pays tie (out ws) (taking ws) ≡ false → RowBest w [] u inner u (part_marks 1 e ws)
  ring_out [] r e q p = absurd (omega (arith, r.more))
  ring_out (c ∷ []) r e q p = absurd (omega (arith, r.more))
  ring_out (c ∷ d ∷ cs) r e q p =
      let i : e - 1 ≡ length ws - 1 = omega (arith, q) in
      let j : length ws - e ≡ 0 = omega (arith, q) in
      ap₂ (λ i j. marked (0 ∷ (path_marks (take i (drop 1 ws)) ++ unmarked j)) (walk u (c ∷ d ∷ cs) u)) i j
      ∙ taken c d cs r false (sym p)

  pub ring_in : (inner : List ℕ) → RowOf w u inner u ws → (e : ℕ) → e ≡ length ws - 1
      → pays tie (out ws) (taking ws) ≡ true → RowBest w [] u inner u (set (part_marks 2 e ws) 0 1)
  ring_in [] r e q p = absurd (omega (arith, r.more))
  ring_in (c ∷ []) r e q p = absurd (omega (arith, r.more))
  ring_in (c ∷ d ∷ cs) r e q p =
      let l = long (c ∷ d ∷ cs) u r.words in
      let i : e - 2 ≡ length ws - 1 - 2 = omega (arith, q) in
      let j : length ws - e ≡ 1 = omega (arith, q) in
      ap₂ (λ i j. marked (1 ∷ 0 ∷ (path_marks (take i (drop 2 ws)) ++ unmarked j)) (walk u (c ∷ d ∷ cs) u)) i j
      ∙ taken c d cs r true (sym p)
