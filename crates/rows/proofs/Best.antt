-- The marks of a path are its best (`marked_path`), by the recurrence of `Path` in crate matching; before it what marks
-- and the pairs they mark become with one more pair, after it the two loops that write the marks.
use Prim.Native.Nat.{ℕ, suc, ◌+◌, ◌≤◌, ◌<◌}
use mathlib.Core.Path.{◌≡◌, refl, sym, ap, ap₂, ◌∙◌}
use mathlib.Core.Bool.{Bool, true, false, cond}
use mathlib.Core.List.{List, [], ◌∷◌, ◌++◌, map, append_assoc, append-nil}
use native.Mathlib.Omega.{arith}
use native.Mathlib.Numerals.{add-one}
use borrow.Author.Tests.{lt-ltb, le-ltb}
use lib.Dec.{eqb, leb}
use mir.Val.{bool_byte}
use lib.ListN.{length, take, drop, get_or, set, length-map}
use lib.Seq.{drop-length, drop-cons, drop-set-lt, take_all, take-suc-set}
use Rattle.matching.specs.Pairs.{Points, ι}
use Rattle.matching.specs.Best.{H, pays, best, tie, walk}
use Rattle.matching.proofs.Members.{mem_on, mem_head}
use Rattle.matching.proofs.Best.{h_nil, best_nil, best_cons}
use Rattle.matching.proofs.Path.{path_step}
use Rattle.rows.specs.Row.{row_points, two, paying, standing, path_marks, marked, WaysBefore}
use Rattle.rows.specs.declared.Ways.{Ways}
use Rattle.rows.proofs.Points.{along, ApartPath, apart_next, fresh, second_barred, two_none, two_path}
use Rattle.rows.proofs.Points.{WaysOf, ways_none, ways_more}
use Rattle.std.proofs.lemmas.Bool.Decides.{nat_tests}
use Rattle.std.proofs.lemmas.List.{drop-set}

paying_cons : (p : ℕ) (ps : List ℕ) → paying (p ∷ ps) ≡ ι (pays tie (two ps).0 (p + (two ps).1)) ∷ paying ps
unfolding paying
paying_cons p ps = refl

paying_nil : paying [] ≡ []
unfolding paying
paying_nil = refl

standing_nil : (b : ℕ) → standing b [] ≡ []
unfolding standing
standing_nil b = refl

standing_cons : (b m : ℕ) (ms : List ℕ)
    → standing b (m ∷ ms) ≡ cond (eqb b 1) 0 m ∷ standing (cond (eqb b 1) 0 m) ms
unfolding standing
standing_cons b m ms = refl

-- as many marks as words
length_paying : (ps : List ℕ) → length (paying ps) ≡ length ps
length_paying [] = ap length paying_nil
length_paying (p ∷ ps) = ap length (paying_cons p ps) ∙ ap suc (length_paying ps)

length_standing : (b : ℕ) (ms : List ℕ) → length (standing b ms) ≡ length ms
length_standing b [] = ap length (standing_nil b)
length_standing b (m ∷ ms) = ap length (standing_cons b m ms) ∙ ap suc (length_standing (cond (eqb b 1) 0 m) ms)

pub length_marks : (ws : List ℕ) → length (path_marks ws) ≡ length ws
length_marks ws =
    length_standing 0 (paying (map row_points ws)) ∙ length_paying (map row_points ws) ∙ length-map ws row_points

pub no_marks : path_marks [] ≡ []
no_marks = ap (standing 0) paying_nil ∙ standing_nil 0

-- the marks of the pairs of a path
abbrev marks : Points → ℕ → List ℕ → ℕ → List ℕ
marks w u cs v = standing 0 (paying (along w u cs v))

-- a mark that does not pay, and one that pays, which leaves the next unmarked
none_stands : (ms : List ℕ) → standing 0 (0 ∷ ms) ≡ 0 ∷ standing 0 ms
none_stands ms = standing_cons 0 0 ms

one_stands : (q : ℕ) (ps : List ℕ) → standing 0 (1 ∷ paying (q ∷ ps)) ≡ 1 ∷ 0 ∷ standing 0 (paying ps)
one_stands q ps =
    let m = ι (pays tie (two ps).0 (q + (two ps).1)) in
    ap (λ ms. standing 0 (1 ∷ ms)) (paying_cons q ps)
    ∙ standing_cons 0 1 (m ∷ paying ps)
    ∙ ap (λ xs. 1 ∷ xs) (standing_cons 1 m (paying ps))

-- with u, c taken, nothing is left of c's other pair
none_left : (w : Points) (u c v : ℕ) → best tie w (u ∷ c ∷ []) ((c, v) ∷ []) ≡ []
none_left w u c v =
    best_cons tie w (u ∷ c ∷ []) (c, v) []
    ∙ rw (mem_on c u (c ∷ []) (mem_head c c [] refl)) (best_nil tie w (u ∷ c ∷ []))

pub marked_path : (w : Points) (u : ℕ) (cs : List ℕ) (v : ℕ) → ApartPath u cs v
    → marked (marks w u cs v) (walk u cs v) ≡ best tie w [] (walk u cs v)
marked_path w u [] v a =
    rw (
      paying_cons (w u v) [],
      paying_nil,
      two_none.0,
      two_none.1,
      best_cons tie w [] (u, v) [],
      best_nil tie w [],
      best_nil tie w (u ∷ v ∷ []),
      h_nil w [],
      h_nil w (u ∷ v ∷ []),
    )
    (go (pays tie 0 (w u v + 0)))
  where
    go : (t : Bool) → marked (standing 0 (ι t ∷ [])) ((u, v) ∷ []) ≡ cond t ((u, v) ∷ []) []
    go true = rw (standing_cons 0 1 [], standing_nil 1)
    go false = rw (standing_cons 0 0 [], standing_nil 0)
marked_path w u (c ∷ []) v a =
    let i = two_path w c [] v (apart_next u c [] v a) in
    rw (
      paying_cons (w u c) (along w c [] v),
      i.0,
      i.1,
      best_cons tie w [] (u, c) ((c, v) ∷ []),
      second_barred w u c v,
      none_left w u c v,
    )
    (go (pays tie (H w [] ((c, v) ∷ [])) (w u c + 0)) (marked_path w c [] v (apart_next u c [] v a)))
  where
    go : (t : Bool) → marked (marks w c [] v) (walk c [] v) ≡ best tie w [] (walk c [] v)
        → marked (standing 0 (ι t ∷ paying (along w c [] v))) ((u, c) ∷ walk c [] v)
        ≡ cond t ((u, c) ∷ []) (best tie w [] (walk c [] v))
    go true r = rw (one_stands (w c v) [], paying_nil, standing_nil 0)
    go false r = rw (none_stands (paying (along w c [] v))) r
marked_path w u (c ∷ d ∷ cs) v a =
    let n = apart_next u c (d ∷ cs) v a in
    let i = two_path w c (d ∷ cs) v n in
    rw (paying_cons (w u c) (along w c (d ∷ cs) v), i.0, i.1, (path_step [] u c d cs v (fresh u c d cs v a) tie w).0)
    (go (pays tie (H w [] (walk c (d ∷ cs) v)) (w u c + H w [] (walk d cs v))) (marked_path w c (d ∷ cs) v n)
    (marked_path w d cs v (apart_next c d cs v n)))
  where
    go : (t : Bool) → marked (marks w c (d ∷ cs) v) (walk c (d ∷ cs) v) ≡ best tie w [] (walk c (d ∷ cs) v)
        → marked (marks w d cs v) (walk d cs v) ≡ best tie w [] (walk d cs v)
        → marked (standing 0 (ι t ∷ paying (along w c (d ∷ cs) v))) ((u, c) ∷ walk c (d ∷ cs) v)
        ≡ cond t ((u, c) ∷ best tie w [] (walk d cs v)) (best tie w [] (walk c (d ∷ cs) v))
    go true r q = rw (one_stands (w c d) (along w d cs v)) (ap (λ es. (u, c) ∷ es) q)
    go false r q = rw (none_stands (paying (along w c (d ∷ cs) v))) r

-- ---- the loop over the words, from the last on

-- the tie: a pair that brings as much is taken
pub pays_is : (k l : ℕ) → leb k l ≡ pays tie k l
unfolding tie
pays_is k l = grind (arith, nat_tests)

-- its two sides, as marks
pub pays_less : (k l : ℕ) → l < k → 0 ≡ ι (pays tie k l)
unfolding tie
pays_less k l h = rw (lt-ltb l k h)

pub pays_enough : (k l : ℕ) → k ≤ l → 1 ≡ ι (pays tie k l)
unfolding tie
pays_enough k l h = rw (le-ltb l k h)

pub one_if : (t : Bool) → bool_byte t ≡ ι t
one_if true = refl
one_if false = refl

pub marks_none : (ws ms : List ℕ) → length ms ≡ length ws
    → WaysOf (drop (length ws) ws) (record { without = 0; with = 0 })
    × (drop (length ws) ms ≡ paying (map row_points (drop (length ws) ws)))
marks_none ws ms e =
    rw (drop-length ws) (ways_none, sym (ap (λ k. drop k ms) e) ∙ drop-length ms ∙ sym paying_nil)

pub marks_more : (ws ms : List ℕ) (i j m : ℕ) (s r : Ways) → j + 1 ≡ i → j < length ws → length ms ≡ length ws
    → WaysOf (drop i ws) s → WaysBefore s (get_or ws j 0) r → m ≡ bool_byte (pays tie r.without r.with)
    → drop i ms ≡ paying (map row_points (drop i ws))
    → WaysOf (drop j ws) r × (drop j (set ms j m) ≡ paying (map row_points (drop j ws)))
marks_more ws ms i j m s r e h n o b q p =
    let x = get_or ws j 0 in
    let rest = map row_points (drop i ws) in
    let d : drop j ws ≡ x ∷ drop i ws =
    drop-cons ws j 0 h ∙ ap (λ k. x ∷ drop k ws) (sym (add-one j) ∙ e) in
    let head : m ≡ ι (pays tie (two rest).0 (row_points x + (two rest).1)) =
    q ∙ one_if (pays tie r.without r.with)
    ∙ ap₂ (λ k l. ι (pays tie k l)) (b.without ∙ o.best) (b.with ∙ ap (λ k. row_points x + k) o.next) in
    rw d (
      ways_more x (drop i ws) s r o b,
      drop-set ms j m (omega arith) ∙ ap (λ k. m ∷ drop k ms) e ∙ ap₂ ◌∷◌ head p
          ∙ sym (paying_cons (row_points x) rest),
    )

-- ---- the marks that stand, from the first on

pub stand_more : (all ms : List ℕ) (i b t : ℕ) → i < length ms → t ≡ cond (eqb b 1) 0 (get_or ms i 0)
    → standing 0 all ≡ take i ms ++ standing b (drop i ms)
    → standing 0 all ≡ take (i + 1) (set ms i t) ++ standing t (drop (i + 1) (set ms i t))
stand_more all ms i b t h e r =
    let m = get_or ms i 0 in
    let rest = drop (suc i) ms in
    let next : standing b (drop i ms) ≡ t ∷ standing t rest =
    ap (standing b) (drop-cons ms i 0 h)
    ∙ standing_cons b m rest
    ∙ sym (ap (λ x. x ∷ standing x rest) e) in
    r
    ∙ ap (λ xs. take i ms ++ xs) next
    ∙ sym (rw (
      add-one i,
      take-suc-set ms i t h,
      drop-set-lt (suc i) ms i t (omega arith),
      append_assoc (take i ms) (t ∷ []) (standing t rest),
    ))

pub stand_all : (all ms : List ℕ) (i b : ℕ) → i ≡ length ms → standing 0 all ≡ take i ms ++ standing b (drop i ms)
    → ms ≡ standing 0 all
stand_all all ms i b e r =
    sym (r ∙ rw (e, take_all (length ms) ms (omega arith), drop-length ms, standing_nil b, append-nil ms))
