-- Pairs that go from a graph. In order: a pair that goes changes nothing at other cells; a run stays one in a
-- graph that says the same of its cells (`run_same`); the pairs of a list gone (`gone`); the
-- graph without the pairs of a run is the graph without the pairs of its cells (`gone_dropped`). Assumes nothing.
use mathlib.Core.Path.{◌≡◌, refl, sym, ◌∙◌, fun_ext}
use mathlib.Core.Logic.{◌⊎◌, inl, inr, ◌≢◌, ⊎_map}
use mathlib.Core.Bool.{Bool, true, false, cond}
use mathlib.Core.List.{List, [], ◌∷◌}
use Prim.Native.Nat.{ℕ, ◌≤◌, ◌<◌}
use native.Mathlib.Omega.{arith}
use lib.ListN.{length}
use Rattle.matching.specs.Lists.{mem}
use Rattle.matching.specs.Pairs.{Pair, Points, same, like}
use Rattle.matching.specs.Graph.{Graph, put, dropped}
use Rattle.matching.specs.Best.{walk}
use Rattle.matching.specs.Shapes.{first}
use Rattle.matching.proofs.Tests.{Test, pass, fail, lt_test, fails}
use Rattle.matching.proofs.Members.{mem_on, mem_head, clash, Meets, Away, meets_test}
use Rattle.matching.proofs.Pairs.{Same, same_test}
use Rattle.matching.proofs.Sums.{like_turned, like_self, turned_same, In, in_cases, in_turned, no_in}
use Rattle.matching.proofs.Put.{put_else}
use Rattle.matching.proofs.Rows.{Run, run_closed}
use Rattle.slots.proofs.Graphs.{same_is}
use Rattle.slots.proofs.Degrees.{degree_same}

-- ---- one pair

pub put_away : (x y k : ℕ) (w : Points) (c : ℕ) → c ≢ x → c ≢ y → (z : ℕ) → put x y k w c z ≡ w c z
put_away x y k w c nx ny z = put_else x y k w c z (fails (same_test x y c z) off)
  where
    off : Same x y c z → ⊥
    off (inl q) = nx q.0
    off (inr q) = ny q.0

pub put_most : (x y : ℕ) (w : Points) (a b : ℕ) → put x y 0 w a b ≤ w a b
unfolding put
put_most x y w a b = go (same x y a b)
  where
    go : (t : Bool) → cond t 0 (w a b) ≤ w a b
    go true = omega arith
    go false = omega arith

-- ---- graphs that say the same of some cells

abbrev pub Agree : Points → Points → List ℕ → Type 0
Agree w w' cs = (c : ℕ) → mem c cs ≡ true → (x : ℕ) → w' c x ≡ w c x

pub agree_tail : {w w' : Points} (c : ℕ) (cs : List ℕ) → Agree w w' (c ∷ cs) → Agree w w' cs
agree_tail c cs h d m = h d (mem_on d c cs m)

pub run_same : (n : ℕ) (w w' : Points) (p : ℕ) (cs : List ℕ) (v : ℕ) → Agree w w' cs → Run n w p cs v → Run n w' p cs v
run_same n w w' p [] v h r = tt
run_same n w w' p (c ∷ cs) v h r =
    let here = h c (mem_head c c cs refl) in (
      record {
        two = degree_same n w w' c (λ x l. here x) ∙ r.0.two;
        back = omega (arith, here p, r.0.back);
        on = omega (arith, here (first v cs), r.0.on);
        apart = r.0.apart;
      },
      run_same n w w' c cs v (agree_tail c cs h) r.1,
    )

-- ---- the pairs of a list

-- The graph without the pairs of the list.
abbrev pub gone : List Pair → Points → Points
gone [] w = w
gone (e ∷ es) w = gone es (put e.0 e.1 0 w)

gone_most : (es : List Pair) (w : Points) (a b : ℕ) → gone es w a b ≤ w a b
gone_most [] w a b = omega arith
gone_most (e ∷ es) w a b =
    omega (arith, gone_most es (put e.0 e.1 0 w) a b, put_most e.0 e.1 w a b)

put_none : (x y : ℕ) (w : Points) (a b : ℕ) → Same x y a b → put x y 0 w a b ≡ 0
unfolding put
put_none x y w a b s = rw (same_is s)

gone_in : (es : List Pair) (w : Points) (a b : ℕ) → In es a b → gone es w a b ≡ 0
gone_in [] w a b h = no_in a b h
gone_in (e ∷ es) w a b h = go (in_cases e.0 e.1 es a b h) (gone_in es (put e.0 e.1 0 w) a b)
  where
    go : Same e.0 e.1 a b ⊎ In es a b → (In es a b → gone es (put e.0 e.1 0 w) a b ≡ 0)
        → gone es (put e.0 e.1 0 w) a b ≡ 0
    go (inl s) i = omega (arith, gone_most es (put e.0 e.1 0 w) a b, put_none e.0 e.1 w a b s)
    go (inr k) i = i k

gone_out : (es : List Pair) (w : Points) (a b : ℕ) → (In es a b → ⊥) → gone es w a b ≡ w a b
gone_out [] w a b n = refl
gone_out (e ∷ es) w a b n =
    gone_out es (put e.0 e.1 0 w) a b (λ h. n (omega arith))
    ∙ put_else e.0 e.1 0 w a b (fails (same_test e.0 e.1 a b) (λ s. n (omega (arith, here s))))
  where
    here : Same e.0 e.1 a b → like e.0 e.1 a b ≡ 1
    here s =
        turned_same (like e.0 e.1) (like_turned e.0 e.1) e.0 e.1 a b s ∙ like_self e.0 e.1

-- ---- the pairs of a run

same_turn : {x y a b : ℕ} → Same x y a b → Same y x a b
same_turn (inl q) = inr q
same_turn (inr q) = inl q

-- one of two cells is c
touch : {a b c d : ℕ} (cs : List ℕ) → Same c d a b → Meets (c ∷ cs) a b
touch {a} {b} {c} cs (inl q) = inl (mem_head a c cs (sym q.0))
touch {a} {b} {c} cs (inr q) = inr (mem_head b c cs (sym q.1))

walk_from : (c : ℕ) (cs : List ℕ) (v a b : ℕ) → In (walk c cs v) a b → Meets (c ∷ cs) a b
walk_from c [] v a b h = go (in_cases c v [] a b h)
  where
    go : Same c v a b ⊎ In [] a b → Meets (c ∷ []) a b
    go (inl s) = touch [] s
    go (inr k) = no_in a b k
walk_from c (d ∷ ds) v a b h = go (in_cases c d (walk d ds v) a b h) (walk_from d ds v a b)
  where
    go : Same c d a b ⊎ In (walk d ds v) a b → (In (walk d ds v) a b → Meets (d ∷ ds) a b) → Meets (c ∷ d ∷ ds) a b
    go (inl s) i = touch (d ∷ ds) s
    go (inr k) i = ⊎_map (mem_on a c (d ∷ ds)) (mem_on b c (d ∷ ds)) (i k)

walk_meets : (u : ℕ) (cs : List ℕ) (v a b : ℕ) → 0 < length cs → In (walk u cs v) a b → Meets cs a b
walk_meets u [] v a b l h = absurd (omega arith)
walk_meets u (c ∷ cs) v a b l h = go (in_cases u c (walk c cs v) a b h)
  where
    go : Same u c a b ⊎ In (walk c cs v) a b → Meets (c ∷ cs) a b
    go (inl s) = touch cs (same_turn s)
    go (inr k) = walk_from c cs v a b k

pub gone_dropped : {n : ℕ} {w : Points} → Graph n w → (u : ℕ) (cs : List ℕ) (v : ℕ) → 0 < length cs → Run n w u cs v
    → gone (walk u cs v) w ≡ dropped cs w
unfolding dropped
gone_dropped {n} {w} g u cs v l r = fun_ext (λ a. fun_ext (λ b. go a b (meets_test cs a b)))
  where
    at : (a b : ℕ) → Meets cs a b → 0 < w a b → In (walk u cs v) a b
    at a b (inl m) h = run_closed g u cs v r a b m h
    at a b (inr m) h =
        in_turned (walk u cs v) b a (run_closed g u cs v r b a m (omega (arith, g.turned a b)))

    none : (a b : ℕ) → Meets cs a b → {t : Bool} → Test (0 < w a b) (w a b ≤ 0) t → gone (walk u cs v) w a b ≡ 0
    none a b m (pass h) = gone_in (walk u cs v) w a b (at a b m h)
    none a b m (fail z) = omega (arith, gone_most (walk u cs v) w a b)

    out : (a b : ℕ) → Away cs a b → Meets cs a b → ⊥
    out a b o (inl m) = clash m o.0
    out a b o (inr m) = clash m o.1

    go : (a b : ℕ) {t : Bool} → Test (Meets cs a b) (Away cs a b) t → gone (walk u cs v) w a b ≡ cond t 0 (w a b)
    go a b (pass m) = none a b m (lt_test 0 (w a b))
    go a b (fail o) = gone_out (walk u cs v) w a b (λ h. out a b o (walk_meets u cs v a b l h))
