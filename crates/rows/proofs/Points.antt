-- The points of a path, by the points of its pairs, are H. In order: the words of a row and its pairs' points
-- (`along`); a path without and with its first pair (`two_path`); the loop over the words.
use Prim.Native.Nat.{ℕ, ◌+◌, ◌*◌, ◌-◌, ◌<◌, ◌≤◌, max}
use mathlib.Core.Path.{◌≡◌, refl, sym, ap, ap₂, ◌∙◌}
use mathlib.Core.Logic.{◌⊎◌, inl, inr, ◌≢◌}
use mathlib.Core.Bool.{true, false}
use mathlib.Core.List.{List, [], ◌∷◌, ◌++◌, map, append_assoc, append-nil}
use native.Mathlib.Omega.{arith}
use lib.ListN.{length}
use Rattle.std.specs.List.{push}
use Rattle.matching.specs.Lists.{mem, distinct}
use Rattle.matching.specs.Pairs.{Points, Each}
use Rattle.matching.specs.Best.{H, walk}
use Rattle.matching.proofs.Members.{mem_on, mem_head, mem_not, mem_apart, distinct_cons}
use Rattle.matching.proofs.Best.{h_nil, h_cons}
use Rattle.matching.proofs.Path.{path_step}
use Rattle.buffers.specs.Map.{unit}
use Rattle.rows.specs.Row.{row_points, words_of_row, two, WaysBefore}
use Rattle.rows.specs.declared.Ways.{Ways}

-- the points of the pairs of a walk
abbrev pub along : Points → ℕ → List ℕ → ℕ → List ℕ
along w u [] v = w u v ∷ []
along w u (c ∷ cs) v = w u c ∷ along w c cs v

pub words_along : (w : Points) (u : ℕ) (cs : List ℕ) (v : ℕ) → Each (λ a b. w a b < unit) (walk u cs v)
    → map row_points (words_of_row w u cs v) ≡ along w u cs v
words_along w u [] v h = ap (λ x. x ∷ []) (omega (arith, h.0))
words_along w u (c ∷ cs) v h = ap₂ ◌∷◌ (omega (arith, h.0)) (words_along w c cs v h.1)

-- ---- a path

-- no cell of the path stands twice
pub record ApartPath (u : ℕ) (cs : List ℕ) (v : ℕ) : Type 0 where
  pub ends : u ≢ v
  pub apart : distinct cs ≡ true
  pub first_off : mem u cs ≡ false
  pub last_off : mem v cs ≡ false

pub apart_next : (u c : ℕ) (cs : List ℕ) (v : ℕ) → ApartPath u (c ∷ cs) v → ApartPath c cs v
apart_next u c cs v a =
    let d = distinct_cons c cs a.apart in
    let n = mem_not v c cs a.last_off in
    record { ends = n.0; apart = d.1; first_off = d.0; last_off = n.1 }

-- the first two cells stand in no pair from the third on
pub fresh : (u c d : ℕ) (cs : List ℕ) (v : ℕ) → ApartPath u (c ∷ d ∷ cs) v → (x : ℕ)
    → (mem x (d ∷ cs) ≡ true) ⊎ (v ≡ x) → (u ≢ x) × (c ≢ x)
fresh u c d cs v a x (inl m) = (
  (λ e. mem_apart x u (c ∷ d ∷ cs) (mem_on x c (d ∷ cs) m) a.first_off (sym e)),
  (λ e. mem_apart x c (d ∷ cs) m (distinct_cons c (d ∷ cs) a.apart).0 (sym e)),
)
fresh u c d cs v a x (inr e) =
    ((λ q. a.ends (q ∙ sym e)), (λ q. (mem_not v c (d ∷ cs) a.last_off).0 (q ∙ sym e)))

-- the points without the first pair
abbrev pub after : Points → List ℕ → ℕ → ℕ
after w [] v = 0
after w (c ∷ cs) v = H w [] (walk c cs v)

one_pair : (w : Points) (u v : ℕ) → H w [] ((u, v) ∷ []) ≡ max 0 (w u v + 0)
one_pair w u v = h_cons w [] (u, v) [] ∙ rw (h_nil w [], h_nil w (u ∷ v ∷ []))

two_first : (p : ℕ) (ps : List ℕ) → (two (p ∷ ps)).0 ≡ max (two ps).0 (p + (two ps).1)
unfolding two
two_first p ps = refl

two_second : (p : ℕ) (ps : List ℕ) → (two (p ∷ ps)).1 ≡ (two ps).0
unfolding two
two_second p ps = refl

pub two_none : ((two []).0 ≡ 0) × ((two []).1 ≡ 0)
unfolding two
two_none = (refl, refl)

-- with u, c taken, c's other pair is barred
pub second_barred : (w : Points) (u c v : ℕ) → H w (u ∷ c ∷ []) ((c, v) ∷ []) ≡ 0
second_barred w u c v =
    h_cons w (u ∷ c ∷ []) (c, v) [] ∙ rw (mem_on c u (c ∷ []) (mem_head c c [] refl)) (h_nil w (u ∷ c ∷ []))

pub two_path : (w : Points) (u : ℕ) (cs : List ℕ) (v : ℕ) → ApartPath u cs v
    → ((two (along w u cs v)).0 ≡ H w [] (walk u cs v)) × ((two (along w u cs v)).1 ≡ after w cs v)
two_path w u [] v a = (
  two_first (w u v) [] ∙ rw (two_none.0, two_none.1) (sym (one_pair w u v)),
  two_second (w u v) [] ∙ two_none.0,
)
two_path w u (c ∷ []) v a =
    let i = two_path w c [] v (apart_next u c [] v a) in (
      two_first (w u c) (along w c [] v)
          ∙ rw (i.0, i.1) (sym (h_cons w [] (u, c) ((c, v) ∷ []) ∙ rw (second_barred w u c v))),
      two_second (w u c) (along w c [] v) ∙ i.0,
    )
two_path w u (c ∷ d ∷ cs) v a =
    let i = two_path w c (d ∷ cs) v (apart_next u c (d ∷ cs) v a) in (
      two_first (w u c) (along w c (d ∷ cs) v)
          ∙ rw (i.0, i.1) (sym (path_step [] u c d cs v (fresh u c d cs v a) false w).1),
      two_second (w u c) (along w c (d ∷ cs) v) ∙ i.0,
    )

-- ---- the loop over the words, from the last on

-- The points of a path of these words, without its first pair and with it: no pairs, and one more pair.
pub record WaysOf (ws : List ℕ) (s : Ways) : Type 0 where
  pub best : max s.without s.with ≡ (two (map row_points ws)).0
  pub next : s.without ≡ (two (map row_points ws)).1
  pub most_without : s.without ≤ (unit - 1) * length ws
  pub most_with : s.with ≤ (unit - 1) * length ws

pub ways_none : WaysOf [] (record { without = 0; with = 0 })
ways_none = record { best = sym two_none.0; next = sym two_none.1; most_without = omega arith; most_with = omega arith }

pub ways_more : (x : ℕ) (ws : List ℕ) (s r : Ways) → WaysOf ws s → WaysBefore s x r → WaysOf (x ∷ ws) r
ways_more x ws s r o b =
    let rest = map row_points ws in
    let p = row_points x in
    record {
      best = ap₂ max (b.without ∙ o.best) (b.with ∙ ap (λ k. p + k) o.next) ∙ sym (two_first p rest);
      next = b.without ∙ o.best ∙ sym (two_second p rest);
      most_without = omega (arith, b.without, o.most_without, o.most_with);
      most_with = omega (arith, b.with, o.most_without);
    }

-- What the loop keeps: the words are those to come, and then those that the points are of.
pub record Walked (words rest : List ℕ) (s : Ways) : Type 0 where
  pub done : List ℕ
  pub split : words ≡ rest ++ done
  pub ways : WaysOf done s

pub walked_none : (words : List ℕ) → Walked words words (record { without = 0; with = 0 })
walked_none words = record { done = []; split = sym (append-nil words); ways = ways_none }

pub walked_more : (words rest all : List ℕ) (x : ℕ) (s r : Ways) → Walked words all s → all ≡ push rest x
    → WaysBefore s x r → Walked words rest r
walked_more words rest all x s r w e b = record {
  done = x ∷ w.done;
  split = w.split ∙ ap (λ xs. xs ++ w.done) e ∙ append_assoc rest (x ∷ []) w.done;
  ways = ways_more x w.done s r w.ways b;
}
