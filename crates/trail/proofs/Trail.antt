-- The words of the trail. In order: what is read of a closing word is what was written, the step (`step_read`), the
-- number of its pairs (`pairs_read`), its direct pair (`more_read`), and it has room for every step of a graph
-- (`closable`); the pairs that are read of a row are the row's (`row_pairs_is`); the trail of steps one behind the
-- other (`trail_append`); 4,096 words hold the trail of every slip that is allowed (`room_on_trail`); a run has the
-- same words in a graph that says the same of its cells (`words_same`). Assumes nothing.
use mathlib.Core.Path.{◌≡◌, refl, sym, ap, ◌∙◌, ap₂}
use mathlib.Core.Bool.{Bool, true, false}
use mathlib.Core.List.{List, [], ◌∷◌, ◌++◌, append_assoc}
use mathlib.Core.Option.{some}
use Prim.Native.Nat.{ℕ, suc, ◌+◌, ◌*◌, ◌/◌, ◌%◌, ◌≤◌, ◌<◌}
use native.Mathlib.Omega.{arith}
use lib.Dec.{eqb}
use lib.ListN.{length, length-append}
use Rattle.buffers.specs.Map.{unit}
use Rattle.matching.specs.Pairs.{Pair, Points, ι, Each}
use Rattle.matching.specs.Graph.{Graph, cells_left}
use Rattle.matching.specs.Best.{walk}
use Rattle.matching.specs.Steps.{Step, leaf, ring, chain, apply, outweighs}
use Rattle.matching.specs.Shapes.{first}
use Rattle.matching.specs.Slip.{left}
use Rattle.matching.proofs.Tally.{ι_most}
use Rattle.matching.proofs.Put.{pair_below}
use Rattle.matching.proofs.Members.{mem_head}
use Rattle.matching.proofs.Fits.{Fits, Stands}
use Rattle.matching.proofs.Segment.{row_below}
use Rattle.matching.proofs.Count.{step_fewer}
use Rattle.matching.proofs.Gone.{step_gone}
use Rattle.matching.proofs.Exact.{step_graph}
use Rattle.rows.specs.Row.{words_of_row}
use Rattle.rows.proofs.Parts.{length_row, row_few}
use Rattle.finding.specs.Finding.{to_tell}
use Rattle.finding.proofs.Gone.{Agree, agree_tail}
use Rattle.trail.specs.Trail.{closing_of, Closable, step_in, pairs_in, more_in, row_of, start_of, row_pairs}
use Rattle.trail.specs.Trail.{step_words, trail}

-- ---- a closing word

-- a cell's place: what stands above it, k, does not count
cell_field : (x c k : ℕ) → c < 1024 → x ≡ c + 1024 * k → x % 1024 ≡ c
cell_field x c k l e = omega arith

pub step_read : (word : ℕ) (w : Points) (s : Step) → Closable s → word ≡ closing_of w s
    → step_in word ≡ to_tell (some s)
step_read word w (leaf u v) l e =
    let r : word % 4 ≡ 1 = omega arith in
    let p = cell_field (word / 4096) v 0 l.1 (omega (arith, l.0)) in
    let q = cell_field (word / 4) u v l.0 (omega arith) in
    rw (r, p, q)
step_read word w (ring u z inner) l e =
    let k = suc (length inner) in
    let r : word % 4 ≡ 2 = omega arith in
    let p = cell_field (word / 4) u (1024 * z + 1048576 * k) l.0 (omega arith) in
    let q = cell_field (word / 4194304) z k l.1 (omega (arith, l.0)) in
    rw (r, p, q)
step_read word w (chain u v z inner) l e =
    let k = suc (length inner) + 8192 * ι (outweighs w u v inner) in
    let r : word % 4 ≡ 3 = omega arith in
    let p = cell_field (word / 4) u (v + 1024 * z + 1048576 * k) l.0 (omega arith) in
    let q = cell_field (word / 4096) v (z + 1024 * k) l.1 (omega (arith, l.0)) in
    let o = cell_field (word / 4194304) z k l.2 (omega (arith, l.0, l.1)) in
    rw (r, p, q, o)

pub pairs_read : (w : Points) (s : Step) → Closable s → length (row_of w s) ≡ pairs_in (closing_of w s)
pairs_read w (leaf u v) l = omega (arith, l.0, l.1)
pairs_read w (ring u z inner) l = omega (arith, length_row w u inner u, l.0, l.1, l.2)
pairs_read w (chain u v z inner) l =
    omega (arith, length_row w u inner v, l.0, l.1, l.2, l.3, ι_most (outweighs w u v inner))

pub more_read : (w : Points) (u v z : ℕ) (inner : List ℕ) → Closable (chain u v z inner)
    → more_in (closing_of w (chain u v z inner)) ≡ outweighs w u v inner
more_read w u v z inner l =
    let d = outweighs w u v inner in
    let e : closing_of w (chain u v z inner) / 35184372088832 ≡ ι d = omega (arith, l.0, l.1, l.2, l.3, ι_most d) in
    ap (λ (k : ℕ). eqb k 1) e ∙ back d
  where
    back : (d : Bool) → eqb (ι d) 1 ≡ d
    back true = refl
    back false = refl

pub closable : {n : ℕ} {w : Points} → Graph n w → n ≤ 1024 → (s : Step) → Fits w s → Closable s
closable g l (leaf u v) f =
    let p = pair_below g u v f.pair in
    (omega (arith, p.0), omega (arith, p.1))
closable {n} g l (ring u z inner) f =
    let p = row_below g f.0 in (
      omega (arith, p.0),
      omega (arith, p.2 z f.1),
      omega (arith, row_few n u inner f.0.apart f.0.first_off p.0 p.2),
    )
closable {n} g l (chain u v z inner) f =
    let p = row_below g f.0 in (
      omega (arith, p.0),
      omega (arith, p.1),
      omega (arith, p.2 z f.1),
      omega (arith, row_few n u inner f.0.apart f.0.first_off p.0 p.2),
    )

-- ---- the words of a row

row_start : (w : Points) (u : ℕ) (cs : List ℕ) (v : ℕ) → Each (λ a b. w a b < unit) (walk u cs v)
    → start_of (words_of_row w u cs v) v ≡ u
row_start w u [] v p = omega (arith, p.0)
row_start w u (c ∷ cs) v p = omega (arith, p.0)

pub row_pairs_is : (w : Points) (u : ℕ) (cs : List ℕ) (v : ℕ) → Each (λ a b. w a b < unit) (walk u cs v)
    → row_pairs (words_of_row w u cs v) v ≡ walk u cs v
row_pairs_is w u [] v p = ap (λ x. (x, v) ∷ []) (row_start w u [] v p)
row_pairs_is w u (c ∷ cs) v p =
    ap₂ (λ (e : Pair) es. e ∷ es)
    (ap₂ (λ (x y : ℕ). (x, y)) (row_start w u (c ∷ cs) v p) (row_start w c cs v p.1))
    (row_pairs_is w c cs v p.1)

-- ---- the trail

pub trail_append : (w : Points) (ss ts : List Step) → trail w (ss ++ ts) ≡ trail w ss ++ trail (left w ss) ts
trail_append w [] ts = refl
trail_append w (s ∷ ss) ts =
    ap (λ xs. step_words w s ++ xs) (trail_append (apply w s) ss ts)
    ∙ sym (append_assoc (step_words w s) (trail (apply w s) ss) (trail (left (apply w s) ss) ts))

-- a step writes a word for each pair of its row, and one more
step_length : (w : Points) (s : Step) → length (step_words w s) ≡ length (row_of w s) + 1
unfolding step_words
step_length w s = length-append (row_of w s) (closing_of w s ∷ [])

-- a step that takes r cells away writes at most r + 3 words
words_room : {n : ℕ} {w : Points} → Graph n w → (s : Step) → Fits w s
    → length (step_words w s) + 4 * cells_left n (apply w s) ≤ 4 * cells_left n w
words_room {w = w} g (leaf u v) f = omega (arith, step_fewer g (leaf u v) f, step_length w (leaf u v))
words_room {w = w} g (ring u z cs) f =
    omega (arith, step_gone g (ring u z cs) f, f.0.more, step_length w (ring u z cs), length_row w u cs u)
words_room {w = w} g (chain u v z cs) f =
    omega (arith, step_gone g (chain u v z cs) f, f.0.more, step_length w (chain u v z cs), length_row w u cs v)

pub room_on_trail : {n : ℕ} {w : Points} → Graph n w → (ss : List Step) → Stands w ss
    → length (trail w ss) + 4 * cells_left n (left w ss) ≤ 4 * cells_left n w
room_on_trail g [] f = omega arith
room_on_trail {n} {w} g (s ∷ ss) f =
    omega (
      arith,
      words_room g s f.0,
      room_on_trail {w = apply w s} (step_graph g s f.0) ss f.1,
      length-append (step_words w s) (trail (apply w s) ss),
    )

pub words_same : (w w' : Points) (p : ℕ) (cs : List ℕ) (v : ℕ) → w' p (first v cs) ≡ w p (first v cs) → Agree w w' cs
    → words_of_row w' p cs v ≡ words_of_row w p cs v
words_same w w' p [] v q h = ap (λ (k : ℕ). (p * unit + k) ∷ []) q
words_same w w' p (c ∷ cs) v q h =
    ap₂ (λ (k : ℕ) (ws : List ℕ). (p * unit + k) ∷ ws) q
    (words_same w w' c cs v (h c (mem_head c c cs refl) (first v cs)) (agree_tail c cs h))
