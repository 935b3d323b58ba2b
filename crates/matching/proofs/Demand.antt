-- Demand 3, one theorem on the whole slip: `no_gain_no_loss`. It is an induction over exact steps: the way back of any
-- pairing of the short list gains exactly what is carried (`slip_lifted`), the way down of any pairing of the store
-- loses at most that (`slip_brought`); so the heaviest above and below differ by just what is carried (`slip_level`).
-- Then the bound that the code rests on: a pair left, as a pairing by itself, lifts to a pairing of the store, so its
-- points and what was carried are at most the store's total (`left_bound`), and that fits (`total_fits`).
use mathlib.Core.Path.{◌≡◌, sym, ap, ◌∙◌}
use mathlib.Core.Logic.{◌≢◌}
use mathlib.Core.Bool.{Bool}
use mathlib.Core.List.{List, [], ◌∷◌}
use mathlib.Core.Option.{some}
use Prim.Native.Nat.{ℕ, ◌+◌, ◌*◌, ◌-◌, ◌^◌, ◌≤◌, ◌<◌}
use native.Mathlib.Omega.{arith}
use native.Mathlib.Nat.{mul-le-mul_right}
use lib.Pow.{pow_pos, pow-add}
use lib.ListN.{length}
use Rattle.matching.specs.Lists.{All}
use Rattle.matching.specs.Pairs.{Pair, Points, sum}
use Rattle.matching.specs.Pairing.{Pairing, Heaviest}
use Rattle.matching.specs.Listed.{Entry, Accepted, joined, listed, points, total, filed, short_list}
use Rattle.matching.specs.Graph.{Graph}
use Rattle.matching.specs.Steps.{Rule, Step, apply, down}
use Rattle.matching.specs.Slip.{replay, left, carried, lift, bring}
use Rattle.matching.specs.Demand.{NoGainNoLoss}
use Rattle.matching.proofs.Tests.{Test, pass, fail, eq_test, lt_test}
use Rattle.matching.proofs.Sums.{hit_most}
use Rattle.matching.proofs.Alls.{all_map}
use Rattle.matching.proofs.Entries.{listed_graph, joined_graph, list_pairing, list_trimmed, pairing_total}
use Rattle.matching.proofs.Filed.{filed_sum, filed_pairing}
use Rattle.matching.proofs.Fits.{Stands}
use Rattle.matching.proofs.Exact.{step_graph, step_exact}
use Rattle.matching.proofs.Pairing.{present}
use Rattle.matching.proofs.Tally.{cells_most}
use Rattle.matching.proofs.Reduce.{replay_fits, slip_count}
use Rattle.matching.proofs.ShortOwn.{short_length}

module _ {n : ℕ} where
  pub slip_graph : {w : Points} → Graph n w → (ss : List Step) → Stands w ss → Graph n (left w ss)
  slip_graph g [] f = g
  slip_graph {w = w} g (s ∷ ss) f = slip_graph {w = apply w s} (step_graph g s f.0) ss f.1

  pub slip_lifted : {w : Points} → Graph n w → (ss : List Step) → Stands w ss
      → (m : List Pair) → Pairing (left w ss) m
      → Pairing w (lift w ss m) × (sum w (lift w ss m) ≡ sum (left w ss) m + carried w ss)
  slip_lifted g [] f m p = (p, omega arith)
  slip_lifted {w} g (s ∷ ss) f m p =
      let x = step_exact g s f.0 in
      let a = slip_lifted {w = apply w s} x.graph ss f.1 m p in
      let b = x.lifted (lift (apply w s) ss m) a.0 in
      (b.0, omega arith)

  pub slip_brought : {w : Points} → Graph n w → (ss : List Step) → Stands w ss
      → (m : List Pair) → Pairing w m
      → Pairing (left w ss) (bring w ss m) × (sum w m ≤ sum (left w ss) (bring w ss m) + carried w ss)
  slip_brought g [] f m p = (p, omega arith)
  slip_brought {w} g (s ∷ ss) f m p =
      let x = step_exact g s f.0 in
      let a = x.brought m p in
      let b = slip_brought {w = apply w s} x.graph ss f.1 (down w s m) a.0 in
      (b.0, omega arith)

  -- the short list never has more entries
  pub slip_no_more : {w : Points} → Graph n w → (ss : List Step) → Stands w ss
      → length (short_list n (left w ss)) ≤ length (short_list n w)
  slip_no_more g [] f = omega arith
  slip_no_more {w = w} g (s ∷ ss) f =
      let x = step_exact g s f.0 in
      omega (arith, x.no_more, slip_no_more {w = apply w s} x.graph ss f.1)

  -- the heaviest before and after the slip
  pub slip_level : {w : Points} → Graph n w → (ss : List Step) → Stands w ss → (a b : List Pair)
      → Heaviest w w a → Heaviest (left w ss) (left w ss) b → sum w a ≡ sum (left w ss) b + carried w ss
  slip_level {w} g ss f a b p q =
      let u = slip_lifted g ss f b q.pairing in
      let d = slip_brought g ss f a p.pairing in
      omega (arith, p.most (lift w ss b) u.0, q.most (bring w ss a) d.0)

-- ---- the store, and a slip that is allowed on it

module _ (n : ℕ) (store : List Entry) (accepted : Accepted n store) (slip : List (Rule × ℕ)) (ss : List Step)
    (allowed : replay n (listed store) slip ≡ some ss) where
  abbrev w : Points
  w = listed store

  abbrev short : Points
  short = left w ss

  graph : Graph n w
  graph = listed_graph n store accepted

  stands : Stands w ss
  stands = (replay_fits graph slip ss allowed).0

  exact : (m : List Pair) → Pairing short m
      → Pairing (joined store) (filed (lift w ss m)) × (points store (filed (lift w ss m)) ≡ sum short m + carried w ss)
  exact m p =
      let u = slip_lifted graph ss stands m p in (
        filed_pairing (joined store) (joined_graph n store accepted).turned (lift w ss m)
            (list_pairing store (lift w ss m) u.0),
        filed_sum w graph.turned (lift w ss m) ∙ u.1,
      )

  -- a heaviest pairing of the entries has the points of a heaviest one of the graph
  store_heaviest : (a : List Pair) → Heaviest (joined store) w a → Heaviest w w (present w a)
  store_heaviest a h =
      let t = list_trimmed store a h.pairing in
      record { pairing = t.0; most = λ k p. omega (arith, h.most k (list_pairing store k p), t.1) }

  heaviest : (a b : List Pair) → Heaviest (joined store) w a → Heaviest short short b
      → points store a ≡ sum short b + carried w ss
  heaviest a b p q =
      sym (list_trimmed store a p.pairing).1
      ∙ slip_level graph ss stands (present w a) b (store_heaviest a p) q

  pub no_gain_no_loss : NoGainNoLoss n store ss
  no_gain_no_loss = record {
    exact = exact;
    heaviest = heaviest;
    level = λ a b m d p q r e. omega (arith, heaviest a b p q, (exact m r).1);
    steps = omega (arith, slip_count graph ss stands, cells_most n w);
  }

  -- the short list never has more entries than the store
  pub short_fewer : length (short_list n short) ≤ length store
  short_fewer = omega (arith, slip_no_more graph ss stands, short_length n store accepted)

  -- ---- the bound

  carried_bound : carried w ss ≤ total store
  carried_bound =
      let u = slip_lifted graph ss stands [] (record { held = tt; once = λ c. omega arith }) in
      omega (arith, pairing_total store (lift w ss []) u.0.once)

  pub left_bound : (a b : ℕ) → short a b + carried w ss ≤ total store
  left_bound a b = go (lt_test 0 (short a b)) (eq_test a b)
    where
      go : {s t : Bool} → Test (0 < short a b) (short a b ≤ 0) s → Test (a ≡ b) (a ≢ b) t
          → short a b + carried w ss ≤ total store
      go (fail z) y = omega (arith, carried_bound)
      go (pass h) (pass e) = omega (arith, ap (short a) (sym e), (slip_graph graph ss stands).loop a)
      go (pass h) (fail d) =
          let one : Pairing short ((a, b) ∷ []) =
          record { held = (h, tt); once = λ c. omega (arith, hit_most c a b d) } in
          let u = slip_lifted graph ss stands ((a, b) ∷ []) one in
          omega (arith, pairing_total store (lift w ss ((a, b) ∷ [])) u.0.once)

-- A list of at most 4,096 entries below 2 ^ k: points of 20 bits stay below 2 ^ 32, values of 31 bits below 2 ^ 43,
-- values of 47 bits below 2 ^ 59.
total_most : (top : ℕ) (es : List Entry) → All (λ (e : Entry). e.2 ≤ top) es → total es ≤ length es * top
total_most top [] h = omega arith
total_most top (e ∷ es) h = omega (arith, total_most top es h.1)

pub total_fits : (k : ℕ) (es : List Entry) → All (λ (e : Entry). e.2 < 2 ^ k) es → length es ≤ 4096
    → total es < 2 ^ (k + 12)
total_fits k es h few =
    rw (pow-add 2 k 12)
    (omega (
      arith,
      pow_pos k,
      total_most (2 ^ k - 1) es (all_map (λ (e : Entry) p. omega arith) es h),
      mul-le-mul_right {m = length es} {n = 4096} (2 ^ k - 1) few,
    ))
