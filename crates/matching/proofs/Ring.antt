-- The ring step at z, from u over the inner cells back to u, is exact: what it leaves is a graph (`ring_graph`), its
-- way back puts in just what it carries (`ring_lifted`), and its way down loses at most that (`ring_brought`).
-- Assumes nothing.
use mathlib.Core.Path.{◌≡◌, refl, sym, ◌∙◌}
use mathlib.Core.Logic.{inl, inr, ◌≢◌}
use mathlib.Core.Bool.{Bool, true, false, not, cond}
use mathlib.Core.List.{List, [], ◌∷◌, ◌++◌}
use Prim.Native.Nat.{ℕ, ◌+◌, ◌*◌, ◌-◌, ◌≤◌, ◌<◌}
use native.Mathlib.Omega.{arith}
use borrow.Author.Tests.{not-true}
use Rattle.matching.specs.Lists.{mem}
use Rattle.matching.specs.Pairs.{Pair, Points, sum, Each, hit, same, like, without}
use Rattle.matching.specs.Pairing.{Once, Pairing}
use Rattle.matching.specs.Graph.{Graph, dropped}
use Rattle.matching.specs.Best.{H, best, tie, walk}
use Rattle.matching.specs.Steps.{ring, ringed, undo, outside, down}
use Rattle.matching.proofs.Tests.{Test, pass, fail, eq_test, lt_test}
use Rattle.matching.proofs.Members.{Away, no_mem, mem_head, mem_apart, mem_more}
use Rattle.matching.proofs.Sums.{Turned, times_one, times_none, sum_apart, each_keep, hit_some, like_once}
use Rattle.matching.proofs.Sums.{once_cons}
use Rattle.matching.proofs.Best.{h_mono}
use Rattle.matching.proofs.Put.{put_at, put_else, put_graph, dropped_out, dropped_held, dropped_graph}
use Rattle.matching.proofs.Fits.{Segment}
use Rattle.matching.proofs.Segment.{Kept, away_pair, row_below, segment_lifted}
use Rattle.matching.proofs.Pairing.{present}
use Rattle.matching.proofs.Down.{outside_once, outside_off, segment_brought}

module _ {n : ℕ} {w : Points} (g : Graph n w) {u : ℕ} {inner : List ℕ} (s : Segment w u inner u) (z : ℕ)
    (low : mem z inner ≡ true) where
  abbrev row : List Pair
  row = walk u inner u

  abbrev after : Points
  after = ringed w u z inner

  -- H(C less u)
  abbrev carried : ℕ
  carried = H w (u ∷ []) row

  u≢z : u ≢ z
  u≢z e = mem_apart z u inner low s.first_off (sym e)

  -- ---- the graph after the step

  pub ring_graph : Graph n after
  unfolding ringed
  ring_graph = let b = row_below g s in put_graph u z _ u≢z b.0 (b.2 z low) (dropped_graph inner g)

  pub ring_at : after u z ≡ H w [] row - carried
  unfolding ringed
  ring_at = put_at u z _ (dropped inner w)

  ring_else : (a b : ℕ) → same u z a b ≡ false → after a b ≡ dropped inner w a b
  unfolding ringed
  ring_else = put_else u z _ (dropped inner w)

  pub ring_out : (a b : ℕ) → Away inner a b → after a b ≡ w a b
  ring_out a b h = ring_else a b (away_pair u z inner low a b h) ∙ dropped_out inner w a b h

  ring_worth : H w [] row ≡ after u z + carried
  ring_worth = omega (arith, ring_at, h_mono w row u [])

  -- ---- the way back

  ring_kept : (a b : ℕ) → 0 < after a b → not (same u z a b) ≡ true → Kept inner w after a b
  ring_kept a b h e =
      let f = ring_else a b (not-true (same u z a b) e) in
      let away = dropped_held inner w a b (omega arith) in
      (away, sym (ring_out a b away), h)

  pub ring_lifted : (m : List Pair) → Pairing after m
      → Pairing w (undo w (ring u z inner) m) × (sum w (undo w (ring u z inner) m) ≡ sum after m + carried)
  ring_lifted m p = go (lt_test 0 k)
    where
      k : ℕ
      k = sum (like u z) m

      rest : List Pair
      rest = without u z m

      apart : (f : Points) → Turned f → sum f m ≡ f u z * k + sum f rest
      apart f t = sum_apart f t u z m

      kept : Each (Kept inner w after) rest
      kept = each_keep (λ a b. not (same u z a b)) ring_kept m p.held

      touched : 1 ≤ hit u u z
      touched = hit_some u u z (inl refl)

      go : {t : Bool} → Test (0 < k) (k ≤ 0) t
          → Pairing w (best tie w (cond t [] (u ∷ [])) row ++ rest)
          × (sum w (best tie w (cond t [] (u ∷ [])) row ++ rest) ≡ sum after m + carried)
      go (pass h) =
          segment_lifted g s after ring_graph.turned m rest p.once kept (λ f. f u z)
          (λ f t. omega (arith, apart f t, times_one (f u z) k (omega (arith, like_once u z m p.once))))
          [] (inr touched) (inr touched) carried ring_worth
      go (fail h) =
          segment_lifted g s after ring_graph.turned m rest p.once kept (λ f. 0)
          (λ f t. omega (arith, apart f t, times_none (f u z) k (omega arith)))
          (u ∷ []) (inl (mem_head u u [] refl)) (inl (mem_head u u [] refl)) carried (omega arith)

  -- ---- the way down

  pub ring_brought : (m : List Pair) → Pairing w m
      → Pairing after (down w (ring u z inner) m) × (sum w m ≤ sum after (down w (ring u z inner) m) + carried)
  unfolding down
  ring_brought m p = go (eq_test (sum (hit u) rest) 0)
    where
      rest : List Pair
      rest = outside inner m

      once : Once rest
      once = outside_once g s m p

      grown : (a b : ℕ) → Away inner a b → w a b ≤ after a b
      grown a b h = omega (arith, ring_out a b h)

      go : {t : Bool} → Test (sum (hit u) rest ≡ 0) (sum (hit u) rest ≢ 0) t
          → Pairing after (present after (cond t ((u, z) ∷ []) [] ++ rest))
          × (sum w m ≤ sum after (present after (cond t ((u, z) ∷ []) [] ++ rest)) + carried)
      go (pass q) =
          segment_brought g s m p after grown
          ((u, z) ∷ []) (once_cons u z rest u≢z q (outside_off g s m p z low) once)
          [] (λ c. no_mem c) carried (omega (arith, ring_worth))
      go (fail q) =
          segment_brought g s m p after grown [] once
          (u ∷ []) (mem_more (λ c. sum (hit c) rest ≢ 0) u [] q (λ c. no_mem c)) carried (omega arith)
