-- The chain step at z, from u over the inner cells to v, is exact: what it leaves is a graph (`chain_graph`), its way
-- back puts in just what it carries (`chain_lifted`), and its way down loses at most that (`chain_brought`).
-- Assumes nothing.
use mathlib.Core.Path.{◌≡◌, refl, sym, ap, ◌∙◌}
use mathlib.Core.Logic.{◌⊎◌, inl, inr, ◌≢◌}
use mathlib.Core.Bool.{Bool, true, false, not, cond, ◌&&◌, ◌||◌}
use mathlib.Core.List.{List, [], ◌∷◌, ◌++◌}
use Prim.Native.Nat.{ℕ, ◌+◌, ◌*◌, ◌-◌, ◌≤◌, ◌<◌, max}
use native.Mathlib.Omega.{arith}
use Rattle.matching.specs.Lists.{mem}
use Rattle.matching.specs.Pairs.{Pair, Points, sum, Each, keep, hit, same, like, without}
use Rattle.matching.specs.Pairing.{Once, Pairing}
use Rattle.matching.specs.Graph.{Graph, put, dropped}
use Rattle.matching.specs.Best.{H, best, tie, walk}
use Rattle.matching.specs.Steps.{chain, chained, undo, outside, down}
use Rattle.matching.proofs.Tests.{Test, pass, fail, is_test, eq_test, lt_test, not_test, and_test, or_test, holds}
use Rattle.matching.proofs.Tests.{fails}
use Rattle.matching.proofs.Members.{Away, no_mem, mem_on, mem_head, mem_apart, mem_more}
use Rattle.matching.proofs.Pairs.{Same, same_test}
use Rattle.matching.proofs.Sums.{Turned, times_none, one_times, sum_apart, sum_unless, turned_same, each_keep}
use Rattle.matching.proofs.Sums.{keep_and, hit_left, hit_right, hit_some, hit_turned, like_turned, once_cons}
use Rattle.matching.proofs.Best.{h_less}
use Rattle.matching.proofs.Put.{put_at, put_else, put_graph, dropped_out, dropped_held, dropped_graph}
use Rattle.matching.proofs.Fits.{Segment}
use Rattle.matching.proofs.Segment.{Kept, Settled, away_pair, row_below, segment_lifted}
use Rattle.matching.proofs.Pairing.{present}
use Rattle.matching.proofs.Down.{outside_once, outside_off, segment_brought}

module _ {n : ℕ} {w : Points} (g : Graph n w) {u : ℕ} {inner : List ℕ} {v : ℕ} (s : Segment w u inner v) (z : ℕ)
    (low : mem z inner ≡ true) (u≢v : u ≢ v) where
  abbrev row : List Pair
  row = walk u inner v

  abbrev after : Points
  after = chained w u v z inner

  -- H(Q), and H(P) minus H(Q)
  abbrev carried : ℕ
  carried = H w (u ∷ v ∷ []) row

  abbrev through : ℕ
  through = H w [] row - carried

  u≢z : u ≢ z
  u≢z e = mem_apart z u inner low s.first_off (sym e)

  v≢z : v ≢ z
  v≢z e = mem_apart z v inner low s.last_off (sym e)

  -- ---- the graph after the step

  pub chain_graph : Graph n after
  unfolding chained
  chain_graph =
      let b = row_below g s in
      let direct = put_graph u v _ u≢v b.0 b.1 (dropped_graph inner g) in
      put_graph u z _ u≢z b.0 (b.2 z low) (put_graph v z _ v≢z b.1 (b.2 z low) direct)

  chain_else : (a b : ℕ) → same u z a b ≡ false → same v z a b ≡ false
      → after a b ≡ put u v (max (w u v) through) (dropped inner w) a b
  unfolding chained
  chain_else a b h k = put_else u z _ _ a b h ∙ put_else v z _ _ a b k

  chain_away : (a b : ℕ) → Away inner a b → after a b ≡ put u v (max (w u v) through) (dropped inner w) a b
  chain_away a b h = chain_else a b (away_pair u z inner low a b h) (away_pair v z inner low a b h)

  pub chain_uz : after u z ≡ H w (v ∷ []) row - carried
  unfolding chained
  chain_uz = put_at u z _ _

  pub chain_vz : after v z ≡ H w (u ∷ []) row - carried
  unfolding chained
  chain_vz = put_else u z _ _ v z (fails (same_test u z v z) clash) ∙ put_at v z _ _
    where
      clash : Same u z v z → ⊥
      clash (inl e) = u≢v (sym e.0)
      clash (inr e) = v≢z e.0

  pub chain_uv : after u v ≡ max (w u v) through
  chain_uv = chain_away u v (s.first_off, s.last_off) ∙ put_at u v _ _

  pub chain_out : (a b : ℕ) → Away inner a b → same u v a b ≡ false → after a b ≡ w a b
  chain_out a b h e = chain_away a b h ∙ put_else u v _ _ a b e ∙ dropped_out inner w a b h

  -- the direct pair, in either order
  direct_away : (a b : ℕ) → Same u v a b → Away inner a b
  direct_away a b (inl e) = (rw e.0 s.first_off, rw e.1 s.last_off)
  direct_away a b (inr e) = (rw e.0 s.last_off, rw e.1 s.first_off)

  direct_points : (a b : ℕ) → Same u v a b → (w a b ≡ w u v) × (after a b ≡ max (w u v) through)
  direct_points a b e =
      (turned_same w g.turned u v a b e, turned_same after chain_graph.turned u v a b e ∙ chain_uv)

  -- what the pairs of the ends are worth
  less : (off : List ℕ) → ((c : ℕ) → mem c off ≡ true → mem c (u ∷ v ∷ []) ≡ true) → carried ≤ H w off row
  less off = h_less w row off (u ∷ v ∷ [])

  worth_uz : H w (v ∷ []) row ≡ after u z + carried
  worth_uz = omega (arith, chain_uz, less (v ∷ []) (λ c. mem_on c u (v ∷ [])))

  worth_vz : H w (u ∷ []) row ≡ after v z + carried
  worth_vz = omega (arith, chain_vz, less (u ∷ []) (mem_more Among u [] (mem_head u u (v ∷ []) refl) (λ c. no_mem c)))
    where
      Among : ℕ → Type 0
      Among c = mem c (u ∷ v ∷ []) ≡ true

  worth_uv : w u v ≤ through → H w [] row ≡ after u v + carried
  worth_uv h = omega (arith, chain_uv, less [] (λ c. no_mem c))

  -- ---- the way back

  -- Whether the direct pair outweighs the chain.
  abbrev Direct : Bool → Type 0
  Direct d = Test (through < w u v) (w u v ≤ through) d

  chain_kept : (a b : ℕ) → 0 < after a b → same u z a b ≡ false → same v z a b ≡ false
      → (through < w u v) ⊎ (same u v a b ≡ false) → Kept inner w after a b
  chain_kept a b h i j = go (is_test (same u v a b))
    where
      other : same u v a b ≡ false → Kept inner w after a b
      other e =
          let away = dropped_held inner w a b (omega (arith, chain_else a b i j ∙ put_else u v _ _ a b e)) in
          (away, sym (chain_out a b away e), h)

      go : {t : Bool} → Test (same u v a b ≡ true) (same u v a b ≡ false) t
          → (through < w u v) ⊎ (same u v a b ≡ false) → Kept inner w after a b
      go (pass e) (inl d) =
          let f = holds (same_test u v a b) e in (direct_away a b f, omega (arith, direct_points a b f), h)
      go (pass e) (inr f) = other f
      go (fail f) d = other f

  module _ (m : List Pair) (p : Pairing after m) where
    -- what stays, by whether the direct pair outweighs the chain
    abbrev stay : Bool → ℕ → ℕ → Bool
    stay d a b = not (same u z a b) && (not (same v z a b) && (d || not (same u v a b)))

    abbrev rest : Bool → List Pair
    rest d = keep (stay d) m

    rest_kept : {d : Bool} → Direct d → Each (Kept inner w after) (rest d)
    rest_kept {d} t = each_keep (stay d) at m p.held
      where
        at : (a b : ℕ) → 0 < after a b → stay d a b ≡ true → Kept inner w after a b
        at a b h e =
            let inner_test = and_test (not_test (is_test (same v z a b)))
            (or_test t (not_test (is_test (same u v a b)))) in
            let f = holds (and_test (not_test (is_test (same u z a b))) inner_test) e in
            chain_kept a b h f.0 f.1.0 f.1.1

    -- how often each of the three pairs goes: u, z; then v, z; then u, v
    abbrev m₁ : List Pair
    m₁ = without u z m

    abbrev m₂ : List Pair
    m₂ = without v z m₁

    abbrev k₁ : ℕ
    k₁ = sum (like u z) m

    abbrev k₂ : ℕ
    k₂ = sum (like v z) m₁

    abbrev k₃ : Bool → ℕ
    k₃ d = cond d 0 (sum (like u v) m₂)

    total : (d : Bool) (f : Points) → Turned f
        → sum f m ≡ f u z * k₁ + (f v z * k₂ + (f u v * k₃ d + sum f (rest d)))
    total d f t =
        omega (arith, sum_apart f t u z m, sum_apart f t v z m₁, sum_unless d f t u v m₂, ap (sum f) split)
      where
        split : rest d ≡ keep (λ a b. d || not (same u v a b)) m₂
        split =
            keep_and (λ a b. not (same u z a b)) (λ a b. not (same v z a b) && (d || not (same u v a b))) m
            ∙ keep_and (λ a b. not (same v z a b)) (λ a b. d || not (same u v a b)) m₁

    counted : (d : Bool) (i j l : ℕ) → k₁ ≡ i → k₂ ≡ j → k₃ d ≡ l → (f : Points) → Turned f
        → sum f m ≡ f u z * i + (f v z * j + (f u v * l + sum f (rest d)))
    counted d i j l e₁ e₂ e₃ f t = rw (← e₁, ← e₂, ← e₃) (total d f t)

    -- no two of them, because they meet in z, u or v
    few : (d : Bool) → (k₁ + k₂ ≤ 1) × (k₁ + k₃ d ≤ 1) × (k₂ + k₃ d ≤ 1)
    few d = (
      omega (arith, at z, one_times (hit z u z) k₁ (hit_right u z u≢z), one_times (hit z v z) k₂ (hit_right v z v≢z)),
      omega (arith, at u, one_times (hit u u z) k₁ (hit_left u z u≢z), one_times (hit u u v) l (hit_left u v u≢v)),
      omega (arith, at v, one_times (hit v v z) k₂ (hit_left v z v≢z), one_times (hit v u v) l (hit_right u v u≢v)),
    )
      where
        l : ℕ
        l = k₃ d

        at : (c : ℕ) → hit c u z * k₁ + (hit c v z * k₂ + hit c u v * l) ≤ 1
        at c = omega (arith, total d (hit c) (hit_turned c), p.once c)

    -- how often m holds them, by how often they go
    held_vz : sum (like v z) m ≡ like v z u z * k₁ + k₂
    held_vz = sum_apart (like v z) (like_turned v z) u z m

    held_uv : sum (like u v) m ≡ like u v u z * k₁ + (like u v v z * k₂ + sum (like u v) m₂)
    held_uv =
        omega (arith, sum_apart (like u v) (like_turned u v) u z m, sum_apart (like u v) (like_turned u v) v z m₁)

    abbrev Back : Bool → List ℕ → Type 0
    Back d off =
        Pairing w (best tie w off row ++ rest d) × (sum w (best tie w off row ++ rest d) ≡ sum after m + carried)

    back : {d : Bool} → Direct d → (gone : Points → ℕ) → ((f : Points) → Turned f → sum f m ≡ gone f + sum f (rest d))
        → (off : List ℕ) → Settled off gone u → Settled off gone v → H w off row ≡ gone after + carried → Back d off
    back {d} t gone parts off at_u at_v worth =
        segment_lifted g s after chain_graph.turned m (rest d) p.once (rest_kept t) gone parts off at_u at_v
        carried worth

    none_goes : {d : Bool} → Direct d → k₁ ≡ 0 → k₂ ≡ 0 → k₃ d ≡ 0 → Back d (u ∷ v ∷ [])
    none_goes {d} t e₁ e₂ e₃ =
        back t (λ f. 0) (λ f y. omega (arith, counted d 0 0 0 e₁ e₂ e₃ f y)) (u ∷ v ∷ [])
        (inl (mem_head u u (v ∷ []) refl)) (inl (mem_on v u (v ∷ []) (mem_head v v [] refl))) (omega arith)

    by_held : {a b c d : Bool} → Test (0 < k₁) (k₁ ≤ 0) a → Test (0 < sum (like v z) m) (sum (like v z) m ≤ 0) b
        → Test (0 < sum (like u v) m) (sum (like u v) m ≤ 0) c → Direct d
        → Back d (cond a (v ∷ []) (cond b (u ∷ []) (cond (c && not d) [] (u ∷ v ∷ []))))
    by_held {d = d} (pass h) b c t =
        let e : (k₁ ≡ 1) × (k₂ ≡ 0) × (k₃ d ≡ 0) = omega (arith, few d) in
        back t (λ f. f u z) (λ f y. omega (arith, counted d 1 0 0 e.0 e.1 e.2 f y)) (v ∷ [])
        (inr (hit_some u u z (inl refl))) (inl (mem_head v v [] refl)) worth_uz
    by_held {d = d} (fail h) (pass k) c t =
        let e₁ : k₁ ≡ 0 = omega arith in
        let e : (k₂ ≡ 1) × (k₃ d ≡ 0) = omega (arith, few d, held_vz, times_none (like v z u z) k₁ e₁) in
        back t (λ f. f v z) (λ f y. omega (arith, counted d 0 1 0 e₁ e.0 e.1 f y)) (u ∷ [])
        (inl (mem_head u u [] refl)) (inr (hit_some v v z (inl refl))) worth_vz
    by_held (fail h) (fail k) (pass l) (pass t) = none_goes (pass t) (omega arith) (omega (arith, held_vz)) refl
    by_held (fail h) (fail k) (pass l) (fail t) =
        let e₁ : k₁ ≡ 0 = omega arith in
        let e₂ : k₂ ≡ 0 = omega (arith, held_vz) in
        let e₃ : k₃ false ≡ 1 =
        omega (arith, few false, held_uv, times_none (like u v u z) k₁ e₁, times_none (like u v v z) k₂ e₂) in
        back (fail t) (λ f. f u v) (λ f y. omega (arith, counted false 0 0 1 e₁ e₂ e₃ f y)) []
        (inr (hit_some u u v (inl refl))) (inr (hit_some v u v (inr refl))) (worth_uv t)
    by_held {d = d} (fail h) (fail k) (fail l) t = none_goes t (omega arith) (omega (arith, held_vz)) (at d)
      where
        at : (d : Bool) → k₃ d ≡ 0
        at true = refl
        at false = omega (arith, held_uv)

    pub chain_lifted : Pairing w (undo w (chain u v z inner) m)
        × (sum w (undo w (chain u v z inner) m) ≡ sum after m + carried)
    chain_lifted = by_held (lt_test 0 k₁) (lt_test 0 (sum (like v z) m)) (lt_test 0 (sum (like u v) m))
        (lt_test through (w u v))

  -- ---- the way down

  grown : (a b : ℕ) → Away inner a b → w a b ≤ after a b
  grown a b h = go (is_test (same u v a b))
    where
      go : {t : Bool} → Test (same u v a b ≡ true) (same u v a b ≡ false) t → w a b ≤ after a b
      go (pass e) = omega (arith, direct_points a b (holds (same_test u v a b) e))
      go (fail e) = omega (arith, chain_out a b h e)

  pub chain_brought : (m : List Pair) → Pairing w m
      → Pairing after (down w (chain u v z inner) m) × (sum w m ≤ sum after (down w (chain u v z inner) m) + carried)
  unfolding down
  chain_brought m p = go (eq_test (sum (hit u) out) 0) (eq_test (sum (hit v) out) 0)
    where
      out : List Pair
      out = outside inner m

      once : Once out
      once = outside_once g s m p

      z_free : sum (hit z) out ≡ 0
      z_free = outside_off g s m p z low

      Taken : ℕ → Type 0
      Taken c = sum (hit c) out ≢ 0

      Down : List Pair → Type 0
      Down part =
          Pairing after (present after (part ++ out)) × (sum w m ≤ sum after (present after (part ++ out)) + carried)

      by : (part : List Pair) → Once (part ++ out) → (off : List ℕ) → ((c : ℕ) → mem c off ≡ true → Taken c)
          → H w off row ≤ sum after part + carried → Down part
      by part o off f = segment_brought g s m p after grown part o off f carried

      go : {a b : Bool} → Test (sum (hit u) out ≡ 0) (Taken u) a → Test (sum (hit v) out ≡ 0) (Taken v) b
          → Down (cond a (cond b ((u, v) ∷ []) ((u, z) ∷ [])) (cond b ((v, z) ∷ []) []))
      go (pass a) (pass b) =
          by ((u, v) ∷ []) (once_cons u v out u≢v a b once) [] (λ c. no_mem c) (omega (arith, chain_uv))
      go (pass a) (fail b) =
          by ((u, z) ∷ []) (once_cons u z out u≢z a z_free once) (v ∷ []) (mem_more Taken v [] b (λ c. no_mem c))
          (omega (arith, worth_uz))
      go (fail a) (pass b) =
          by ((v, z) ∷ []) (once_cons v z out v≢z b z_free once) (u ∷ []) (mem_more Taken u [] a (λ c. no_mem c))
          (omega (arith, worth_vz))
      go (fail a) (fail b) =
          by [] once (u ∷ v ∷ []) (mem_more Taken u (v ∷ []) a (mem_more Taken v [] b (λ c. no_mem c))) (omega arith)
