-- Where no leaf is left by a step. In order: a leaf, a ring and a chain change no points of a cell that is not theirs
-- (`leaf_else`, `ring_else`, `chain_else`); so a cell below all of theirs has the degree that it had (`leaf_quiet`,
-- `ring_quiet`, `chain_quiet`); the partners of a cell over its slots (`Lows`, `lows_end`, `lows_or`);
-- by what is told of a step (`quieted_leaf`, `quieted_ring`, `quieted_chain`). Assumes nothing.
use mathlib.Core.Path.{◌≡◌, refl, sym, ap, ◌∙◌}
use mathlib.Core.Logic.{◌⊎◌, inl, inr, ◌≢◌}
use mathlib.Core.Bool.{Bool, true, false, cond}
use mathlib.Core.List.{List}
use mathlib.Core.Option.{some}
use Rattle.std.specs.Prelude.{Option, None, Some, MatchOption}
use Prim.Native.Nat.{ℕ, suc, ◌-◌, ◌≤◌, ◌<◌}
use native.Mathlib.Omega.{arith}
use lib.ListN.{get_or}
use Rattle.matching.specs.Lists.{mem}
use Rattle.matching.specs.Pairs.{Points, touches}
use Rattle.matching.specs.Graph.{Graph, dropped}
use Rattle.matching.specs.Steps.{Rule, by_leaf, by_ring, by_chain, Step, leaf, ring, chain, leafed, ringed, chained}
use Rattle.matching.specs.Steps.{apply}
use Rattle.matching.specs.Shapes.{IsRow, IsLeaf, IsRing, IsChain, IsStep, Lowest}
use Rattle.matching.proofs.Tests.{Test, pass, fail, is_test, lt_test, fails}
use Rattle.matching.proofs.Sums.{touches_test}
use Rattle.matching.proofs.Put.{dropped_out, dropped_most}
use Rattle.matching.proofs.Rows.{AtEnd, is_run, run_outer}
use Rattle.matching.proofs.Find.{is_fits}
use Rattle.cellfile.specs.Answers.{Answer}
use Rattle.slots.specs.Slots.{name_of, graph_of, low_of, high_of, Joins}
use Rattle.slots.proofs.Degrees.{degree_same}
use Rattle.slots.proofs.Scanning.{joins_turned, joins_some}
use Rattle.finding.specs.Finding.{told, to_tell, Quiet}
use Rattle.bounds.specs.Bounds.{Near, Quieted}
use Rattle.finding.specs.declared.Step as declared
use Rattle.finding.specs.declared.Step.TheVariants as found
use Rattle.finding.proofs.Gone.{put_away}

-- ---- the points of a cell that is not in the step

module _ {w : Points} (g : Graph 1024 w) where
  pub leaf_else : {u v : ℕ} → IsLeaf 1024 w u v → (c : ℕ) → c ≢ u → c ≢ v → w c u ≡ 0 → (x : ℕ)
      → leafed w u v c x ≡ w c x
  unfolding leafed
  leaf_else {u} {v} l c nu nv z x = go (touches_test v c x) (touches_test u c x)
    where
      off : w c v ≡ 0
      off = g.turned c v ∙ (is_fits g by_leaf v (leaf u v) (refl, l)).alone c nu

      go : {s t : Bool} → Test ((c ≡ v) ⊎ (x ≡ v)) ((c ≢ v) × (x ≢ v)) s
          → Test ((c ≡ u) ⊎ (x ≡ u)) ((c ≢ u) × (x ≢ u)) t → cond s 0 (cond t (w c x - w u v) (w c x)) ≡ w c x
      go (pass (inl q)) b = absurd (nv q)
      go (pass (inr q)) b = sym (ap (w c) q ∙ off)
      go (fail n) (pass (inl q)) = absurd (nu q)
      go (fail n) (pass (inr q)) = let k : w c x ≡ 0 = ap (w c) q ∙ z in omega arith
      go (fail n) (fail m) = refl

  -- the inner cells of a row have no pair with a cell outside
  row_else : {u v : ℕ} {inner : List ℕ} → IsRow 1024 w u inner v → (c : ℕ) → mem c inner ≡ false → c ≢ u → c ≢ v
      → (x : ℕ) → dropped inner w c x ≡ w c x
  row_else {u} {v} {inner} r c off nu nv x = go (is_test (mem x inner))
    where
      ends : AtEnd u inner v x c → ⊥
      ends (inl q) = nu (sym q.0)
      ends (inr q) = nv (sym q.0)

      go : {t : Bool} → Test (mem x inner ≡ true) (mem x inner ≡ false) t → dropped inner w c x ≡ w c x
      go (pass m) =
          let no : 0 < w x c → ⊥ = λ h. ends (run_outer g u inner v (is_run g r) x c m off h) in
          omega (arith, dropped_most inner w c x, g.turned c x, no)
      go (fail m) = dropped_out inner w c x (off, m)

  pub ring_else : {u z : ℕ} {inner : List ℕ} → IsRow 1024 w u inner u → (c : ℕ) → mem c inner ≡ false → c ≢ u → c ≢ z
      → (x : ℕ) → ringed w u z inner c x ≡ w c x
  unfolding ringed
  ring_else {u} {z} {inner} r c off nu nz x =
      put_away u z _ (dropped inner w) c nu nz x ∙ row_else r c off nu nu x

  chain_else : {u v z : ℕ} {inner : List ℕ} → IsRow 1024 w u inner v → (c : ℕ) → mem c inner ≡ false → c ≢ u → c ≢ v
      → c ≢ z → (x : ℕ) → chained w u v z inner c x ≡ w c x
  unfolding chained
  chain_else {u} {v} {z} {inner} r c off nu nv nz x =
      put_away u z _ _ c nu nz x ∙ put_away v z _ _ c nv nz x ∙ put_away u v _ (dropped inner w) c nu nv x
      ∙ row_else r c off nu nv x

  -- ---- below the cells of a step

  -- below the lowest inner cell no cell is inner
  below_off : {z : ℕ} {inner : List ℕ} → Lowest z inner → (c : ℕ) → c < z → mem c inner ≡ false
  below_off {z} {inner} l c b = fails (is_test (mem c inner)) (λ m. omega (arith, l.least c m))

  -- where the points of the cells below r stay as they are
  quiet_same : {w' : Points} {low r : ℕ} → r ≤ low → ((c : ℕ) → c < r → (x : ℕ) → w' c x ≡ w c x) → Quiet low w
      → Quiet r w'
  quiet_same {w'} l same q c b one = q c (omega arith) (sym (degree_same 1024 w w' c (λ x k. same c b x)) ∙ one)

  leaf_quiet : {u v low r : ℕ} → IsLeaf 1024 w u v → r ≤ low → r ≤ u → r ≤ v → ((c : ℕ) → c < r → w c u ≡ 0)
      → Quiet low w → Quiet r (leafed w u v)
  leaf_quiet l a b d away =
      quiet_same a (λ c k. leaf_else l c (λ q. omega arith) (λ q. omega arith) (away c k))

  ring_quiet : {u z low r : ℕ} {inner : List ℕ} → IsRing 1024 w u z inner → r ≤ low → r ≤ u → r ≤ z
      → Quiet low w → Quiet r (ringed w u z inner)
  ring_quiet l a b d =
      quiet_same a (λ c k. ring_else l.row c (below_off l.low c (omega arith)) (λ q. omega arith)
      (λ q. omega arith))

  chain_quiet : {u v z low r : ℕ} {inner : List ℕ} → IsChain 1024 w u v z inner → r ≤ low → r ≤ u → r ≤ z
      → Quiet low w → Quiet r (chained w u v z inner)
  chain_quiet l a b d =
      quiet_same a (λ c k. chain_else l.row c (below_off l.low c (omega arith)) (λ q. omega arith)
      (λ q. omega (arith, l.ends)) (λ q. omega arith))

-- ---- the partners of a cell, over its slots

-- `least` is not above low, u and the partner of u in any live slot from i on; slot i - 1 has u.
pub record Lows (e : ℕ) (w1 : List ℕ) (u low least i : ℕ) : Type 0 where
  pub top : i ≤ e
  pub has : (k : ℕ) → i ≡ suc k → touches u (low_of w1 k) (high_of w1 k) ≡ true
  pub most : least ≤ low
  pub cell : least ≤ u
  pub past : (j f : ℕ) → i ≤ j → Joins e w1 j u f → least ≤ f

module _ {e : ℕ} {w1 : List ℕ} {u low : ℕ} where
  -- no slot is left
  pub lows_end : {least : ℕ} → Lows e w1 u low least 0 → Near (graph_of e w1) u low least
  lows_end {least} n = record {
    most = n.most;
    cell = n.cell;
    apart = λ c l. none c l (lt_test 0 (graph_of e w1 c u));
  }
    where
      none : (c : ℕ) → c < least → {t : Bool} → Test (0 < graph_of e w1 c u) (graph_of e w1 c u ≤ 0) t
          → graph_of e w1 c u ≡ 0
      none c l (pass h) =
          let j = joins_some e w1 c u h in
          absurd (omega (arith, n.past j.0 c (omega arith) (joins_turned j.1)))
      none c l (fail h) = omega arith

  -- or some are, and nothing is said
  pub lows_or : {least r : ℕ} (next : Option ℕ) (Q : ℕ → Type 0) → Lows e w1 u low least (name_of next)
      → MatchOption next (r ≡ least) Q → ((i : ℕ) → Q i → r ≡ 0) → Near (graph_of e w1) u low r
  lows_or None Q n h is = rw h (lows_end n)
  lows_or (Some i) Q n h is =
      rw (is i h) record { most = omega arith; cell = omega arith; apart = λ c l. absurd (omega arith) }

-- ---- what is told of a step

module _ {w : Points} {x : declared.Step} {low r : ℕ} where
  pub quieted_leaf : {u v m : ℕ} → x ≡ found.Leaf v u → (m ≤ low) × (m ≤ v) → Near w u m r → Quieted w x low r
  quieted_leaf {u} {v} {m} e l n s t q p g k = go s q.0 q.1 (sym (ap told e) ∙ t) p
    where
      go : (s : Step) (rule : Rule) (c : ℕ) → told (found.Leaf v u) ≡ to_tell (some s) → IsStep 1024 w rule c s
          → Quiet r (apply w s)
      go (leaf u' v') by_ring c t p = elim p [ ]
      go (leaf u' v') by_chain c t p = elim p [ ]
      go (leaf u' v') by_leaf c t p =
          let qu : u ≡ u' = ap (λ (y : Answer). get_or y.1 1 0) t in
          let qv : v ≡ v' = ap (λ (y : Answer). get_or y.1 0 0) t in
          leaf_quiet g p.1 (omega (arith, n.most)) (omega (arith, n.cell)) (omega (arith, n.most))
          (λ c b. ap (w c) (sym qu) ∙ n.apart c b) k
      go (ring u' z inner) rule c t p = absurd (omega (arith, ap (λ (y : Answer). y.0) t))
      go (chain u' v' z inner) rule c t p = absurd (omega (arith, ap (λ (y : Answer). y.0) t))

  pub quieted_ring : {u z : ℕ} → x ≡ found.Ring u z → r ≤ low → r ≤ u → r ≤ z → Quieted w x low r
  quieted_ring {u} {z} e a b d s t q p g k = go s q.0 q.1 (sym (ap told e) ∙ t) p
    where
      go : (s : Step) (rule : Rule) (c : ℕ) → told (found.Ring u z) ≡ to_tell (some s) → IsStep 1024 w rule c s
          → Quiet r (apply w s)
      go (ring u' z' inner) by_leaf c t p = elim p [ ]
      go (ring u' z' inner) by_chain c t p = elim p [ ]
      go (ring u' z' inner) by_ring c t p =
          let qu : u ≡ u' = ap (λ (y : Answer). get_or y.1 0 0) t in
          let qz : z ≡ z' = ap (λ (y : Answer). get_or y.1 1 0) t in
          ring_quiet g p.1 a (omega arith) (omega arith) k
      go (leaf u' v) rule c t p = absurd (omega (arith, ap (λ (y : Answer). y.0) t))
      go (chain u' v z' inner) rule c t p = absurd (omega (arith, ap (λ (y : Answer). y.0) t))

  pub quieted_chain : {u v z : ℕ} → x ≡ found.Chain u v z → r ≤ low → r ≤ u → r ≤ z → Quieted w x low r
  quieted_chain {u} {v} {z} e a b d s t q p g k = go s q.0 q.1 (sym (ap told e) ∙ t) p
    where
      go : (s : Step) (rule : Rule) (c : ℕ) → told (found.Chain u v z) ≡ to_tell (some s) → IsStep 1024 w rule c s
          → Quiet r (apply w s)
      go (chain u' v' z' inner) by_leaf c t p = elim p [ ]
      go (chain u' v' z' inner) by_ring c t p = elim p [ ]
      go (chain u' v' z' inner) by_chain c t p =
          let qu : u ≡ u' = ap (λ (y : Answer). get_or y.1 0 0) t in
          let qz : z ≡ z' = ap (λ (y : Answer). get_or y.1 2 0) t in
          chain_quiet g p.1 a (omega arith) (omega arith) k
      go (leaf u' v) rule c t p = absurd (omega (arith, ap (λ (y : Answer). y.0) t))
      go (ring u' z' inner) rule c t p = absurd (omega (arith, ap (λ (y : Answer). y.0) t))
