-- Walks over cells of degree two. In order: what a walk meets (`stretch_read`); a run is what is walked
-- (`run_stretch`), and a walk does not stop before its end where it may go on (`stretch_through`); the loop of a walk
-- (`Walking`).
use mathlib.Core.Path.{◌≡◌, refl, sym, ap, ◌∙◌}
use mathlib.Core.Logic.{◌⊎◌, inl, inr, ◌≢◌}
use mathlib.Core.Bool.{Bool, true, cond}
use mathlib.Core.List.{List, [], ◌∷◌}
use Prim.Native.Nat.{ℕ, zero, suc, ◌≤◌, ◌<◌}
use native.Mathlib.Omega.{arith}
use lib.Dec.{eqb, ltb}
use lib.ListN.{length}
use borrow.Author.Tests.{eq-eqb, ne_eqb}
use Rattle.matching.specs.Lists.{mem}
use Rattle.matching.specs.Pairs.{Points}
use Rattle.matching.specs.Graph.{Graph, partners, degree}
use Rattle.matching.specs.Shapes.{first, last}
use Rattle.matching.specs.Find.{ReadRow, onward}
use Rattle.matching.proofs.Tests.{Test, pass, fail, lt_test, fails}
use Rattle.matching.proofs.Members.{no_mem, mem_on, mem_head, mem_more}
use Rattle.matching.proofs.Partners.{partners_two}
use Rattle.matching.proofs.Rows.{Run, onward_between}
use Rattle.slots.specs.Slots.{graph_of, Joins}
use Rattle.finding.specs.Walks.{stretch, stretch_at, Onward, Stops}
use Rattle.finding.specs.declared.Stop.{Stop}

-- A walk from `from` at the cell `at`.
pub record Walked (n : ℕ) (w : Points) (low from at : ℕ) (r : ReadRow) : Type 0 where
  pub starts : first r.1 r.0 ≡ at
  pub run : Run n w from r.0 r.1
  pub high : (c : ℕ) → mem c r.0 ≡ true → low ≤ c

-- A cell at which a walk stops.
abbrev pub Bars : ℕ → Points → ℕ → ℕ → Type 0
Bars n w low v = (v < low) ⊎ (degree n w v ≢ 2)

module _ {n : ℕ} {w : Points} (g : Graph n w) (low : ℕ) where
  pub stretch_read : (k from at : ℕ) → 0 < w from at
      → Walked n w low from at (stretch k (partners n w) low from at)
  unfolding stretch
  stretch_read zero from at h = record { starts = refl; run = tt; high = λ c m. no_mem c m }
  stretch_read (suc k) from at h = go (lt_test at low) (partners n w at) refl (stretch_read k at)
    where
      ends : Walked n w low from at ([], at)
      ends = record { starts = refl; run = tt; high = λ c m. no_mem c m }

      go : {t : Bool} → Test (at < low) (low ≤ at) t → (ps : List ℕ) → partners n w at ≡ ps
          → ((next : ℕ) → 0 < w at next → Walked n w low at next (stretch k (partners n w) low at next))
          → Walked n w low from at (onward t ps from at (λ next. stretch k (partners n w) low at next))
      go (pass q) ps e i = ends
      go (fail d) [] e i = ends
      go (fail d) (a ∷ []) e i = ends
      go (fail d) (a ∷ b ∷ []) e i =
          let two = onward_between g from at a b e (omega (arith, g.turned from at)) in
          let next = cond (eqb a from) b a in
          let r = i next two.on in
          record {
            starts = refl;
            run = (rw r.starts two, r.run);
            high = mem_more (λ c. low ≤ c) at (stretch k (partners n w) low at next).0 d r.high;
          }
      go (fail d) (a ∷ b ∷ c ∷ ps) e i = ends

  pub stretch_ends : (k from v : ℕ) → Bars n w low v → stretch k (partners n w) low from v ≡ ([], v)
  unfolding stretch
  stretch_ends zero from v h = refl
  stretch_ends (suc k) from v h = go (lt_test v low) (partners n w v) refl h
    where
      go : {t : Bool} → Test (v < low) (low ≤ v) t → (ps : List ℕ) → partners n w v ≡ ps → Bars n w low v
          → onward t ps from v (λ next. stretch k (partners n w) low v next) ≡ ([], v)
      go (pass q) ps e h = refl
      go (fail d) [] e h = refl
      go (fail d) (a ∷ []) e h = refl
      go (fail d) (a ∷ b ∷ []) e (inl q) = absurd (omega arith)
      go (fail d) (a ∷ b ∷ []) e (inr q) = absurd (q (ap length e))
      go (fail d) (a ∷ b ∷ c ∷ ps) e h = refl

  -- the first cell of a run is passed
  stretch_passes : (k p : ℕ) (c : ℕ) (cs : List ℕ) (v : ℕ) → Run n w p (c ∷ cs) v → low ≤ c
      → let r = stretch k (partners n w) low c (first v cs) in
      stretch (suc k) (partners n w) low p c ≡ (c ∷ r.0, r.1)
  unfolding stretch
  stretch_passes k p c cs v r high = go (partners_two g r.0)
    where
      go : (partners n w c ≡ p ∷ first v cs ∷ []) ⊎ (partners n w c ≡ first v cs ∷ p ∷ [])
          → let r = stretch k (partners n w) low c (first v cs) in
          onward (ltb c low) (partners n w c) p c (λ next. stretch k (partners n w) low c next) ≡ (c ∷ r.0, r.1)
      go (inl e) = rw (fails (lt_test c low) (λ l. omega arith), e, eq-eqb p p refl)
      go (inr e) =
          rw (fails (lt_test c low) (λ l. omega arith), e, ne_eqb (first v cs) p (λ q. r.0.apart (sym q)))

  pub run_stretch : (k p : ℕ) (cs : List ℕ) (v : ℕ) → Run n w p cs v → ((c : ℕ) → mem c cs ≡ true → low ≤ c)
      → Bars n w low v → length cs ≤ k → stretch k (partners n w) low p (first v cs) ≡ (cs, v)
  run_stretch k p [] v r high end l = stretch_ends k p v end
  run_stretch zero p (c ∷ cs) v r high end l = absurd (omega arith)
  run_stretch (suc k) p (c ∷ cs) v r high end l =
      stretch_passes k p c cs v r (high c (mem_head c c cs refl))
      ∙ ap (λ (x : ReadRow). (c ∷ x.0, x.1))
      (run_stretch k c cs v r.1 (λ x m. high x (mem_on x c cs m)) end (omega arith))

  pub stretch_through : (k p : ℕ) (cs : List ℕ) (v : ℕ) → Run n w p cs v → ((c : ℕ) → mem c cs ≡ true → low ≤ c)
      → low ≤ v → degree n w v ≡ 2 → length cs < k → mem v (stretch k (partners n w) low p (first v cs)).0 ≡ true
  unfolding stretch
  stretch_through zero p cs v r high on two l = absurd (omega arith)
  stretch_through (suc k) p [] v r high on two l = go (lt_test v low) (partners n w v) refl
    where
      go : {t : Bool} → Test (v < low) (low ≤ v) t → (ps : List ℕ) → partners n w v ≡ ps
          → mem v (onward t ps p v (λ next. stretch k (partners n w) low v next)).0 ≡ true
      go (pass q) ps e = absurd (omega arith)
      go (fail d) [] e = absurd (omega (arith, ap length e))
      go (fail d) (a ∷ []) e = absurd (omega (arith, ap length e))
      go (fail d) (a ∷ b ∷ []) e = mem_head v v (stretch k (partners n w) low v (cond (eqb a p) b a)).0 refl
      go (fail d) (a ∷ b ∷ c ∷ ps) e = absurd (omega (arith, ap length e))
  stretch_through (suc k) p (c ∷ cs) v r high on two l =
      rw (stretch_passes k p c cs v r (high c (mem_head c c cs refl)))
      (mem_on v c (stretch k (partners n w) low c (first v cs)).0
      (stretch_through k c cs v r.1 (λ x m. high x (mem_on x c cs m)) on two (omega arith)))

-- ---- the loop of a walk

-- The rest of the walk from s on, with the fuel that is left, ends the whole walk from a.
pub record Walking (e : ℕ) (w1 : List ℕ) (low : ℕ) (a s : Stop) (left : ℕ) : Type 0 where
  pub ends : (stretch_at (graph_of e w1) low a.last a.end).1
      ≡ (stretch left (partners 1024 (graph_of e w1)) low s.last s.end).1
  pub lasts : last a.last (stretch_at (graph_of e w1) low a.last a.end).0
      ≡ last s.last (stretch left (partners 1024 (graph_of e w1)) low s.last s.end).0
  pub joins : Joins e w1 s.slot s.last s.end
  pub below : s.end < 1024

module _ {e : ℕ} {w1 : List ℕ} {low left : ℕ} {a s : Stop} (h : Walking e w1 low a s left) where
  abbrev pub ps : ℕ → List ℕ
  ps = partners 1024 (graph_of e w1)

  -- the walk stops here
  pub walk_stops : stretch left ps low s.last s.end ≡ ([], s.end)
      → Stops e w1 a.last (stretch_at (graph_of e w1) low a.last a.end) s
  walk_stops q = record {
    end = sym (h.ends ∙ ap (λ (r : ReadRow). r.1) q);
    last = sym (h.lasts ∙ ap (λ (r : ReadRow). last s.last r.0) q);
    joins = h.joins;
    below = h.below;
  }

  -- no fuel is left
  pub walk_out : left ≡ 0 → Stops e w1 a.last (stretch_at (graph_of e w1) low a.last a.end) s
  unfolding stretch
  walk_out z = walk_stops (rw z refl)

  -- it goes on
  pub walk_on : {left' : ℕ} → left ≡ suc left' → low ≤ s.end → length (partners 1024 (graph_of e w1) s.end) ≡ 2
      → {t : Stop} → Onward e w1 s t → Walking e w1 low a t left'
  unfolding stretch
  walk_on {left'} z on two {t} o = go (ps s.end) refl
    where
      go : (xs : List ℕ) → ps s.end ≡ xs → Walking e w1 low a t left'
      go [] q = absurd (omega (arith, ap length q))
      go (c ∷ []) q = absurd (omega (arith, ap length q))
      go (c ∷ d ∷ []) q =
          let here : stretch left ps low s.last s.end
          ≡ (s.end ∷ (stretch left' ps low s.end t.end).0, (stretch left' ps low s.end t.end).1) =
          rw (z, q, fails (lt_test s.end low) (λ l. omega arith), o.next.partner c d q) in
          record {
            ends = rw o.last (h.ends ∙ ap (λ (r : ReadRow). r.1) here);
            lasts = rw o.last (h.lasts ∙ ap (λ (r : ReadRow). last s.last r.0) here);
            joins = rw o.last o.next.joins;
            below = o.next.below;
          }
      go (c ∷ d ∷ x ∷ xs) q = absurd (omega (arith, ap length q))
