-- The partners of the lowest place of a set, tried one by one. In order: one more try; the partner had so far
-- (`Tried`), from before the first try to after the last, where its word is the set's (`tried_all`); that it stands
-- before the places still to be tried (`Earlier`).
use mathlib.Core.Path.{◌≡◌, sym, ap, ◌∙◌}
use mathlib.Core.Logic.{◌≢◌}
use mathlib.Core.List.{List, ◌∷◌}
use Rattle.std.specs.Prelude.{None, Some}
use Rattle.std.specs.Option.{IfSome}
use Rattle.std.proofs.lemmas.Option.{IfSome_then}
use Prim.Native.Nat.{ℕ, ◌+◌, ◌*◌, ◌-◌, ◌/◌, ◌%◌, ◌^◌, ◌≤◌, ◌<◌}
use native.Mathlib.Omega.{arith}
use lib.ListN.{get_or}
use borrow.Author.Tests.{lt-ltb, le-ltb}
use Rattle.matching.specs.Pairs.{Pair, Points, sum}
use Rattle.matching.specs.Solve.{less, tries, solve}
use Rattle.buffers.specs.Map.{unit}
use Rattle.sets.specs.Sets.{in_set, between, heaviest, points, Lowest, partnered, Partner, partner_told, Best}
use Rattle.sets.proofs.Places.{places_less, from, others_from, from_in, from_out, from_end, places_few}
use Rattle.sets.proofs.Places.{without_first, lowest_one}
use Rattle.sets.proofs.Heaviest.{solve_more, word_light}

-- ---- one more try

module _ (f : ℕ → List Pair) (w : Points) (c p : ℕ) (ps : List ℕ) (had : List Pair) where
  try_none : w c p ≤ 0 → tries f w c (p ∷ ps) had ≡ tries f w c ps had
  try_none l = rw (le-ltb 0 (w c p) l)

  module _ {k : List Pair} (e : f p ≡ k) (l : 0 < w c p) where
    try_better : sum w had < w c p + sum w k → tries f w c (p ∷ ps) had ≡ tries f w c ps ((c, p) ∷ k)
    try_better m = rw (e, lt-ltb 0 (w c p) l, lt-ltb (sum w had) (w c p + sum w k) m)

    try_worse : w c p + sum w k ≤ sum w had → tries f w c (p ∷ ps) had ≡ tries f w c ps had
    try_worse m = rw (e, lt-ltb 0 (w c p) l, le-ltb (sum w had) (w c p + sum w k) m)

-- ---- the partner had so far

-- What comes of the places from p on as partners of c, where a pairing is had.
abbrev pub onward : List ℕ → ℕ → ℕ → List ℕ → List Pair → List Pair
onward ws c rest = tries (λ q. solve 12 (between ws) (less q (in_set rest))) (between ws) c

-- Of the lowest place c of the set s, the places from p on of the rest are still to be tried as partners: the word v
-- tells the partner had, and the points with it.
pub record Tried (ws : List ℕ) (s c rest p v : ℕ) : Type 0 where
  pub low : Lowest c s
  pub others : rest ≡ s - 2 ^ c
  pub whole : heaviest ws s ≡ onward ws c rest (from (12 - p) p rest) (partnered ws c rest (partner_told v))
  pub marked : 0 < v % 16
  pub sums : v / 16 ≡ sum (between ws) (partnered ws c rest (partner_told v))
  pub within : Partner rest (partner_told v)

pub tried_first : {ws : List ℕ} {s c b u v : ℕ} → b ≡ 2 ^ c → Lowest c s → Best ws (s - b) u → 0 < v % 16
    → v / 16 ≡ u / 16 → partner_told v ≡ None → Tried ws s c (s - b) (c + 1) v
tried_first {ws} {s} {c} {b} {u} {v} e l h m y o =
    let with_none = ap (partnered ws c (s - b)) o in
    record {
      low = l;
      others = ap (λ (x : ℕ). s - x) e;
      whole = sym (solve_more 12 (between ws) (in_set s) (places_few 12 s))
          ∙ ap (solve 13 (between ws)) (without_first c s e l).1
          ∙ ap (λ ps. onward ws c (s - b) ps (heaviest ws (s - b))) (sym (others_from c s e l))
          ∙ ap (onward ws c (s - b) (from (12 - (c + 1)) (c + 1) (s - b))) (sym with_none);
      marked = m;
      sums = y ∙ h.sums ∙ ap (sum (between ws)) (sym with_none);
      within = rw o tt;
    }

module _ {ws : List ℕ} {s c rest p v : ℕ} (t : Tried ws s c rest p v) where
  abbrev had : List Pair
  had = partnered ws c rest (partner_told v)

  pub tried_all : {k : ℕ} → s < 2 ^ k → k ≤ p → Best ws s v
  tried_all {k} h m =
      let none = from_end (12 - p) k p rest (omega (arith, t.others)) m in
      let done = t.whole ∙ ap (λ ps. onward ws c rest ps had) none in
      record {
        marked = t.marked;
        sums = t.sums ∙ ap (sum (between ws)) (sym done);
        leads = λ {c = d} q o. rw (q, lowest_one d c s o t.low, ← t.others) (t.within, done);
      }

  module _ (l : p < 12) where
    next : heaviest ws s ≡ onward ws c rest (from (12 - (p + 1)) (p + 1) rest) had → Tried ws s c rest (p + 1) v
    next e = record {
      low = t.low;
      others = t.others;
      whole = e;
      marked = t.marked;
      sums = t.sums;
      within = t.within;
    }

    pub tried_fits : {x u : ℕ} → ((i : ℕ) → i < 144 → get_or ws i 0 < unit) → Best ws x u
        → between ws c p + u / 16 < 13 * unit
    tried_fits h b = omega (arith, h (12 * c + p) (omega (arith, t.low.0)), word_light h b)

    pub tried_out : rest / 2 ^ p % 2 ≢ 1 → Tried ws s c rest (p + 1) v
    tried_out n = next (t.whole ∙ ap (λ ps. onward ws c rest ps had) (from_out p rest l n))

    module _ (b : rest / 2 ^ p % 2 ≡ 1) where
      abbrev after : List ℕ
      after = from (12 - (p + 1)) (p + 1) rest

      here : heaviest ws s ≡ onward ws c rest (p ∷ after) had
      here = t.whole ∙ ap (λ ps. onward ws c rest ps had) (from_in p rest l b)

      less_here : solve 12 (between ws) (less p (in_set rest)) ≡ heaviest ws (rest - 2 ^ p)
      less_here = ap (solve 12 (between ws)) (places_less rest p b 12)

      pub tried_light : between ws c p ≤ 0 → Tried ws s c rest (p + 1) v
      tried_light z = next (here ∙ try_none _ (between ws) c p after had z)

      module _ {d u : ℕ} (q : d ≡ 2 ^ p) (e : Best ws (rest - d) u) (z : 0 < between ws c p) where
        -- the points with the partner p
        abbrev with_p : ℕ
        with_p = between ws c p + u / 16

        sums_here : with_p ≡ between ws c p + points ws (rest - 2 ^ p)
        sums_here = ap (λ (x : ℕ). between ws c p + x) (e.sums ∙ ap (λ x. points ws (rest - x)) q)

        pub tried_worse : with_p ≤ v / 16 → Tried ws s c rest (p + 1) v
        tried_worse m =
            next (here ∙ try_worse _ (between ws) c p after had less_here z (omega (arith, sums_here, t.sums)))

        -- the word n tells the partner p, and the points with it
        pub tried_better : v / 16 < with_p → {n : ℕ} → 0 < n % 16 → n / 16 ≡ with_p → partner_told n ≡ Some p
            → Tried ws s c rest (p + 1) n
        tried_better m {n} k r o =
            let told_p = ap (partnered ws c rest) o in
            record {
              low = t.low;
              others = t.others;
              whole = here ∙ try_better _ (between ws) c p after had less_here z
                  (omega (arith, sums_here, t.sums))
                  ∙ ap (onward ws c rest after) (sym told_p);
              marked = k;
              sums = r ∙ sums_here ∙ ap (sum (between ws)) (sym told_p);
              within = rw o (l, b);
            }

-- ---- where the partner had stands

-- The partner that the word v tells, if any, is before the place p.
abbrev pub Earlier : ℕ → ℕ → Type 0
Earlier p v = IfSome (partner_told v) (λ x. x < p)

pub earlier_first : (p v : ℕ) → partner_told v ≡ None → Earlier p v
earlier_first p v o = rw o tt

pub earlier_next : (p v : ℕ) → Earlier p v → Earlier (p + 1) v
earlier_next p v h = IfSome_then (partner_told v) h (λ x h. omega arith)

pub earlier_better : (p n : ℕ) → partner_told n ≡ Some p → Earlier (p + 1) n
earlier_better p n o = rw o (omega arith)
