-- On a graph of n cells more cells change nothing. In order: it is a graph of k cells too (`graph_to`); its degrees
-- (`degree_more`), what stands at a rule and a cell (`is_more`, `is_less`), the step that is found there (`step_more`),
-- the first step of all (`first_more`) and the short list (`short_more`) are the same. Assumes nothing.
use mathlib.Core.Path.{◌≡◌, refl, sym, ap, ap₂, fun_ext, ◌∙◌}
use mathlib.Core.Logic.{◌≢◌, ⊎_map}
use mathlib.Core.Bool.{Bool, true, false, cond, ◌&&◌}
use mathlib.Core.List.{List, [], ◌∷◌, ◌++◌, append-nil}
use mathlib.Core.Option.{Option, some, none}
use Prim.Native.Nat.{ℕ, zero, suc, ◌≤◌}
use native.Mathlib.Omega.{arith}
use lib.Dec.{ltb}
use lib.ListN.{length}
use Rattle.matching.specs.Pairs.{Points}
use Rattle.matching.specs.Listed.{Entry, short_at, short_below, short_list}
use Rattle.matching.specs.Graph.{Graph, degree}
use Rattle.matching.specs.Steps.{Rule, by_leaf, by_ring, by_chain, Step, leaf, ring, chain}
use Rattle.matching.specs.Shapes.{IsRow, IsStep}
use Rattle.matching.specs.Find.{or_else, search, step_at, first_step_of}
use Rattle.matching.proofs.Tests.{Test, pass, fail, eq_test}
use Rattle.matching.proofs.Partners.{partners_more}
use Rattle.matching.proofs.Find.{step_is, step_found, step_none}

-- what does not change from n on, is at k what it is at n
no_change : {A : Type 0} (f : ℕ → A) (n k : ℕ) → n ≤ k → ((b : ℕ) → n ≤ b → f (suc b) ≡ f b) → f k ≡ f n
no_change f n zero l same = ap f {x = 0} {y = n} (omega arith)
no_change f n (suc k) l same = go (eq_test n (suc k)) (λ h. no_change f n k h same)
  where
    go : {t : Bool} → Test (n ≡ suc k) (n ≢ suc k) t → (n ≤ k → f k ≡ f n) → f (suc k) ≡ f n
    go (pass e) i = ap f (sym e)
    go (fail d) i = same k (omega (arith, d)) ∙ i (omega (arith, d))

-- ---- what stands at a rule and a cell, by the degrees alone

module _ (n k : ℕ) (w : Points) (same : (c : ℕ) → degree n w c ≡ degree k w c) where
  row_by : {u v : ℕ} {inner : List ℕ} → IsRow n w u inner v → IsRow k w u inner v
  row_by r = record {
    live = r.live;
    two = λ c m. sym (same c) ∙ r.two c m;
    apart = r.apart;
    first_off = r.first_off;
    last_off = r.last_off;
    more = r.more;
  }

  not_two_by : (c : ℕ) → degree n w c ≢ 2 → degree k w c ≢ 2
  not_two_by c d e = d (same c ∙ e)

  is_by : (r : Rule) (c : ℕ) (s : Step) → IsStep n w r c s → IsStep k w r c s
  is_by by_leaf c (ring u z inner) p = elim p [ ]
  is_by by_leaf c (chain u v z inner) p = elim p [ ]
  is_by by_ring c (leaf u v) p = elim p [ ]
  is_by by_ring c (chain u v z inner) p = elim p [ ]
  is_by by_chain c (leaf u v) p = elim p [ ]
  is_by by_chain c (ring u z inner) p = elim p [ ]
  is_by by_leaf c (leaf u v) p = (p.0, record { one = sym (same v) ∙ p.1.one; pair = p.1.pair })
  is_by by_ring c (ring u z inner) p = (
    p.0,
    record {
      row = row_by p.1.row;
      low = p.1.low;
      at = ⊎_map (not_two_by u) (λ l. l) p.1.at;
      towards = p.1.towards;
    },
  )
  is_by by_chain c (chain u v z inner) p = (
    p.0,
    record {
      row = row_by p.1.row;
      low = p.1.low;
      ends = p.1.ends;
      first_end = not_two_by u p.1.first_end;
      last_end = not_two_by v p.1.last_end;
    },
  )

-- ---- more cells

-- The first of all, by the steps that each rule has at each cell.
abbrev first_of : (Rule → ℕ → Option Step) → ℕ → Option Step
first_of at n = or_else (search (at by_leaf) n) (or_else (search (at by_ring) n) (search (at by_chain) n))

module _ {n : ℕ} {w : Points} (g : Graph n w) (k : ℕ) (le : n ≤ k) where
  pub graph_to : Graph k w
  graph_to = record {
    turned = g.turned;
    loop = g.loop;
    top = λ a b h. g.top a b (omega (arith, le));
  }

  pub degree_more : (c : ℕ) → degree k w c ≡ degree n w c
  degree_more c = ap length (partners_more g k c le)

  pub is_more : (r : Rule) (c : ℕ) (s : Step) → IsStep n w r c s → IsStep k w r c s
  is_more = is_by n k w (λ c. sym (degree_more c))

  pub is_less : (r : Rule) (c : ℕ) (s : Step) → IsStep k w r c s → IsStep n w r c s
  is_less = is_by k n w degree_more

  pub step_more : (r : Rule) (c : ℕ) → step_at k w r c ≡ step_at n w r c
  step_more r c = go (step_at n w r c) refl
    where
      go : (o : Option Step) → step_at n w r c ≡ o → step_at k w r c ≡ o
      go none e = (step_none graph_to r c).1 (λ s p. (step_none g r c).0 e s (is_less r c s p))
      go (some s) e = step_found graph_to r c s (is_more r c s (step_is g r c s e))

  pub first_more : or_else (search (step_at k w by_leaf) n)
      (or_else (search (step_at k w by_ring) n) (search (step_at k w by_chain) n)) ≡ first_step_of n w
  unfolding first_step_of
  first_more = ap (λ at. first_of at n) (fun_ext (λ r. fun_ext (λ c. step_more r c)))

  -- ---- the short list

  -- no entry at cells that have no pair
  none_at : (a b : ℕ) → w a b ≡ 0 → short_at w a (suc b) ≡ short_at w a b
  none_at a b z =
      ap (λ (x : ℕ). short_at w a b ++ cond (ltb a b && ltb 0 x) (e ∷ []) []) z
      ∙ ap (λ es. short_at w a b ++ es) (nothing (ltb a b))
      ∙ append-nil (short_at w a b)
    where
      e : Entry
      e = (a, b, w a b)

      nothing : (t : Bool) → cond (t && false) (e ∷ []) [] ≡ []
      nothing true = refl
      nothing false = refl

  none_of : (a : ℕ) → n ≤ a → (b : ℕ) → short_at w a b ≡ []
  none_of a h zero = refl
  none_of a h (suc b) = none_at a b (g.turned a b ∙ g.top b a h) ∙ none_of a h b

  below_more : (a : ℕ) → short_below k w a ≡ short_below n w a
  below_more zero = refl
  below_more (suc a) =
      ap₂ ◌++◌ (below_more a) (no_change (short_at w a) n k le (λ b h. none_at a b (g.top a b h)))

  pub short_more : short_list k w ≡ short_list n w
  short_more =
      below_more k
      ∙ no_change (short_below n w) n k le (λ a h. ap (λ es. short_below n w a ++ es) (none_of a h n)
      ∙ append-nil (short_below n w a))
