-- The other cell of a slot (`other`), and the only partner of a cell with one live slot, whose sum is the key of that
-- slot alone (`sole`, `only_of`). Assumes nothing.
use mathlib.Core.Path.{◌≡◌, sym, ◌∙◌}
use mathlib.Core.Logic.{inl, inr, ◌≢◌}
use mathlib.Core.Bool.{Bool, cond}
use mathlib.Core.List.{List, [], ◌∷◌}
use Prim.Native.Nat.{ℕ, ◌+◌, ◌-◌, ◌/◌, ◌%◌, ◌≤◌, ◌<◌}
use native.Mathlib.Omega.{arith}
use lib.ListN.{get_or}
use Rattle.buffers.specs.Map.{at_sums}
use Rattle.matching.specs.Pairs.{hit}
use Rattle.matching.specs.Graph.{partners, degree}
use Rattle.matching.proofs.Tests.{Test, pass, fail, lt_test}
use Rattle.matching.proofs.Pairs.{Same}
use Rattle.matching.proofs.Sums.{hit_none, hit_one}
use Rattle.matching.proofs.Partners.{partners_one}
use Rattle.slots.specs.Slots.{key, Store, store, graph, Slots, Holds, graph_of}
use Rattle.slots.specs.Found.{Only}
use Rattle.slots.specs.declared.read.Other.{Other}
use Rattle.slots.proofs.Totals.{total_only, One, total_one}
use Rattle.slots.proofs.Keys.{key_of, key_dead, key_low, key_high, key_off, key_parts}
use Rattle.slots.proofs.Graphs.{same_is, graph_same_pair, slots_graph, alone}
use Rattle.slots.proofs.Links.{Has, has_test}
use Rattle.slots.proofs.Degrees.{live, degree_live}

-- ---- the other cell of a slot

-- The cell that slot i joins c to.
abbrev pub other : Store → ℕ → ℕ → ℕ
other s i c = s.low i + s.high i - c

module _ (e : ℕ) (s : Store) (h : Slots e s) (c i : ℕ) (l : i < e) (on : Has s i c) where
  other_same : Same (s.low i) (s.high i) c (other s i c)
  other_same = go on
    where
      go : Has s i c → Same (s.low i) (s.high i) c (other s i c)
      go (inl q) = inl (sym q, omega arith)
      go (inr q) = inr (sym q, omega arith)

  pub other_low : other s i c < 1024
  other_low = go on
    where
      go : Has s i c → other s i c < 1024
      go (inl q) = omega (arith, h.cells i l)
      go (inr q) = omega (arith, h.cells i l)

  pub other_key : 0 < s.weight i → key_of s c i ≡ key (other s i c) i
  other_key p = go on
    where
      go : Has s i c → key_of s c i ≡ key (other s i c) i
      go (inl q) = omega (arith, key_low c (s.weight i) (s.low i) (s.high i) i p q)
      go (inr q) =
          omega (arith, key_high c (s.weight i) (s.low i) (s.high i) i p (omega (arith, h.cells i l)) q)

  pub other_points : 0 < s.weight i → graph s e c (other s i c) ≡ s.weight i
  other_points p = graph_same_pair s e other_same ∙ alone s e i l h.once p

-- ---- one live slot

-- x is the only live slot of c, and y the only partner.
pub record Sole (e : ℕ) (s : Store) (c x y : ℕ) : Type 0 where
  pub slot : x < e
  pub live : 0 < s.weight x
  pub cells : Same (s.low x) (s.high x) c y
  pub partner : partners 1024 (graph s e) c ≡ y ∷ []
  pub low : y < 1024

module _ (e : ℕ) (s : Store) (h : Slots e s) (c : ℕ) where
  abbrev Live : ℕ → Bool → Type 0
  Live i t = Test (0 < s.weight i) (s.weight i ≤ 0) t

  abbrev Touch : ℕ → Bool → Type 0
  Touch i t = Test (Has s i c) ((s.low i ≢ c) × (s.high i ≢ c)) t

  live_one : (i : ℕ) → live s c i ≡ 1 → (0 < s.weight i) × Has s i c
  unfolding live
  live_one i = go (lt_test 0 (s.weight i)) (has_test s i c)
    where
      go : {t r : Bool} → Live i t → Touch i r → cond t (hit c (s.low i) (s.high i)) 0 ≡ 1
          → (0 < s.weight i) × Has s i c
      go (pass p) (pass q) k = (p, q)
      go (pass p) (fail n) k = absurd (omega (arith, hit_none c (s.low i) (s.high i) n.0 n.1))
      go (fail p) y k = absurd (omega arith)

  live_none : (i : ℕ) → i < e → live s c i ≡ 0 → key_of s c i ≡ 0
  unfolding live
  live_none i l = go (lt_test 0 (s.weight i)) (has_test s i c)
    where
      go : {t r : Bool} → Live i t → Touch i r → cond t (hit c (s.low i) (s.high i)) 0 ≡ 0 → key_of s c i ≡ 0
      go (pass p) (pass q) k =
          absurd (omega (arith, hit_one c (s.low i) (s.high i) q (omega (arith, h.cells i l))))
      go (pass p) (fail n) k = key_off c (s.weight i) (s.low i) (s.high i) i n.0 n.1
      go (fail p) y k = key_dead c (s.weight i) (s.low i) (s.high i) i (omega arith)

  pub sole : c < 1024 → degree 1024 (graph s e) c ≡ 1
      → Sole e s c (s.sums c % 16777216) (s.sums c / 16777216 % 4194304)
  sole lc d = by (total_one (live s c) e (degree_live e s h c ∙ d))
    where
      at : (i : ℕ) → i < e → (0 < s.weight i) × Has s i c → s.sums c ≡ key_of s c i
          → Sole e s c (s.sums c % 16777216) (s.sums c / 16777216 % 4194304)
      at i l (p, on) q =
          let r : (s.sums c % 16777216 ≡ i) × (s.sums c / 16777216 % 4194304 ≡ other s i c) =
          key_parts (other s i c) i (s.sums c) (q ∙ other_key e s h c i l on p) (other_low e s h c i l on)
          (omega (arith, h.most)) in
          rw (r.0, r.1) record {
            slot = l;
            live = p;
            cells = other_same e s h c i l on;
            partner = partners_one (slots_graph e s h) c _ d (omega (arith, other_points e s h c i l on p));
            low = other_low e s h c i l on;
          }

      by : One (live s c) e → Sole e s c (s.sums c % 16777216) (s.sums c / 16777216 % 4194304)
      by o =
          at o.at o.low (live_one o.at o.one)
          (h.sums c lc ∙ total_only (key_of s c) e o.at o.low (λ j m n. live_none j m (o.none j m n)))

pub only_of : {e : ℕ} {w1 w2 : List ℕ} → Holds e w1 w2 → (c : ℕ) → c < 1024 → degree 1024 (graph_of e w1) c ≡ 1
    → (r : Other) → r.slot ≡ get_or w2 (at_sums + c) 0 % 16777216
    → r.partner ≡ get_or w2 (at_sums + c) 0 / 16777216 % 4194304
    → Only e w1 c r
unfolding graph
only_of {e} {w1} {w2} h c l d r q k =
    let o : Sole e (store w1 w2) c r.slot r.partner = rw (q, k) (sole e (store w1 w2) h.slots c l d) in
    record {
      partner = o.partner;
      joins = record { below = o.slot; live = o.live; cells = same_is o.cells };
      below = o.low;
    }
