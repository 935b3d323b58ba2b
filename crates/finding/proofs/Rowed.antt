-- What the search for a row by two walks answers: nothing (`none_by`), a ring (`ring_by`), a chain (`chain_by`).
use mathlib.Core.Path.{◌≡◌, refl, sym, subst, ◌∙◌}
use mathlib.Core.Logic.{◌≢◌}
use mathlib.Core.Bool.{Bool, true, false}
use mathlib.Core.List.{List}
use mathlib.Core.Option.{some, none}
use Rattle.std.specs.Prelude.{Some, None}
use Prim.Native.Nat.{ℕ, ◌<◌}
use Rattle.matching.specs.Pairs.{Points}
use Rattle.matching.specs.Graph.{Graph, degree}
use Rattle.matching.specs.Steps.{Rule, by_leaf, by_ring, by_chain, ring, chain}
use Rattle.matching.specs.Shapes.{last}
use Rattle.slots.specs.Slots.{Holds, graph_of, Joins}
use Rattle.slots.proofs.Graphs.{holds_graph}
use Rattle.slots.proofs.Holding.{joins_pair}
use Rattle.slots.proofs.Scanning.{joins_turned}
use Rattle.cellfile.specs.Kinds.{as_rule}
use Rattle.cellfile.specs.declared.format.Rule as rules
use Rattle.cellfile.specs.declared.format.Rule.TheVariants.{Leaf, Ring, Chain}
use Rattle.finding.specs.Walks.{stretch_at, Stops}
use Rattle.finding.specs.Finding.{Tells, RingTest, ChainTest, StepBy, FindsBy}
use Rattle.finding.specs.declared.Stop.{Stop}
use Rattle.finding.specs.declared.Step.TheVariants as found
use Rattle.finding.proofs.Ways.{out_of, end_of, nearest_end, back_of, ring_shown, chain_shown, back_starts, ring_none}
use Rattle.finding.proofs.Ways.{chain_none}

-- A rule that is neither a leaf's nor a ring's is a chain's.
pub chain_left : (r : rules.Rule) → as_rule r ≢ by_leaf → r ≢ Ring → as_rule r ≡ by_chain
chain_left Leaf d n = absurd (d refl)
chain_left Ring d n = absurd (n refl)
chain_left Chain d n = refl

-- What a test tells.
pub tells_yes : (P : Type 0) {t : Bool} → Tells P t → t ≡ true → P
tells_yes P {t} p e = subst (Tells P) e p

pub tells_no : (P : Type 0) {t : Bool} → Tells P t → t ≡ false → P → ⊥
tells_no P {t} p e = subst (Tells P) e p

-- Nothing is found.
pub none_by : {e : ℕ} {w1 : List ℕ} {r : Rule} {c f : ℕ} → StepBy (graph_of e w1) r c f none
    → FindsBy e w1 r c f None
none_by miss = record { found = none; is = miss; finds = refl }

module _ {e : ℕ} {w1 w2 : List ℕ} (h : Holds e w1 w2) {z f i : ℕ} (j : Joins e w1 i z f)
    (two : degree 1024 (graph_of e w1) z ≡ 2) {a : Stop} (sa : Stops e w1 z (out_of (graph_of e w1) z f) a) where
  abbrev w : Points
  w = graph_of e w1

  g : Graph 1024 w
  g = holds_graph h

  way : 0 < w z f
  way = joins_pair h j

  on : 0 < w (end_of w z f) (nearest_end w z f)
  on = rw (sa.end, sa.last) at (joins_pair h (joins_turned sa.joins))

  -- the walk out came back
  pub back_none : (r : Rule) → r ≢ by_leaf → a.end ≡ z → StepBy w r z f none
  back_none by_leaf d q = absurd (d refl)
  back_none by_ring d q = ring_none w z f (λ n t. n (sym sa.end ∙ q))
  back_none by_chain d q = chain_none w z f (λ n t. n (sym sa.end ∙ q))

  module _ {b : Stop} (sb : Stops e w1 a.end (stretch_at w z a.end a.last) b) where
    pub ring_missed : (RingTest w z a.end a.last b.last b.end → ⊥) → StepBy w by_ring z f none
    ring_missed miss = ring_none w z f (λ n t. miss (rw (sb.last, sb.end, sa.end, sa.last) t))

    pub chain_missed : (ChainTest w a.end a.last b.last b.end → ⊥) → StepBy w by_chain z f none
    chain_missed miss = chain_none w z f (λ n t. miss (rw (sb.last, sb.end, sa.end, sa.last) t))

    pub ring_by : RingTest w z a.end a.last b.last b.end
        → FindsBy e w1 by_ring z f (Some (record { step = found.Ring a.end z; first = a.last; slot = a.slot }))
    ring_by t =
        let u : RingTest w z (end_of w z f) (nearest_end w z f) (last (end_of w z f) (back_of w z f).0)
        (back_of w z f).1 =
        rw (sb.last, sb.end, sa.end, sa.last) at t in
        record {
          found = some (ring (end_of w z f) z (back_of w z f).0);
          is = (refl, ring_shown g two way on u);
          finds = record {
            step = rw sa.end;
            way = (
              sa.last ∙ sym (rw u.0 at (back_starts g two way on)),
              rw sa.end at (joins_turned sa.joins),
            );
          };
        }

    pub chain_by : ChainTest w a.end a.last b.last b.end
        → FindsBy e w1 by_chain z f (Some (record { step = found.Chain a.end b.end z; first = a.last; slot = a.slot }))
    chain_by t =
        let u : ChainTest w (end_of w z f) (nearest_end w z f) (last (end_of w z f) (back_of w z f).0)
        (back_of w z f).1 =
        rw (sb.last, sb.end, sa.end, sa.last) at t in
        record {
          found = some (chain (end_of w z f) (back_of w z f).1 z (back_of w z f).0);
          is = (refl, chain_shown g two way on u);
          finds = record {
            step = rw (sb.end, sa.end, sa.last);
            way = (sa.last ∙ sym (back_starts g two way on), rw sa.end at (joins_turned sa.joins));
          };
        }
