-- What reading the graph promises.
use Rattle.std.specs.Prelude.{◌≡◌, List, [], ◌∷◌, true, false, cond, ℕ, zero, suc, ◌≤◌, ◌<◌, eqb, get_or}
use Rattle.matching.specs.Pairs.{touches}
use Rattle.matching.specs.Graph.{partners}
use Rattle.slots.specs.Slots.{graph_of, low_of, high_of, Joins}
use Rattle.slots.specs.declared.read.Other.{Other}

-- The only partner of c, and a live slot of theirs.
pub record Only (e : ℕ) (w1 : List ℕ) (c : ℕ) (r : Other) : Type 0 where
  pub partner : partners 1024 (graph_of e w1) c ≡ r.partner ∷ []
  pub joins : Joins e w1 r.slot c r.partner
  pub below : r.partner < 1024

-- Of the two partners of c the one that is not prev, and a live slot of theirs.
pub record Next (e : ℕ) (w1 : List ℕ) (c prev : ℕ) (r : Other) : Type 0 where
  pub partner : (a b : ℕ) → partners 1024 (graph_of e w1) c ≡ a ∷ b ∷ [] → r.partner ≡ cond (eqb a prev) b a
  pub joins : Joins e w1 r.slot c r.partner
  pub below : r.partner < 1024

-- r names the last slot below `to` that has c: its number + 1, or 0 where none has.
pub record LastSlot (w1 : List ℕ) (c to r : ℕ) : Type 0 where
  pub low : r ≤ to
  pub at : (i : ℕ) → r ≡ suc i → touches c (low_of w1 i) (high_of w1 i) ≡ true
  pub past : (j : ℕ) → r ≤ j → j < to → touches c (low_of w1 j) (high_of w1 j) ≡ false

-- Slot i is live and has c.
pub record SlotOf (e : ℕ) (w1 : List ℕ) (c i : ℕ) : Type 0 where
  pub below : i < e
  pub live : 0 < get_or w1 i 0
  pub has : touches c (low_of w1 i) (high_of w1 i) ≡ true

-- Slot r - 1 joins u and v, or r is 0 and no live slot does.
abbrev pub FindSlot : ℕ → List ℕ → ℕ → ℕ → ℕ → Type 0
FindSlot e w1 u v zero = graph_of e w1 u v ≡ 0
FindSlot e w1 u v (suc i) = Joins e w1 i u v
