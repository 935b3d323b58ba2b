-- The working graph in two lent buffers, as append-only slots. Nobody has to believe what stands here: callers go by
-- `graph_of`, the graph that the buffers hold, and by `Holds`, which every function keeps and nobody else looks into.
--
-- First buffer: the weight of slot i at i, 0 where its pair is gone; at `at_cells` + i its cells a < b and two links.
-- Second buffer: from `at_sums` on for each cell the sum of the keys of its live slots, from `at_lasts` on its last
-- slot.
-- A slot is named by its number + 1, and 0 is none, so that cleared buffers hold the empty graph. The link of a slot
-- for one of its cells is the last slot before it that has the cell: a cell's slots are met in falling order.
use Rattle.std.specs.Prelude.{◌≡◌, ◌⊎◌, ◌≢◌, true, cond, List, [], ℕ, zero, suc, ◌+◌, ◌*◌, ◌-◌, ◌/◌, ◌%◌, ◌≤◌, ◌<◌, eqb}
use Rattle.std.specs.Prelude.{ltb, length, get_or, Option, Some, None}
use Rattle.buffers.specs.Map.{at_cells, trail_room, at_sums, at_lasts, at_names}
use Rattle.matching.specs.Pairs.{Points, ι, same, touches}

-- The sum of f below e.
unfoldable pub total : (ℕ → ℕ) → ℕ → ℕ
total f zero = 0
total f (suc e) = f e + total f e

-- What a live slot i adds to the sum of a cell: one in the high bits, the partner, the slot. The sum of up to 1,023 of
-- them shows how many they are; of one alone, its partner and slot.
abbrev pub key : ℕ → ℕ → ℕ
key partner i = 70368744177664 + partner * 16777216 + i

unfoldable pub key_at : ℕ → ℕ → ℕ → ℕ → ℕ → ℕ
key_at c k a b i = cond (ltb 0 k) (cond (eqb a c) (key b i) (cond (eqb b c) (key a i) 0)) 0

-- The words, read: of a slot its weight, cells and links; of a cell its sum and last slot.
pub record Store : Type 0 where
  pub weight : ℕ → ℕ
  pub low : ℕ → ℕ
  pub high : ℕ → ℕ
  pub low_link : ℕ → ℕ
  pub high_link : ℕ → ℕ
  pub sums : ℕ → ℕ
  pub lasts : ℕ → ℕ

abbrev pub store : List ℕ → List ℕ → Store
store w1 w2 = record {
  weight = λ i. get_or w1 i 0;
  low = λ i. get_or w1 (at_cells + i) 0 % 1024;
  high = λ i. get_or w1 (at_cells + i) 0 / 1024 % 1024;
  low_link = λ i. get_or w1 (at_cells + i) 0 / 1048576 % 8192;
  high_link = λ i. get_or w1 (at_cells + i) 0 / 8589934592;
  sums = λ c. get_or w2 (at_sums + c) 0;
  lasts = λ c. get_or w2 (at_lasts + c) 0;
}

-- How many of the slots below e are live.
unfoldable pub live : ℕ → List ℕ → ℕ
live e w1 = total (λ i. ι (ltb 0 (get_or w1 i 0))) e

-- The weight of a pair: that of the slots below e that join the two cells.
unfoldable pub graph : Store → ℕ → Points
graph s e a b = total (λ i. cond (same (s.low i) (s.high i) a b) (s.weight i) 0) e

-- The last slot below e that has c, its number + 1; 0 where none has.
unfoldable pub last : Store → ℕ → ℕ → ℕ
last s c zero = 0
last s c (suc i) = cond (touches c (s.low i) (s.high i)) (suc i) (last s c i)

-- Slots 0 to e - 1 are in order. `once`: of the slots that join two cells only the last can be live.
pub record Slots (e : ℕ) (s : Store) : Type 0 where
  pub most : e ≤ 4096
  pub cells : (i : ℕ) → i < e → (s.low i < s.high i) × (s.high i < 1024)
  pub once : (i : ℕ) → i < e → graph s i (s.low i) (s.high i) ≡ 0
  pub links : (i : ℕ) → i < e → (s.low_link i ≡ last s (s.low i) i) × (s.high_link i ≡ last s (s.high i) i)
  pub sums : (c : ℕ) → c < 1024 → s.sums c ≡ total (λ i. key_at c (s.weight i) (s.low i) (s.high i) i) e
  pub lasts : (c : ℕ) → c < 1024 → s.lasts c ≡ last s c e

pub record Holds (e : ℕ) (w1 w2 : List ℕ) : Type 0 where
  pub room1 : 8192 ≤ length w1
  pub room2 : 8192 ≤ length w2
  pub slots : Slots e (store w1 w2)

-- The graph that e slots hold.
abbrev pub graph_of : ℕ → List ℕ → Points
graph_of e w1 = graph (store w1 []) e

abbrev pub low_of : List ℕ → ℕ → ℕ
low_of w1 i = get_or w1 (at_cells + i) 0 % 1024

abbrev pub high_of : List ℕ → ℕ → ℕ
high_of w1 i = get_or w1 (at_cells + i) 0 / 1024 % 1024

-- What a slot is named by in a word.
abbrev pub name_of : Option ℕ → ℕ
name_of None = 0
name_of (Some i) = suc i

-- Slot i is live and joins x and y.
pub record Joins (e : ℕ) (w1 : List ℕ) (i x y : ℕ) : Type 0 where
  pub below : i < e
  pub live : 0 < get_or w1 i 0
  pub cells : same (low_of w1 i) (high_of w1 i) x y ≡ true

-- The link of slot i for a cell that it has.
abbrev pub link_of : List ℕ → ℕ → ℕ → ℕ
link_of w1 i c =
    cond (eqb (low_of w1 i) c) (get_or w1 (at_cells + i) 0 / 1048576 % 8192) (get_or w1 (at_cells + i) 0 / 8589934592)

-- The keys of slot i of a, b stand in the sums of w' and not in those of w; nothing else changed.
pub record Added (w w' : List ℕ) (i a b : ℕ) : Type 0 where
  pub low : get_or w' (at_sums + a) 0 ≡ get_or w (at_sums + a) 0 + key b i
  pub high : get_or w' (at_sums + b) 0 ≡ get_or w (at_sums + b) 0 + key a i
  pub others : (j : ℕ) → j ≢ at_sums + a → j ≢ at_sums + b → get_or w' j 0 ≡ get_or w j 0

-- Words of the second buffer that are not the graph's (the trail, the slip) did not change.
abbrev pub Aside : List ℕ → List ℕ → Type 0
Aside w w' = (j : ℕ) → (j < trail_room) ⊎ (at_names ≤ j) → get_or w' j 0 ≡ get_or w j 0

-- What a change promises: the buffers hold the graph g in e slots, and nothing aside changed.
pub record Changed (e : ℕ) (g : Points) (w1' w2 w2' : List ℕ) : Type 0 where
  pub holds : Holds e w1' w2'
  pub graph : graph_of e w1' ≡ g
  pub aside : Aside w2 w2'

-- Every pair at u loses p, never below zero.
unfoldable pub less_all : ℕ → ℕ → Points → Points
less_all u p g a b = cond (touches u a b) (g a b - p) (g a b)

-- The words of other slots did not change.
abbrev pub Beyond : ℕ → List ℕ → List ℕ → Type 0
Beyond e w w' = (k : ℕ) → k ≢ e → k ≢ at_cells + e → get_or w' k 0 ≡ get_or w k 0

-- The cells below n have no slot.
abbrev pub NoSlots : ℕ → List ℕ → Type 0
NoSlots n w = (c : ℕ) → c < n → (get_or w (at_sums + c) 0 ≡ 0) × (get_or w (at_lasts + c) 0 ≡ 0)
