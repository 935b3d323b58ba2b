-- What the parts of undoing a step ask and leave. Inner contracts cite this.
use Rattle.std.specs.Prelude.{◌≡◌, Bool, not, cond, ◌&&◌, ◌||◌, List, [], ◌∷◌, ◌++◌, ℕ, ◌+◌, ◌≤◌, ◌<◌}
use Rattle.std.specs.Prelude.{length, take, drop}
use Rattle.buffers.specs.Map.{trail_room, unit}
use Rattle.matching.specs.Pairs.{Pair, Points, Each, keep, same, held}
use Rattle.matching.specs.Pairing.{Pairing, Once}
use Rattle.matching.specs.Graph.{Graph}
use Rattle.matching.specs.Shapes.{IsStep}
use Rattle.matching.specs.Steps.{Step, ring, chain, name, apply, added, undo, outweighs}
use Rattle.matching.specs.Origin.{Origin, Origins, number_in}
use Rattle.rows.specs.Row.{words_of_row, marked, less}
use Rattle.trail.specs.Trail.{row_pairs}
use Rattle.partners.specs.Table.{IsFrom, Mates, TableOnly}
use Rattle.undoing.specs.declared.Ends.{Ends}

-- The table has the pairing m now; the trail did not change.
pub record TableOf (w2 w2' : List ℕ) (from : Origins) (m : List Pair) : Type 0 where
  pub mates : Mates w2' from m
  pub aside : TableOnly w2 w2'

-- ---- the pairs of a row

-- The words of a row on the trail from place a on, one for each mark.
abbrev pub words_at : ℕ → List ℕ → List ℕ → List ℕ
words_at a marks w2 = take (length marks) (drop a w2)

-- A pairing in the table: with the marked pairs of the row, which are from that origin, no cell stands twice.
pub record PutThere (a v : ℕ) (origin : Origin) (marks w2 : List ℕ) : Type 0 where
  pub from : Origins
  pub pairs : List Pair
  pub few : number_in origin < 2048
  pub origins : Each (IsFrom from origin) (marked marks (row_pairs (words_at a marks w2) v))
  pub on_trail : a + length marks ≤ trail_room
  pub below : Each (λ x y. (x < 1024) × (y < 1024)) (row_pairs (words_at a marks w2) v)
  pub once : Once (marked marks (row_pairs (words_at a marks w2) v) ++ pairs)
  pub mates : Mates w2 from pairs

-- ---- the pairs that a step put for its row

-- The ends that a chain's part leaves free, and the pairs that stay: d says that the direct pair does.
abbrev pub chain_off : ℕ → ℕ → ℕ → Bool → List Pair → List ℕ
chain_off u v z d m =
    cond (held u z m) (v ∷ []) (cond (held v z m) (u ∷ []) (cond (held u v m && not d) [] (u ∷ v ∷ [])))

abbrev pub chain_stays : ℕ → ℕ → ℕ → Bool → List Pair → List Pair
chain_stays u v z d m =
    keep (λ a b. not (same u z a b) && (not (same v z a b) && (d || not (same u v a b)))) m

pub record ChainFreed (u v z : ℕ) (d : Bool) (from : Origins) (m : List Pair) (w2 w2' : List ℕ) (r : Ends)
    : Type 0 where
  pub off : less r.less_u u ++ less r.less_v v ≡ chain_off u v z d m
  pub table : TableOf w2 w2' from (chain_stays u v z d m)

pub record RingFreed (u z : ℕ) (from : Origins) (m : List Pair) (w2 w2' : List ℕ) (less_u : Bool) : Type 0 where
  pub off : less less_u u ≡ cond (held u z m) [] (u ∷ [])
  pub table : TableOf w2 w2' from (keep (λ a b. not (same u z a b)) m)

-- ---- a step

-- A step as it stood on the graph w, and a pairing of the graph after it in the table. The pairs that undoing the step
-- puts in are from that origin.
pub record StepBack (origin : Origin) (step : Step) (w2 : List ℕ) : Type 0 where
  pub few : number_in origin < 2048
  pub n : ℕ
  pub w : Points
  pub from : Origins
  pub pairs : List Pair
  pub cells : n ≤ 1024
  pub graph : Graph n w
  pub is : IsStep n w (name step).0 (name step).1 step
  pub small : (a b : ℕ) → w a b < unit
  pub pairing : Pairing (apply w step) pairs
  pub mates : Mates w2 from pairs

-- The new pairs are from that origin, the others from where they were.
abbrev pub stamped_with : Origin → List Pair → Origins → Origins
stamped_with origin new from a b = cond (held a b new) origin (from a b)

-- It is undone.
abbrev pub UndoneTable : {origin : Origin} {step : Step} {w2 : List ℕ} → StepBack origin step w2 → List ℕ → Type 0
UndoneTable {origin} {step} {w2} b w2' =
    TableOf w2 w2' (stamped_with origin (added b.w step b.pairs) b.from) (undo b.w step b.pairs)

-- A ring, and a chain, whose row stands on the trail from place a on.
pub record RingBack (a u z : ℕ) (origin : Origin) (marks w2 : List ℕ) : Type 0 where
  pub inner : List ℕ
  pub back : StepBack origin (ring u z inner) w2
  pub on_trail : a + length marks ≤ trail_room
  pub words : words_at a marks w2 ≡ words_of_row back.w u inner u

pub record ChainBack (a u v z : ℕ) (more : Bool) (origin : Origin) (marks w2 : List ℕ) : Type 0 where
  pub inner : List ℕ
  pub back : StepBack origin (chain u v z inner) w2
  pub on_trail : a + length marks ≤ trail_room
  pub words : words_at a marks w2 ≡ words_of_row back.w u inner v
  pub direct : more ≡ outweighs back.w u v inner
