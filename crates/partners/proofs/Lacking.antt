-- Pairs that the graph in the slots does not have, as they are looked up. Assumes nothing.
use mathlib.Core.Path.{◌≡◌, refl, sym, ap, ◌∙◌}
use Rattle.std.specs.Prelude.{Option, None, Some}
use Rattle.std.specs.Option.{is_some}
use mathlib.Core.Bool.{Bool, true, false, not, ◌&&◌, ◌||◌, true≢false}
use mathlib.Core.List.{List, [], ◌∷◌}
use Prim.Native.Nat.{ℕ}
use native.Mathlib.Omega.{arith}
use lib.Dec.{ltb}
use lib.ListN.{get_or, get_or-map}
use borrow.Author.Tests.{lt-ltb, le-ltb}
use Rattle.matching.specs.Lists.{any}
use Rattle.matching.specs.Pairs.{Pair}
use Rattle.cellfile.specs.Files.{pairing, pairs_of, read_entries, as_pair}
use Rattle.cellfile.specs.Reads.{PairRead}
use Rattle.cellfile.specs.declared.decode.PairEntry.{PairEntry}
use Rattle.slots.specs.Slots.{Holds, graph_of, name_of}
use Rattle.slots.specs.Found.{FindSlot}
use Rattle.slots.proofs.Graphs.{joins_points}
use Rattle.partners.specs.Entering.{all_there}

-- Whether the graph does not have the pair.
abbrev pub is_lacked : ℕ → List ℕ → Pair → Bool
is_lacked e w1 p = not (ltb 0 (graph_of e w1 p.0 p.1))

-- the pair at a place, by the slot that was found for it
module _ {e : ℕ} {w1 w2 : List ℕ} (h : Holds e w1 w2) (s : List ℕ) (i : ℕ) (p : PairEntry) (slot : Option ℕ)
    (b t : Bool) where
  pub lacks_at : PairRead s i p → FindSlot e w1 p.a p.b (name_of slot) → b ≡ t → is_some slot ≡ not t
      → b ≡ is_lacked e w1 (get_or (pairs_of s) i (0, 0))
  lacks_at r f u v =
      u ∙ found slot t f v
      ∙ ap (is_lacked e w1) (ap as_pair r.is ∙ sym (get_or-map as_pair (read_entries pairing s) i []))
    where
      found : (slot : Option ℕ) (t : Bool) → FindSlot e w1 p.a p.b (name_of slot) → is_some slot ≡ not t
          → t ≡ is_lacked e w1 (p.a, p.b)
      found None true f v = rw (le-ltb 0 (graph_of e w1 p.a p.b) (omega (arith, f)))
      found None false f v = absurd (true≢false (sym v))
      found (Some k) true f v = absurd (true≢false v)
      found (Some k) false f v = rw (lt-ltb 0 (graph_of e w1 p.a p.b) (omega (arith, joins_points h f, f.live)))

-- some pair is lacked just where not all are there
pub lacks_any : (e : ℕ) (w1 : List ℕ) (m : List Pair) → any (is_lacked e w1) m ≡ not (all_there (graph_of e w1) m)
lacks_any e w1 [] = refl
lacks_any e w1 (p ∷ m) = go (ltb 0 (graph_of e w1 p.0 p.1)) _ (lacks_any e w1 m)
  where
    go : (t : Bool) {u : Bool} (v : Bool) → u ≡ not v → (not t || u) ≡ not (t && v)
    go true v p = p
    go false v p = refl
