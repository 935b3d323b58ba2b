-- The wrong turns that the description names, each computed beside the right way: `(wrong, right)`. That a row whose
-- two ends are one cell is no chain is a row of the table (specs/Worked).
use mathlib.Core.Path.{◌≡◌, refl}
use mathlib.Core.Bool.{not, cond, ◌&&◌}
use mathlib.Core.List.{List, [], ◌∷◌, ◌++◌}
use mathlib.Core.Option.{Option, some, none}
use Prim.Native.Nat.{ℕ, ◌%◌}
use Rattle.matching.specs.Pairs.{Pair, Points, keep, hit, same, like, held}
use Rattle.matching.specs.Listed.{Entry, listed, points, filed}
use Rattle.matching.specs.Graph.{partners, put, dropped}
use Rattle.matching.specs.Best.{H, best, tie, walk}
use Rattle.matching.specs.Steps.{Rule, by_leaf, by_ring, Step, leaf, ring, chain, leafed, ringed, chained, apply}
use Rattle.matching.specs.Steps.{undo}
use Rattle.matching.specs.Find.{step_at}
use Rattle.matching.specs.Slip.{replay, left, lift}
use Rattle.matching.specs.Worked.{path, direct, chain1}

-- What f says of a list of n cells and the steps of a slip.
abbrev on : {A : Type 0} → ℕ → List Entry → List (Rule × ℕ) → (Points → List Step → A) → Option A
on n l s f = elim (replay n (listed l) s) [ none ↦ none | some ss ↦ some (f (listed l) ss) ]

-- The way back through all the steps, by another way back of one step.
abbrev Back : Type 0
Back = Points → Step → List Pair → List Pair

abbrev lift_by : Back → Points → List Step → List Pair → List Pair
lift_by back w [] m = m
lift_by back w (s ∷ ss) m = back w s (lift_by back (apply w s) ss m)

-- 'Keeping points in 20 bits.'
pub points_in_20_bits : (on 4 (path 1048575) chain1 (λ w ss. left w ss 0 3 % 1048576) ≡ some 1048573)
    × (on 4 (path 1048575) chain1 (λ w ss. left w ss 0 3) ≡ some 2097149)
unfolding listed partners step_at put dropped H chained
points_in_20_bits = (refl, refl)

-- 'Using the unweighted leaf rule': the leaf's pair is taken always.
abbrev plain : Back
plain w (leaf u v) m = (u, v) ∷ m
plain w (ring u z inner) m = undo w (ring u z inner) m
plain w (chain u v z inner) m = undo w (chain u v z inner) m

abbrev light : List Entry
light = (0, 1, 3) ∷ (1, 2, 8) ∷ []

pub unweighted_leaf : (on 3 light ((by_leaf, 0) ∷ []) (λ w ss. points light (lift_by plain w ss [])) ≡ some 3)
    × (on 3 light ((by_leaf, 0) ∷ (by_leaf, 1) ∷ []) (λ w ss. points light (lift w ss [])) ≡ some 8)
unfolding listed partners step_at leafed hit like
unweighted_leaf = (refl, refl)

-- 'Undoing steps in slip order': the pair of ring 1 is not held yet when the ring is undone.
abbrev in_slip_order : Points → List Step → List Pair → List Pair
in_slip_order w [] m = m
in_slip_order w (s ∷ ss) m = in_slip_order (apply w s) ss (undo w s m)

abbrev triangle : List Entry
triangle = (0, 1, 5) ∷ (0, 2, 4) ∷ (1, 2, 3) ∷ []

abbrev ring_leaf : List (Rule × ℕ)
ring_leaf = (by_ring, 1) ∷ (by_leaf, 0) ∷ []

pub undone_in_slip_order : (on 3 triangle ring_leaf (λ w ss. filed (in_slip_order w ss [])) ≡ some ((1, 2) ∷ []))
    × (on 3 triangle ring_leaf (λ w ss. filed (lift w ss [])) ≡ some ((0, 1) ∷ []))
unfolding listed partners step_at put dropped H best tie leafed ringed hit like
undone_in_slip_order = (refl, refl)

-- 'On the way back, replacing a direct pair u, v that outweighed the chain.'
abbrev replacing : Back
replacing w (leaf u v) m = undo w (leaf u v) m
replacing w (ring u z inner) m = undo w (ring u z inner) m
replacing w (chain u v z inner) m =
    best tie w off (walk u inner v)
    ++ keep (λ a b. not (same u z a b) && (not (same v z a b) && not (same u v a b))) m
  where
    off : List ℕ
    off = cond (held u z m) (v ∷ []) (cond (held v z m) (u ∷ []) (cond (held u v m) [] (u ∷ v ∷ [])))

abbrev scored : (Points → List Step → List Pair → List Pair) → Option ℕ
scored lifting = on 6 (direct 25) chain1 (λ w ss. points (direct 25) (lifting w ss ((0, 3) ∷ [])))

pub replaced_direct_pair : (scored (lift_by replacing) ≡ some 20) × (scored lift ≡ some 26)
unfolding listed partners step_at put dropped H best tie chained hit like
replaced_direct_pair = (refl, refl)
