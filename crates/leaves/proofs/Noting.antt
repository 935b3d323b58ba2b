-- The words of a run. In order: a part of a buffer that is filled word by word (`part_start`, `part_on`), the trail and
-- the names so far (`Words`): how they start (`words_start`), a step more (`words_on`), and that words aside do not
-- change them (`names_kept`, `words_kept`); the trail of leaf steps (`trail_leaves`). Assumes nothing.
use mathlib.Core.Path.{◌≡◌, refl, sym, ap, ◌∙◌}
use mathlib.Core.Logic.{inl, inr}
use mathlib.Core.List.{List, [], ◌∷◌, ◌++◌, map, map-append, append-nil, append_assoc}
use Prim.Native.Nat.{ℕ, suc, ◌+◌, ◌≤◌, ◌<◌}
use native.Mathlib.Omega.{arith}
use lib.ListN.{length, get_or, set, take, drop, length-append, length-drop}
use lib.Seq.{take-set-le, take-suc-set, drop-set-lt, drop-set-add, length-take-le, get_or-take, get_or-drop, ext_get_or}
use Rattle.buffers.specs.Map.{trail_room, at_names}
use Rattle.matching.specs.Pairs.{Points}
use Rattle.matching.specs.Steps.{leaf, apply}
use Rattle.slots.specs.Slots.{Aside}
use Rattle.trail.specs.Trail.{closing, step_words, trail}
use Rattle.slots.proofs.Holding.{holds_room}
use Rattle.slots.specs.declared.graph.WorkingGraph.{WorkingGraph}
use Rattle.trail.proofs.TakenRow.{trail_kept}
use Rattle.leaves.specs.Runs.{leaves_at, Words, leaf_words}

-- ---- a part that is filled

module _ (f : ℕ → ℕ) (s : ℕ) (w : List ℕ) where
  part_start : take (s + 0) w ≡ take s w ++ map f []
  part_start = ap (λ i. take i w) {x = s + 0} {y = s} (omega arith) ∙ sym (append-nil (take s w))

  part_on : (w' xs : List ℕ) (v : ℕ) → take (s + length xs) w' ≡ take s w ++ map f xs → s + length xs < length w'
      → take (s + length (xs ++ v ∷ [])) (set w' (s + length xs) (f v)) ≡ take s w ++ map f (xs ++ v ∷ [])
  part_on w' xs v h l =
      ap (λ i. take i (set w' (s + length xs) (f v))) {x = s + length (xs ++ v ∷ [])} {y = suc (s + length xs)}
      (omega (arith, length-append xs (v ∷ [])))
      ∙ take-suc-set w' (s + length xs) (f v) l
      ∙ ap (λ ys. ys ++ f v ∷ []) h
      ∙ append_assoc (take s w) (map f xs) (f v ∷ [])
      ∙ ap (λ ys. take s w ++ ys) (sym (map-append f xs (v ∷ [])))

-- the names in two graphs
pub names_kept : (g g' : WorkingGraph) (k : ℕ) → k ≤ 1024
    → ((j : ℕ) → at_names ≤ j → get_or g'.w2.now j 0 ≡ get_or g.w2.now j 0)
    → take k (drop at_names g'.w2.now) ≡ take k (drop at_names g.w2.now)
names_kept g g' k m h =
    let now = length-take-le k (drop at_names g'.w2.now)
    (omega (arith, holds_room g'.holds, length-drop at_names g'.w2.now)) in
    let was = length-take-le k (drop at_names g.w2.now)
    (omega (arith, holds_room g.holds, length-drop at_names g.w2.now)) in
    ext_get_or 0 (take k (drop at_names g'.w2.now)) (take k (drop at_names g.w2.now)) (now ∙ sym was)
    (λ i l. (let b : i < k = omega (arith, now) in
    get_or-take k (drop at_names g'.w2.now) i 0 b ∙ get_or-drop at_names g'.w2.now i 0
    ∙ h (at_names + i) (omega arith)
    ∙ sym (get_or-take k (drop at_names g.w2.now) i 0 b ∙ get_or-drop at_names g.w2.now i 0)))

-- ---- the trail and the names

pub words_start : (t k u : ℕ) (w2 : List ℕ) → Words t k u [] w2 w2
words_start t k u w2 = record {
  trail = part_start (λ v. closing 1 u v 0 0 0) t w2;
  names = part_start (λ v. 1024 + v) k (drop at_names w2);
}

module _ {t k u : ℕ} {cells w2 w2' : List ℕ} (h : Words t k u cells w2 w2') (room : 8192 ≤ length w2')
    (tr : t + length cells < trail_room) (nr : k + length cells < 1024) where
  pub words_on : (v : ℕ)
      → Words t k u (cells ++ v ∷ []) w2
      (set (set w2' (t + length cells) (closing 1 u v 0 0 0)) (at_names + (k + length cells)) (1024 + v))
  words_on v = record {
    trail =
        take-set-le (t + length (cells ++ v ∷ [])) (set w2' (t + length cells) (closing 1 u v 0 0 0))
        (at_names + (k + length cells)) (1024 + v) (omega (arith, length-append cells (v ∷ [])))
        ∙ part_on (λ x. closing 1 u x 0 0 0) t w2 w2' cells v h.trail (omega arith);
    names =
        ap (take (k + length (cells ++ v ∷ [])))
        (drop-set-add at_names (set w2' (t + length cells) (closing 1 u v 0 0 0)) (k + length cells) (1024 + v)
        ∙ ap (λ ws. set ws (k + length cells) (1024 + v))
        (drop-set-lt at_names w2' (t + length cells) (closing 1 u v 0 0 0) (omega arith)))
        ∙ part_on (λ x. 1024 + x) k (drop at_names w2) (drop at_names w2') cells v h.names
        (omega (arith, length-drop at_names w2'));
  }

-- words aside of these
pub words_kept : {t k u : ℕ} {cells w2 : List ℕ} (g g' : WorkingGraph) → Words t k u cells w2 g.w2.now
    → Aside g.w2.now g'.w2.now → t + length cells ≤ trail_room → k + length cells ≤ 1024
    → Words t k u cells w2 g'.w2.now
words_kept {t} {k} {u} {cells} {w2} g g' h a tr nr = record {
  trail = trail_kept g g' (t + length cells) tr (λ j m. a j (inl m)) ∙ h.trail;
  names = names_kept g g' (k + length cells) nr (λ j m. a j (inr m)) ∙ h.names;
}

-- the trail of leaf steps
pub trail_leaves : (w : Points) (u : ℕ) (cells : List ℕ) → trail w (leaves_at u cells) ≡ leaf_words u cells
unfolding step_words
trail_leaves w u [] = refl
trail_leaves w u (c ∷ cs) = ap (λ ws. closing 1 u c 0 0 0 ∷ ws) (trail_leaves (apply w (leaf u c)) u cs)
