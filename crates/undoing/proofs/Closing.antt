-- The last step on the trail, read from its closing word. In order: the step's words on the trail (`last_word`,
-- `last_row`, `last_trail`); what undoing a leaf, a ring and a chain asks (`leaf_there`, `ring_there`, `chain_there`)
-- and leaves (`leaf_undone`, `ring_undone`, `chain_undone`). Assumes nothing.
use mathlib.Core.Path.{◌≡◌, sym, ap, subst, ◌∙◌}
use mathlib.Core.Bool.{Bool}
use mathlib.Core.List.{List, [], ◌∷◌, ◌++◌, append_assoc}
use mathlib.Core.Option.{some}
use Prim.Native.Nat.{ℕ, ◌+◌, ◌-◌, ◌≤◌}
use native.Mathlib.Omega.{arith}
use lib.ListN.{length, get_or, take, drop, length-append}
use lib.Seq.{length-take-le, take-add, take-take, get_or-take, get_or_at, take_at, drop_at}
use Rattle.buffers.specs.Map.{trail_room}
use Rattle.matching.specs.Pairing.{Pairing}
use Rattle.matching.specs.Shapes.{IsStep}
use Rattle.matching.specs.Steps.{by_leaf, by_ring, by_chain, Step, leaf, ring, chain, name, inside, apply, added, undo}
use Rattle.matching.specs.Origin.{Origin, from_step}
use Rattle.matching.proofs.Find.{is_fits}
use Rattle.cellfile.specs.Answers.{Answer}
use Rattle.finding.specs.Finding.{told, to_tell, as_step}
use Rattle.finding.specs.declared.Step as declared
use Rattle.finding.specs.declared.Step.TheVariants as found
use Rattle.finding.proofs.Told.{told_same}
use Rattle.trail.specs.Trail.{closing_of, Closable, step_in, pairs_in, more_in, row_of, step_words}
use Rattle.trail.proofs.Trail.{step_read, pairs_read, more_read, closable}
use Rattle.partners.specs.Table.{Mates}
use Rattle.undoing.specs.Back.{UndoThere, Undone}
use Rattle.undoing.specs.Unwinding.{stamped_with, words_at, StepBack, UndoneTable, RingBack, ChainBack}
use Rattle.undoing.proofs.Marking.{words_same}

untold : {P : Type 0} (s : Step) → (0, []) ≡ to_tell (some s) → P
untold (leaf u v) q = (let y : 0 ≡ 1 = ap (λ (a : Answer). a.0) q in absurd (omega (arith, y)))
untold (ring u z inner) q = (let y : 0 ≡ 2 = ap (λ (a : Answer). a.0) q in absurd (omega (arith, y)))
untold (chain u v z inner) q = (let y : 0 ≡ 3 = ap (λ (a : Answer). a.0) q in absurd (omega (arith, y)))

module _ {t number : ℕ} {w1 w2 : List ℕ} (h : UndoThere t number w1 w2) (room : 8192 ≤ length w2) where
  abbrev row : List ℕ
  row = row_of h.w h.step

  abbrev close : ℕ
  close = closing_of h.w h.step

  trail_is : take t w2 ≡ h.rest ++ (row ++ close ∷ [])
  unfolding step_words
  trail_is = h.trail

  trail_length : t ≡ length h.rest + (length row + 1)
  trail_length =
      sym (length-take-le t w2 (omega (arith, h.most, room)))
      ∙ ap length trail_is
      ∙ length-append h.rest (row ++ close ∷ [])
      ∙ ap (λ (k : ℕ). length h.rest + k) (length-append row (close ∷ []))

  step_closable : Closable h.step
  step_closable =
      closable h.graph h.cells h.step
      (is_fits h.graph (name h.step).0 (name h.step).1 h.step h.is)

  pub last_some : 1 ≤ t
  last_some = omega (arith, trail_length)

  last_word : get_or w2 (t - 1) 0 ≡ close
  last_word =
      sym (get_or-take t w2 (t - 1) 0 (omega (arith, last_some)))
      ∙ ap (λ (xs : List ℕ). get_or xs (t - 1) 0)
      (trail_is ∙ sym (append_assoc h.rest row (close ∷ [])))
      ∙ get_or_at (h.rest ++ row) close [] 0 (t - 1)
      (omega (arith, length-append h.rest row, trail_length))

  -- Where the pairs that a step puts in are from, as the last one.
  abbrev from_it : Step → Origin
  from_it s = from_step number (name s).0

  abbrev step_back : {s : Step} → h.step ≡ s → StepBack (from_it s) s w2
  step_back e = record {
    few = h.few;
    n = h.n;
    w = h.w;
    from = h.from;
    pairs = h.pairs;
    cells = h.cells;
    graph = h.graph;
    is = subst (λ (x : Step). IsStep h.n h.w (name x).0 (name x).1 x) e h.is;
    small = h.small;
    pairing = subst (λ (x : Step). Pairing (apply h.w x) h.pairs) e h.pairing;
    mates = h.mates;
  }

  -- by the number of pairs that is read
  module _ {k : ℕ} (e : k ≡ pairs_in (get_or w2 (t - 1) 0)) where
    last_count : k ≡ length row
    last_count = e ∙ ap pairs_in last_word ∙ sym (pairs_read h.w h.step step_closable)

    pub last_fits : k ≤ t - 1
    last_fits = omega (arith, last_count, trail_length)

    last_room : k ≤ length w1
    last_room = omega (arith, last_count, trail_length, h.most, h.room1)

    last_rest : t - 1 - k ≡ length h.rest
    last_rest = omega (arith, last_count, trail_length)

    last_row : take k (drop (t - 1 - k) w2) ≡ row
    last_row =
        let a = t - 1 - k in
        let both : take (a + k) w2 ≡ h.rest ++ row =
        sym (take-take (a + k) t w2 (omega (arith, last_fits, last_some)))
        ∙ ap (take (a + k)) (trail_is ∙ sym (append_assoc h.rest row (close ∷ [])))
        ∙ take_at (h.rest ++ row) (close ∷ []) (a + k)
        (omega (arith, length-append h.rest row, last_rest, last_count)) in
        sym (drop_at (take a w2) (take k (drop a w2)) a
        (length-take-le a w2 (omega (arith, h.most, room))))
        ∙ ap (drop a) (sym (take-add a k w2) ∙ both)
        ∙ drop_at h.rest row a (sym last_rest)

    last_trail : take (t - 1 - k) w2 ≡ h.rest
    last_trail =
        sym (take-take (t - 1 - k) t w2 (omega arith))
        ∙ ap (take (t - 1 - k)) trail_is
        ∙ take_at h.rest (row ++ close ∷ []) (t - 1 - k) (sym last_rest)

    undone : {w2' : List ℕ} {s : Step} → 8192 ≤ length w2' → (e : h.step ≡ s) → UndoneTable (step_back e) w2'
        → Undone t number w1 w2 w2' (t - 1 - k) h
    undone {w2'} {s} l e d = record {
      left = last_rest;
      fewer = omega (arith, last_some);
      trail =
          words_same 0 (t - 1 - k) w2 w2' (λ j l. d.aside j (omega arith)) (omega (arith, h.most)) room l
          ∙ last_trail;
      mates =
          subst (λ (x : Step). Mates w2' (stamped_with (from_it x) (added h.w x h.pairs) h.from) (undo h.w x h.pairs))
          (sym e) d.mates;
    }

    -- marks for each pair of the row
    abbrev marks : List ℕ
    marks = take k w1

    last_many : length marks ≡ k
    last_many = length-take-le k w1 last_room

    on_place : t - 1 - k + length marks ≤ trail_room
    on_place = omega (arith, last_many, last_fits, h.most)

    words_at_is : words_at (t - 1 - k) marks w2 ≡ row
    words_at_is = ap (λ (j : ℕ). take j (drop (t - 1 - k) w2)) last_many ∙ last_row

    -- some step closes the trail
    pub none_there : {P : Type 0} → (0, []) ≡ step_in (get_or w2 (t - 1) 0) → P
    none_there read = untold h.step (read ∙ step_read (get_or w2 (t - 1) 0) h.w h.step step_closable last_word)

    module _ {x : declared.Step} (read : told x ≡ step_in (get_or w2 (t - 1) 0)) where
      step_is : {y : declared.Step} → x ≡ y → as_step y (λ u. inside h.step) ≡ h.step
      step_is q =
          ap (λ y. as_step y (λ u. inside h.step)) (sym q)
          ∙ told_same x h.step (read ∙ step_read (get_or w2 (t - 1) 0) h.w h.step step_closable last_word)

      is_leaf : {v u : ℕ} → x ≡ found.Leaf v u → h.step ≡ leaf u v
      is_leaf q = (let e = step_is q in cc)

      is_ring : {u z : ℕ} → x ≡ found.Ring u z → h.step ≡ ring u z (inside h.step)
      is_ring q = (let e = step_is q in cc)

      is_chain : {u v z : ℕ} → x ≡ found.Chain u v z → h.step ≡ chain u v z (inside h.step)
      is_chain q = (let e = step_is q in cc)

      pub leaf_there : {v u : ℕ} → x ≡ found.Leaf v u → StepBack (from_step number by_leaf) (leaf u v) w2
      leaf_there q = step_back (is_leaf q)

      pub leaf_undone : {v u : ℕ} (q : x ≡ found.Leaf v u) {w2' : List ℕ} → 8192 ≤ length w2'
          → ((b : StepBack (from_step number by_leaf) (leaf u v) w2) → UndoneTable b w2')
          → Undone t number w1 w2 w2' (t - 1 - k) h
      unfolding leaf_there
      leaf_undone q l d = undone l (is_leaf q) (d (leaf_there q))

      pub ring_there : {u z : ℕ} → x ≡ found.Ring u z
          → RingBack (t - 1 - k) u z (from_step number by_ring) marks w2
      ring_there q = record {
        inner = inside h.step;
        back = step_back (is_ring q);
        on_trail = on_place;
        words = words_at_is ∙ ap (row_of h.w) (is_ring q);
      }

      pub ring_undone : {u z : ℕ} (q : x ≡ found.Ring u z) {w2' : List ℕ} → 8192 ≤ length w2'
          → ((b : RingBack (t - 1 - k) u z (from_step number by_ring) marks w2)
          → UndoneTable b.back w2')
          → Undone t number w1 w2 w2' (t - 1 - k) h
      unfolding ring_there
      ring_undone q l d = undone l (is_ring q) (d (ring_there q))

      pub chain_there : {u v z : ℕ} {more : Bool} → x ≡ found.Chain u v z → more ≡ more_in (get_or w2 (t - 1) 0)
          → ChainBack (t - 1 - k) u v z more (from_step number by_chain) marks w2
      chain_there {u} {v} {z} q m = record {
        inner = inside h.step;
        back = step_back (is_chain q);
        on_trail = on_place;
        words = words_at_is ∙ ap (row_of h.w) (is_chain q);
        direct =
            m
            ∙ ap more_in (last_word ∙ ap (closing_of h.w) (is_chain q))
            ∙ more_read h.w u v z (inside h.step) (subst Closable (is_chain q) step_closable);
      }

      pub chain_undone : {u v z : ℕ} {more : Bool} (q : x ≡ found.Chain u v z)
          → more ≡ more_in (get_or w2 (t - 1) 0) → {w2' : List ℕ} → 8192 ≤ length w2'
          → ((b : ChainBack (t - 1 - k) u v z more (from_step number by_chain) marks w2)
          → UndoneTable b.back w2')
          → Undone t number w1 w2 w2' (t - 1 - k) h
      unfolding chain_there
      chain_undone q m l d = undone l (is_chain q) (d (chain_there q m))
