-- The pairs of a group joined in the table. In order: the words for crate sets (`set_word`, `join_ready`); what stands
-- while the pairs are taken out of the set one by one (`Joining`): at the start, where the lowest place has no partner
-- or has one, at the end. Assumes nothing.
use mathlib.Core.Path.{◌≡◌, refl, sym, ap, ap₂, subst, ◌∙◌}
use mathlib.Core.List.{List, ◌∷◌, ◌++◌, map}
use Rattle.std.specs.Prelude.{Option, None, Some}
use Prim.Native.Nat.{ℕ, ◌+◌, ◌*◌, ◌-◌, ◌^◌, ◌≤◌, ◌<◌}
use native.Mathlib.Omega.{arith}
use lib.ListN.{length, get_or, take, drop, set, length-set, length-drop}
use lib.Seq.{length-take-le, get_or-take, get_or-drop}
use Rattle.buffers.specs.Map.{at_sets, at_points, at_places, at_table}
use Rattle.buffers.proofs.Same.{part_same}
use Rattle.matching.specs.Pairs.{Pair, Points, sum, hit}
use Rattle.matching.specs.Pairing.{seen}
use Rattle.matching.specs.Origin.{all_short, from_short}
use Rattle.matching.specs.Solve.{solve}
use Rattle.matching.proofs.Sums.{sum_append}
use Rattle.cellfile.specs.Words.{points_room}
use Rattle.sets.specs.Sets.{between, heaviest, points, Ready, Kept, with_partner, Takes}
use Rattle.sets.specs.declared.Taken.{Taken}
use Rattle.sets.proofs.Heaviest.{heaviest_none, points_light}
use Rattle.sets.proofs.Known.{ready_forgotten, ready_kept}
use Rattle.gathering.specs.Gathered.{cell_in}
use Rattle.partners.specs.Table.{tag, joined, Mates, TableOnly}
use Rattle.partners.proofs.Joining.{joined_aside, mates_join}
use Rattle.solving.specs.Joined.{JoinThere, Joins}
use Rattle.solving.proofs.Renaming.{both}
use Rattle.solving.proofs.Placing.{places_solved}

-- The words for crate sets.
abbrev pub set_words : List ℕ → List ℕ
set_words w2 = take 144 (drop at_points w2)

set_word : (w2 : List ℕ) (i : ℕ) → i < 144 → get_or (set_words w2) i 0 ≡ get_or w2 (at_points + i) 0
set_word w2 i l = get_or-take 144 (drop at_points w2) i 0 l ∙ get_or-drop at_points w2 i 0

set_same : (w v : List ℕ) → 8192 ≤ length w → length v ≡ length w → TableOnly w v → set_words v ≡ set_words w
set_same w v r s h = part_same w v at_points 144 (omega arith) (omega arith) (λ j m. h j (omega arith))

module _ {w : Points} {cs : List ℕ} {m : List Pair} {k : ℕ} {w1 w2 : List ℕ} (p : JoinThere w cs m k w1 w2) where
  abbrev ws : List ℕ
  ws = set_words w2

  pub join_ready : {s : ℕ} → s ≡ 2 ^ k - 1 → Ready (set_words w2) w1 k s
  join_ready e =
      ready_forgotten {w0 = w1} (record { long = refl; none = p.none; front = refl }) p.few e
      (omega (
        arith,
        length-take-le 144 (drop at_points w2) (omega (arith, length-drop at_points w2, p.room2)),
      )) p.room1 (λ i l. omega (arith, set_word w2 i l, p.light i l))

  -- the pairs of the set, and its points, are those of the places
  solved : (solve (length cs) w cs ≡ map (both (cell_in w2)) (heaviest ws (2 ^ k - 1)))
      × (sum w (solve (length cs) w cs) ≡ sum (between ws) (heaviest ws (2 ^ k - 1)))
  solved =
      places_solved k w cs p.rise (cell_in w2) ws p.few p.count p.cells
      (λ i j l h. set_word w2 (12 * i + j) (omega (arith, p.few)) ∙ p.points i j l h)

  -- All pairs, and those that are still to be put in, of the places left.
  abbrev all : List Pair
  all = solve (length cs) w cs ++ m

  abbrev ahead : ℕ → List Pair
  ahead left = map (both (cell_in w2)) (heaviest ws left)

  -- Since the buffers were w1 and w2: of all pairs those that are done stand in the table.
  pub record Joining (w1' w2' : List ℕ) (left : ℕ) : Type 0 where
    pub ready : Ready (set_words w2) w1' k left
    pub front : take at_sets w1' ≡ take at_sets w1
    pub long : length w2' ≡ length w2
    pub only : TableOnly w2 w2'
    pub done : List Pair
    pub sums : (f : Points) → sum f all ≡ sum f done + sum f (ahead left)
    pub mates : Mates w2' all_short done

  same_words : {w1' w2' : List ℕ} {left : ℕ} → Joining w1' w2' left → set_words w2' ≡ set_words w2
  same_words {w2' = w2'} h = set_same w2 w2' p.room2 h.long h.only

  pub joining_ready : {w1' w2' : List ℕ} {left : ℕ} → Joining w1' w2' left → Ready (set_words w2') w1' k left
  joining_ready {w1'} {left = left} h = subst (λ ws. Ready ws w1' k left) (sym (same_words h)) h.ready

  pub joining_start : {w1' : List ℕ} {s : ℕ} → s ≡ 2 ^ k - 1 → Kept (set_words w2) k w1 w1' → Joining w1' w2 s
  joining_start {w1'} {s} e h = record {
    ready = ready_kept (join_ready e) h (omega arith);
    front = h.front;
    long = refl;
    only = λ j l. refl;
    done = m;
    sums = λ f. omega (
      arith,
      sum_append f (solve (length cs) w cs) m,
      ap (sum f) solved.0,
      ap (λ x. sum f (ahead x)) e,
    );
    mates = p.mates;
  }

  module _ {w1' w1'' w2' : List ℕ} {left : ℕ} (h : Joining w1' w2' left) {t : Taken}
      (takes : Takes (set_words w2') left t) (kept : Kept (set_words w2') k w1' w1'') where
    -- the words are those of the start
    g : Takes ws left t
    g = subst (λ v. Takes v left t) (same_words h) takes

    q : Kept ws k w1' w1''
    q = subst (λ v. Kept v k w1' w1'') (same_words h) kept

    next : Ready ws w1'' k t.rest
    next = ready_kept h.ready q (omega (arith, g.fewer))

    still : take at_sets w1'' ≡ take at_sets w1
    still = q.front ∙ h.front

    leads : {i : Option ℕ} → t.partner ≡ i
        → ahead left ≡ map (both (cell_in w2)) (with_partner t.low i (heaviest ws t.rest))
    leads e = ap (map (both (cell_in w2))) (g.leads ∙ ap (λ i. with_partner t.low i (heaviest ws t.rest)) e)

    pub joining_alone : t.partner ≡ None → Joining w1'' w2' t.rest
    joining_alone e = record {
      ready = next;
      front = still;
      long = h.long;
      only = h.only;
      done = h.done;
      sums = λ f. omega (arith, h.sums f, ap (sum f) (leads e));
      mates = h.mates;
    }

    -- the cells of the pair, as they stand now
    cell_now : (i : ℕ) → i < 12 → cell_in w2' i ≡ cell_in w2 i
    cell_now i l = h.only (at_places + i) (omega arith)

    module _ {x : ℕ} (e : t.partner ≡ Some x) where
      pub joining_within : x < 12
      joining_within = rw e at g.partner

      abbrev a : ℕ
      a = cell_in w2 t.low

      abbrev b : ℕ
      b = cell_in w2 x

      now_a : cell_in w2' t.low ≡ a
      now_a = cell_now t.low g.low

      now_b : cell_in w2' x ≡ b
      now_b = cell_now x joining_within

      pub joining_cells : (cell_in w2' t.low < 1024) × (cell_in w2' x < 1024)
      joining_cells = (omega (arith, now_a, p.places t.low g.low), omega (arith, now_b, p.places x joining_within))

      head : ahead left ≡ (a, b) ∷ ahead t.rest
      head = leads e

      sums : (f : Points) → sum f all ≡ f a b + sum f h.done + sum f (ahead t.rest)
      sums f = omega (arith, h.sums f, ap (sum f) head)

      pub joining_pair : {v : List ℕ} → v ≡ joined (cell_in w2' t.low) (cell_in w2' x) from_short w2'
          → Joining w1'' v t.rest
      joining_pair {v} o = subst (λ u. Joining w1'' u t.rest) (sym at) after
        where
          at : v ≡ joined a b from_short w2'
          at = o ∙ ap₂ (λ x y. joined x y from_short w2') now_a now_b

          after : Joining w1'' (joined a b from_short w2') t.rest
          after = record {
            ready = next;
            front = still;
            long = length-set (set w2' (at_table + a) (b + 1 + 2048 * 0)) (at_table + b) (a + 1 + 2048 * 0)
                ∙ length-set w2' (at_table + a) (b + 1 + 2048 * 0) ∙ h.long;
            only = λ j l. joined_aside w2' a b from_short j l ∙ h.only j l;
            done = (a, b) ∷ h.done;
            sums = sums;
            mates = mates_join w2' all_short h.done a b (omega (arith, h.long, p.room2))
                (p.places t.low g.low) (p.places x joining_within) h.mates from_short
                (refl, refl) (λ c. omega (arith, sums (hit c), p.once c));
          }

  pub joining_end : {w1' w2' : List ℕ} {left r : ℕ} → Joining w1' w2' left → left ≡ 0
      → r ≡ points (set_words w2) (2 ^ k - 1) → Joins w cs m w1 w1' w2 w2' r
  joining_end {w1'} {w2'} {left} {r} h e q = record {
    value = q ∙ sym solved.1;
    light = omega (arith, points_light points_room ws (2 ^ k - 1) (λ i l. omega (arith, set_word w2 i l, p.light i l)));
    mates = λ c l. h.mates c l ∙ every (seen (tag all_short c) c);
    front = h.front;
    only = h.only;
  }
    where
      every : (f : Points) → sum f h.done ≡ sum f all
      every f = omega (arith, h.sums f, ap (λ ps. sum f (map (both (cell_in w2)) ps)) (heaviest_none ws left e))
