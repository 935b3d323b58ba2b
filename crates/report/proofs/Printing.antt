-- What is printed, by the answers of reduce and of pair. In order: with buffers and room enough only the list's rows
-- refuse reduce (`reduce_refuses`, `reduce_passes`), and only refusal 11 pair of an accepted list (`pair_refuses`,
-- `pair_passes`). Assumes nothing.
use mathlib.Core.Path.{◌≡◌, refl, sym, ap, ◌∙◌}
use mathlib.Core.Bool.{Bool, false, cond}
use mathlib.Core.List.{List, [], ◌∷◌, ◌++◌}
use Prim.Native.Nat.{ℕ, zero, suc, ◌≤◌, ◌<◌}
use native.Mathlib.Omega.{arith}
use lib.Dec.{eqb}
use lib.ListN.{length, get_or, take}
use lib.Seq.{take-append_seam}
use borrow.Author.Tests.{le-ltb, ne_eqb}
use Rattle.matching.specs.Groups.{largest}
use Rattle.matching.specs.Steps.{Step}
use Rattle.cellfile.specs.Files.{cells_of, onto}
use Rattle.checks.specs.Refusals.{Row, first, too_few_words, lists, list_rows, crowded, short_output}
use Rattle.cellfile.specs.Answers.{answer}
use Rattle.checks.specs.Calls.{room_row}
use Rattle.checks.proofs.Layers.{answer_refused, answer_accepted, first_refused, first_passed}
use Rattle.checks.proofs.Rows.{list_none}
use Rattle.reduction.specs.Calls.{slip_file, short_file, reducing}
use Rattle.starting.specs.Steps.{reduce_steps}
use Rattle.lifting.specs.Calls.{graph_after, pairing_file, pairing_origins, pairing}
use Rattle.report.specs.Printed.{line, made, refusal, printed}
use Rattle.report.proofs.Fields.{slip_most, short_most, pairing_most, origins_most}

-- The start of an output is the file that was written to it.
pub written_start : (file out : List ℕ) {out' : List ℕ} {k : ℕ} → k ≡ length file → out' ≡ onto file out
    → take k out' ≡ file
unfolding onto
written_start file out {out'} {k} e w =
    ap (take k) w ∙ ap (λ (i : ℕ). take i (onto file out)) e ∙ take-append_seam file _

-- A list that is refused prints its number, one that is not what is made of it.
refused_printed : (list : List ℕ) (k : ℕ) → 0 < k → refusal list ≡ k → line "refused" (k ∷ []) ≡ printed list
refused_printed list k l e =
    sym (ap (λ (v : ℕ). cond (eqb v 0) (made list) (line "refused" (v ∷ []))) e
    ∙ ap (λ (t : Bool). cond t (made list) (line "refused" (k ∷ []))) (ne_eqb k 0 (λ z. omega (arith, z))))

made_printed : (list : List ℕ) → refusal list ≡ 0 → made list ≡ printed list
made_printed list e = sym (ap (λ (v : ℕ). cond (eqb v 0) (made list) (line "refused" (v ∷ []))) e)

module _ (list : List ℕ) (a b : ℕ) (room_a : 8192 ≤ a) (room_b : 8192 ≤ b) where
  enough : too_few_words (a ∷ b ∷ []) ≡ false
  unfolding too_few_words
  enough = rw (le-ltb a 8192 room_a, le-ltb b 8192 room_b)

  abbrev ss : List Step
  ss = reduce_steps list

  -- ---- reduce

  module _ (slip_room_is short_room_is : ℕ) where
    -- 12 comes after the list's rows
    abbrev rows : List Row
    rows = room_row ((slip_room_is, slip_file list ss) ∷ (short_room_is, short_file list ss) ∷ []) ∷ []

    abbrev values : List ℕ
    values = length (slip_file list ss) ∷ length (short_file list ss) ∷ []

    reducing_is : reducing list (a ∷ b ∷ []) slip_room_is short_room_is ≡ answer (first (list_rows lists list ++ rows))
        values
    reducing_is =
        ap (λ (t : Bool). answer (cond t 1 (first (list_rows lists list ++ rows))) values) enough

    module _ (slip_long : 2052 ≤ slip_room_is) (short_long : 32780 ≤ short_room_is) where
      -- an accepted list has room for its files
      roomy : first (list_rows lists list) ≡ 0 → first rows ≡ 0
      unfolding short_output
      roomy h =
          rw (
            le-ltb slip_room_is (length (slip_file list ss)) (omega (arith, slip_most list h, slip_long)),
            le-ltb short_room_is (length (short_file list ss)) (omega (arith, short_most list h, short_long)),
          )

      -- the list's rows decide
      pub reduce_refuses : {k : ℕ} → (k, []) ≡ reducing list (a ∷ b ∷ []) slip_room_is short_room_is
          → line "refused" (k ∷ []) ≡ printed list
      reduce_refuses {k} e = go (first (list_rows lists list)) refl
        where
          r : (0 < first (list_rows lists list ++ rows)) × (k ≡ first (list_rows lists list ++ rows))
          r = answer_refused _ k _ _ (e ∙ reducing_is)

          crowded_after : Bool
          crowded_after = crowded (largest (cells_of list) (graph_after list ss))

          go : (i : ℕ) → first (list_rows lists list) ≡ i → line "refused" (k ∷ []) ≡ printed list
          go zero z =
              let y : first (list_rows lists list ++ rows) ≡ 0 =
              first_passed (list_rows lists list) rows (list_none lists list z) ∙ roomy z in
              absurd (omega (arith, y, r.0))
          go (suc i) z =
              let l : 0 < first (list_rows lists list) = omega (arith, z) in
              refused_printed list k (omega (arith, r))
              (first_refused (list_rows lists list) ((11, crowded_after) ∷ []) l
              ∙ sym (first_refused (list_rows lists list) rows l)
              ∙ sym r.1)

    pub reduce_passes : {s t : ℕ} → (0, s ∷ t ∷ []) ≡ reducing list (a ∷ b ∷ []) slip_room_is short_room_is
        → (first (list_rows lists list) ≡ 0) × (s ≡ length (slip_file list ss)) × (t ≡ length (short_file list ss))
    reduce_passes {s} {t} e =
        let r = answer_accepted (first (list_rows lists list ++ rows)) (s ∷ t ∷ []) values (e ∙ reducing_is) in (
          go (first (list_rows lists list)) refl r.0,
          ap (λ (vs : List ℕ). get_or vs 0 0) r.1,
          ap (λ (vs : List ℕ). get_or vs 1 0) r.1,
        )
      where
        go : (i : ℕ) → first (list_rows lists list) ≡ i → first (list_rows lists list ++ rows) ≡ 0
            → first (list_rows lists list) ≡ 0
        go zero z q = z
        go (suc i) z q =
            absurd (omega (arith, first_refused (list_rows lists list) rows (omega (arith, z)), q, z))

  -- ---- pair of an accepted list

  module _ (h : first (list_rows lists list) ≡ 0) (room origin_room_is : ℕ) (long : 1540 ≤ room)
      (origin_long : 2564 ≤ origin_room_is) where
    abbrev full : Bool
    full = crowded (largest (cells_of list) (graph_after list ss))

    refusal_is : refusal list ≡ cond full 11 0
    refusal_is = first_passed (list_rows lists list) ((11, full) ∷ []) (list_none lists list h)

    -- 11 and 12 come after the list's rows
    abbrev last_rows : Bool → List Row
    last_rows t = (11, full) ∷ (12, t) ∷ []

    abbrev short : Bool
    short = short_output ((room, pairing_file list) ∷ (origin_room_is, pairing_origins list) ∷ [])

    roomy_pairing : short ≡ false
    unfolding short_output
    roomy_pairing =
        rw (
          le-ltb room (length (pairing_file list)) (omega (arith, pairing_most list h, long)),
          le-ltb origin_room_is (length (pairing_origins list)) (omega (arith, origins_most list h, origin_long)),
        )

    abbrev lengths : List ℕ
    lengths = length (pairing_file list) ∷ length (pairing_origins list) ∷ []

    pairing_is : pairing list (a ∷ b ∷ []) room origin_room_is ≡ answer (cond full 11 0) lengths
    pairing_is =
        ap (λ (t : Bool). answer (cond t 1 (first (list_rows lists list ++ last_rows short))) lengths) enough
        ∙ ap (λ (i : ℕ). answer i lengths)
        (first_passed (list_rows lists list) (last_rows short) (list_none lists list h)
        ∙ ap (λ (t : Bool). first (last_rows t)) roomy_pairing)

    pub pair_refuses : {k : ℕ} → (k, []) ≡ pairing list (a ∷ b ∷ []) room origin_room_is
        → line "refused" (k ∷ []) ≡ printed list
    pair_refuses {k} e =
        let r = answer_refused _ k _ _ (e ∙ pairing_is) in
        refused_printed list k (omega (arith, r)) (refusal_is ∙ sym r.1)

    pub pair_passes : {s t : ℕ} → (0, s ∷ t ∷ []) ≡ pairing list (a ∷ b ∷ []) room origin_room_is
        → (s ≡ length (pairing_file list)) × (made list ≡ printed list)
    pair_passes {s} {t} e =
        let r = answer_accepted (cond full 11 0) (s ∷ t ∷ []) lengths (e ∙ pairing_is) in
        (ap (λ (vs : List ℕ). get_or vs 0 0) r.1, made_printed list (refusal_is ∙ r.0))
