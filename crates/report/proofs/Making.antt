-- The text of an accepted list, from its parts. In order: that they may be put (`lengths_least`, `count_few`,
-- `lines_there`), and what they make together (`text_made`). Assumes nothing.
use mathlib.Core.Path.{◌≡◌, refl, ap, ◌∙◌}
use mathlib.Core.List.{List, [], ◌∷◌, ◌++◌, append_assoc}
use Prim.Native.Nat.{ℕ, ◌+◌, ◌-◌, ◌/◌, ◌≤◌}
use native.Mathlib.Omega.{arith}
use lib.ListN.{length, drop}
use Rattle.matching.specs.Pairs.{Pair}
use Rattle.matching.specs.Listed.{Entry, listed, points, total, short_list}
use Rattle.matching.specs.Slip.{carried}
use Rattle.cellfile.specs.Bytes.{number}
use Rattle.cellfile.specs.Files.{list_layout, pairing as pairing_layout, cells_of, count_of, pairs_of, entries_all}
use Rattle.cellfile.specs.Reads.{WholeFile}
use Rattle.cellfile.proofs.Walk.{pairs_count}
use Rattle.checks.proofs.Rows.{bad_pairing_none}
use Rattle.checks.proofs.Accepted.{list_fits}
use Rattle.starting.specs.Steps.{graph_in, reduce_steps}
use Rattle.reduction.specs.Calls.{short_file}
use Rattle.lifting.specs.Calls.{graph_after, pairing_file}
use Rattle.report.specs.Printed.{line, pair_lines, report, with_points, made}
use Rattle.report.specs.Writing.{LinesThere, ReducedThere}
use Rattle.report.proofs.Fields.{files_least, steps_printed, entries_printed, carried_printed, pairs_few}
use Rattle.report.proofs.Fields.{pairs_length, pairs_there}

-- ---- the parts together

total_points : (es : List Entry) (ps : List Pair) → total (with_points es ps) ≡ points es ps
total_points es [] = refl
total_points es (p ∷ ps) = ap (λ (v : ℕ). listed es p.0 p.1 + v) (total_points es ps)

-- five parts, put one behind the other
five_parts : (a b c d e : List ℕ) → (((a ++ b) ++ c) ++ d) ++ e ≡ a ++ (b ++ (c ++ (d ++ e)))
five_parts a b c d e =
    append_assoc ((a ++ b) ++ c) d e ∙ append_assoc (a ++ b) c (d ++ e) ∙ append_assoc a b (c ++ (d ++ e))

module _ (list : List ℕ) {slip_length : ℕ} {short : List ℕ} (r : ReducedThere list slip_length short) where
  abbrev es : List Entry
  es = entries_all list

  abbrev ps : List Pair
  ps = pairs_of (pairing_file list)

  -- the fields
  abbrev steps : ℕ
  steps = length (reduce_steps list)

  abbrev moved : ℕ
  moved = carried (graph_in list) (reduce_steps list)

  abbrev left_entries : ℕ
  left_entries = length (short_list (cells_of list) (graph_after list (reduce_steps list)))

  module _ {pairing : List ℕ} (is : pairing ≡ pairing_file list) where
    -- the pairs with their points
    abbrev lined : List Entry
    lined = with_points es (pairs_of pairing)

    lined_is : lined ≡ with_points es ps
    lined_is = ap (λ (s : List ℕ). with_points es (pairs_of s)) is

    pub lengths_least : (4 ≤ length pairing) × (4 ≤ slip_length) × (12 ≤ length short)
    lengths_least =
        let f = files_least list r.accepted in
        let a : length pairing ≡ length (pairing_file list) = ap length is in
        let b : length short ≡ length (short_file list (reduce_steps list)) = ap length r.short_is in
        (omega (arith, a, pairs_length list r.accepted), omega (arith, f, r.slip_is), omega (arith, f, b))

    pub count_few : count_of pairing ≤ 512
    count_few = omega (arith, ap count_of is, pairs_count (pairing_file list), pairs_few list r.accepted)

    pub lines_there : LinesThere list pairing
    lines_there = rw is (pairs_there list r.accepted)

    -- the files are long enough
    pub list_whole : WholeFile (list_layout list) list (count_of list)
    list_whole = record { count = refl; long = omega (arith, (list_fits list r.accepted).2) }

    pub pairing_whole : WholeFile pairing_layout pairing (count_of pairing)
    pairing_whole = record {
      count = refl;
      long = omega (arith, (bad_pairing_none (cells_of list) pairing lines_there.formed).0);
    }

    -- where a step has `two` bytes and an entry of the short list `eight`
    pub text_made : {two eight : ℕ} → two ≡ 2 → eight ≡ 8 → {t0 t1 t2 t3 t4 t5 : List ℕ} {carry sum : ℕ}
        → carry ≡ number 8 (drop 4 short) → t0 ≡ [] → t1 ≡ t0 ++ line "steps" ((slip_length - 4) / two ∷ [])
        → t2 ≡ t1 ++ line "carried" (carry ∷ []) → t3 ≡ t2 ++ line "short" ((length short - 12) / eight ∷ [])
        → t4 ≡ t3 ++ pair_lines lined → sum ≡ total lined → t5 ≡ t4 ++ line "total" (sum ∷ []) → t5 ≡ made list
    text_made {two} {eight} two_is eight_is {t5 = t5} {carry} {sum} c e0 e1 e2 e3 e4 s e5 = all ∙ same
      where
        all : t5 ≡ report ((slip_length - 4) / two) carry ((length short - 12) / eight) lined sum
        all =
            rw (e5, e4, e3, e2, e1, e0)
            (five_parts (line "steps" ((slip_length - 4) / two ∷ [])) (line "carried" (carry ∷ []))
            (line "short" ((length short - 12) / eight ∷ [])) (pair_lines lined) (line "total" (sum ∷ [])))

        same : report ((slip_length - 4) / two) carry ((length short - 12) / eight) lined sum ≡ made list
        same =
            ap (λ (v : ℕ). report v carry ((length short - 12) / eight) lined sum)
            (ap (λ (k : ℕ). (slip_length - 4) / k) two_is ∙ steps_printed list r.accepted r.slip_is)
            ∙ ap (λ (v : ℕ). report steps v ((length short - 12) / eight) lined sum)
            (c ∙ ap (λ (s : List ℕ). number 8 (drop 4 s)) r.short_is ∙ carried_printed list r.accepted)
            ∙ ap (λ (v : ℕ). report steps moved v lined sum)
            (ap (λ (k : ℕ). (length short - 12) / k) eight_is
            ∙ ap (λ (s : List ℕ). (length s - 12) / 8) r.short_is ∙ entries_printed list r.accepted)
            ∙ ap (λ (x : List Entry). report steps moved left_entries x sum) lined_is
            ∙ ap (λ (v : ℕ). report steps moved left_entries (with_points es ps) v)
            (s ∙ ap total lined_is ∙ total_points es ps)
