-- Laws of weighing: refusal 10 and the points of a pairing (`pairs_twice`, `pairs_found`); what each check refuses; the
-- whole call answers the points just where nothing is refused (`weigh_passes`, `weigh_sound`).
use Prim.Native.Nat.{ℕ, suc}
use mathlib.Core.Path.{◌≡◌, refl, sym, ap, ◌∙◌}
use mathlib.Core.Bool.{Bool, true, false, not, cond}
use mathlib.Core.List.{List, [], ◌∷◌, ◌++◌}
use mathlib.Core.Option.{some, none}
use native.Mathlib.Omega.{arith}
use native.Mathlib.Nat.{zero-add}
use borrow.Author.Tests.{not-true, not-false}
use lib.ListN.{get_or}
use Rattle.matching.specs.Lists.{distinct}
use Rattle.matching.specs.Pairs.{Pair}
use Rattle.matching.specs.Pairing.{Pairing, cells, is_pairing}
use Rattle.matching.specs.Listed.{Entry, joined, points}
use Rattle.matching.proofs.Pairing.{is_pairing_is}
use Rattle.cellfile.specs.Files.{cells_of, entries_all, pairs_of}
use Rattle.cellfile.specs.Answers.{Answer, answer}
use Rattle.checks.specs.Refusals.{Row, first, too_few_words, lists, list_rows, bad_pairing, no_pairing}
use Rattle.checks.specs.Calls.{answered, one, call_rows, form_row}
use Rattle.checks.specs.declared.Refusal.{Refusal}
use Rattle.checks.proofs.Layers.{after_passed, call_passes, call_sound}
use Rattle.checks.proofs.Merge.{join_all, merge_is, entries_ascend, pairs_ascend}
use Rattle.weighing.specs.Weigh.{pair_row, weight, weighing}
use Rattle.std.specs.Prelude.{Result}
use Rattle.weighing.specs.Merging.{merged, as_weighed}

-- a row alone that is not the refusal
pub formed_of : (k : ℕ) (t : Bool) → 0 ≡ first ((suc k, t) ∷ []) → t ≡ false
formed_of k true e = absurd (omega arith)
formed_of k false e = refl

module _ (list pairing : List ℕ) where
  abbrev es : List Entry
  es = entries_all list

  abbrev ps : List Pair
  ps = pairs_of pairing

  -- ---- refusal 10 and the points

  pub pairs_twice : {t : Bool} → t ≡ not (distinct (cells ps)) → t ≡ true
      → (10, []) ≡ answer (first (pair_row list pairing ∷ [])) (weight list pairing)
  unfolding is_pairing
  pairs_twice e h = rw (not-true (distinct (cells ps)) (sym e ∙ h))

  module _ (accepted : first (list_rows lists list) ≡ 0) (formed : bad_pairing (cells_of list) pairing ≡ false) where
    pub pairs_found : {t : Bool} {r : Result ℕ Refusal} → t ≡ not (distinct (cells ps)) → t ≡ false
        → r ≡ merged es ps 0 → answered one r ≡ answer (first (pair_row list pairing ∷ [])) (weight list pairing)
    unfolding is_pairing
    pairs_found e h m =
        ap (answered one) (m ∙ ap as_weighed (merge_is es ps 0 (entries_ascend list accepted)
        (pairs_ascend list accepted pairing formed)))
        ∙ rw (not-false (distinct (cells ps)) (sym e ∙ h), zero-add (points es ps)) (go (join_all es ps))
      where
        go : (t : Bool) → answered one (as_weighed (cond t (some (points es ps)) none))
            ≡ answer (first ((10, not t) ∷ [])) (points es ps ∷ [])
        go true = refl
        go false = refl

  -- ---- what each check refuses, and what is answered where both pass

  abbrev rows : List Row
  rows = form_row (cells_of list) pairing ∷ pair_row list pairing ∷ []

  module _ (lent : List ℕ) where
    abbrev before : List Row
    before = call_rows (too_few_words lent) list

    module _ (passed : 0 ≡ first before) where
      behind : {k : ℕ} → k ≡ first rows → k ≡ first (before ++ rows)
      behind = after_passed before rows (omega arith) passed

      pub pairing_passed : {a : Answer} → 0 ≡ first (form_row (cells_of list) pairing ∷ [])
          → a ≡ answer (first (pair_row list pairing ∷ [])) (weight list pairing)
          → a ≡ weighing list pairing lent
      pairing_passed f e =
          e
          ∙ ap (λ k. answer k (weight list pairing))
          (behind (after_passed (form_row (cells_of list) pairing ∷ []) (pair_row list pairing ∷ []) (omega arith)
          f refl))

  -- ---- the whole call

  module _ (lent : List ℕ) where
    pub weigh_passes : too_few_words lent ≡ false → first (list_rows lists list) ≡ 0
        → bad_pairing (cells_of list) pairing ≡ false
        → no_pairing (joined (entries_all list)) (pairs_of pairing) ≡ false
        → weighing list pairing lent ≡ (0, points (entries_all list) (pairs_of pairing) ∷ [])
    weigh_passes few h formed there =
        call_passes list lent rows (weight list pairing) few h (formed, (there, tt))

    pub weigh_sound : (k : ℕ) → weighing list pairing lent ≡ (0, k ∷ [])
        → (first (list_rows lists list) ≡ 0) × (bad_pairing (cells_of list) pairing ≡ false)
        × Pairing (joined (entries_all list)) (pairs_of pairing)
        × (k ≡ points (entries_all list) (pairs_of pairing))
    weigh_sound k e =
        let a = call_sound list lent rows (k ∷ []) (weight list pairing) (omega arith) e in (
          a.1,
          a.2.0,
          is_pairing_is (joined es) ps (not-false (is_pairing (joined es) ps) a.2.1.0),
          ap (λ (vs : List ℕ). get_or vs 0 0) a.3,
        )
