-- Laws of refusals 7 and 9, as the functions that check a slip's and a pairing's form meet them.
-- In order: the rules; the pairs; the answers.
use Prim.Native.Nat.{ℕ, ◌≤◌}
use mathlib.Core.Path.{◌≡◌, sym, ap, subst, ◌∙◌}
use mathlib.Core.Bool.{Bool, true, false}
use mathlib.Core.List.{List, []}
use native.Mathlib.Omega.{arith}
use lib.ListN.{drop, drop_of_length-le, get_or, get_or-map}
use Rattle.std.specs.Prelude.{Option, None, Some, MatchOption, Err}
use Rattle.std.specs.Option.{ok_or}
use Rattle.matching.specs.Lists.{any}
use Rattle.cellfile.specs.Files.{slip, pairing, count_of, steps_of, read_entries, as_pair}
use Rattle.checks.specs.Refusals.{misheaded, is_no_rule, bad_slip, bad_pairing}
use Rattle.cellfile.specs.Reads.{StepRead}
use Rattle.checks.specs.Loops.{has_bad_pairs}
use Rattle.checks.specs.declared.Refusal.{Refusal}
use Rattle.cellfile.specs.declared.decode.SlipStep.{SlipStep}
use Rattle.cellfile.proofs.Walk.{fields_count}

-- ---- the rules of a slip

-- whether those of some step
abbrev pub ruleless : ℕ × ℕ → List ℕ → Bool
ruleless taken s = any (λ (t : ℕ × ℕ). is_no_rule taken t.0) (steps_of s)

-- the test of the step at a place, by the step read there
pub rule_at : (taken : ℕ × ℕ) (s : List ℕ) (i : ℕ) (t : SlipStep) (b u : Bool) → StepRead s i t → b ≡ u
    → u ≡ is_no_rule taken t.rule → b ≡ is_no_rule taken (get_or (steps_of s) i (0, 0)).0
rule_at taken s i t b u r p q =
    p ∙ q ∙ ap (λ (x : ℕ × ℕ). is_no_rule taken x.0)
    (ap as_pair r.is ∙ sym (get_or-map as_pair (read_entries slip s) i []))

-- ---- the pairs of a pairing

-- from place i on
abbrev pub bad_from : ℕ → ℕ → List ℕ → ℕ → Bool
bad_from n low s i = has_bad_pairs n low (drop i (read_entries pairing s))

pub pairs_end : (n low : ℕ) (s : List ℕ) (i : ℕ) → count_of s ≤ i → bad_from n low s i ≡ false
pairs_end n low s i l = rw (drop_of_length-le (read_entries pairing s) {i = i} (omega (arith, fields_count s)))

-- ---- the answers

-- where there is nothing, the refusal that was said for it
pub refused_none : {A P : Type 0} (Q : A → Type 0) (o : Option A) (r said : Refusal) → Err r ≡ ok_or o said
    → MatchOption o P Q → P × (r ≡ said)
refused_none Q None r said e h = (h, cc)
refused_none Q (Some x) r said e h = absurd cc

module _ (n : ℕ) (s : List ℕ) where
  pub slip_headed : (taken : ℕ × ℕ) → misheaded slip n s ≡ true → bad_slip taken n s ≡ true
  unfolding bad_slip
  slip_headed taken p = rw p

  pub slip_found : (taken : ℕ × ℕ) {t : List ℕ} {b : Bool} → t ≡ s → misheaded slip n s ≡ false
      → b ≡ ruleless taken t → b ≡ bad_slip taken n s
  unfolding bad_slip
  slip_found taken {b = b} e p h = rw p (subst (λ (t : List ℕ). b ≡ ruleless taken t) e h)

  pub pairing_headed : misheaded pairing n s ≡ true → bad_pairing n s ≡ true
  unfolding bad_pairing
  pairing_headed p = rw p

  pub pairing_found : {t : List ℕ} {b : Bool} → t ≡ s → misheaded pairing n s ≡ false
      → b ≡ bad_from n 0 t 0 → b ≡ bad_pairing n s
  unfolding bad_pairing
  pairing_found {b = b} e p h = rw p (subst (λ (t : List ℕ). b ≡ bad_from n 0 t 0) e h)
