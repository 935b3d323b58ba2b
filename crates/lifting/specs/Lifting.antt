-- What the layers of lift ask and promise. Inner contracts cite this; laws: proofs/Lifting.
use Rattle.std.specs.Prelude.{◌≡◌, List, [], ◌∷◌, ℕ, Result, OnOk}
use Rattle.matching.specs.Pairs.{Points}
use Rattle.matching.specs.Origin.{all_short}
use Rattle.cellfile.specs.Files.{pairs_of}
use Rattle.checks.specs.Refusals.{first}
use Rattle.checks.specs.Calls.{refusal_in, form_row, hold_row}
use Rattle.checks.specs.declared.Refusal.{Refusal}
use Rattle.cellfile.specs.Answers.{Answer}
use Rattle.checks.specs.Answering.{Output, Does}
use Rattle.partners.specs.Table.{Mates, TableOnly}
use Rattle.lifting.specs.Ending.{Change, back_to}
use Rattle.lifting.specs.Tail.{TrailThere, after, TailThere}

-- The outputs of the pairing brought back.
abbrev pub back_files : {n t count : ℕ} {w2 : List ℕ} → TrailThere n t count w2 → List ℕ → Change → Change → List Output
back_files {n} h pairing out from = back_to n h.w h.steps (pairs_of pairing) out from

-- Refusal 10 of a pairing for the graph w; where it does not hold the table has the partners.
pub record Enters (w : Points) (pairing w2 w2' : List ℕ) (r : Result Unit Refusal) : Type 0 where
  pub refusal : refusal_in r ≡ first (hold_row w pairing ∷ [])
  pub mates : OnOk r (Mates w2' all_short (pairs_of pairing))
  pub aside : TableOnly w2 w2'

abbrev pub LiftsTail : (n e t count : ℕ) (pairing w1 w2 : List ℕ) → Change → Change → Answer → Type 0
LiftsTail n e t count pairing w1 w2 out from a =
    (h : TailThere n e t count w1 w2)
    → Does (form_row n pairing ∷ hold_row (after h.on) pairing ∷ []) (back_files h.on pairing out from) a
