-- `run_end` is the first row with the closure's test, or the end.
use Rattle.std.proofs.Common.{◌≡◌, ◌≤◌, ◌<◌, ℕ, List, get_or, rules, arith, ◌+◌}
use Rattle.std.specs.Prelude.{Option, Some, None, MatchOption, unwrap_or, ◌≢◌}
use Rattle.std.proofs.lemmas.Iterator.{first_from_Range}
use Rattle.buffers.specs.Map.{at_cells}
use Rattle.gathering.specs.Gathered.{RunEnd}
use Rattle.gathering.proofs.run_end.Goals as goal

found : (i r a : ℕ) (w : List ℕ) → i ≤ r → (o : Option ℕ)
    → MatchOption o ((k : ℕ) → i ≤ k → k < r → get_or w (at_cells + k) 0 ≡ a)
    (λ j. (i ≤ j) × (j < r) × (get_or w (at_cells + j) 0 ≢ a) × ((k : ℕ) → i ≤ k → k < j → get_or w (at_cells + k) 0 ≡
    a))
    → RunEnd i r a w (unwrap_or o r)
found i r a w l None m = record { within = (l, omega arith); own = m; past = λ h. omega (arith, h) }
found i r a w l (Some j) m = record { within = (m.0, omega (arith, m.1)); own = m.3; past = λ h. m.2 }

pub returns : goal.returns
returns c = let a = c.args in
    rw c.unwrap_or.ensures (found a.i a.r a.a a.w1.now c.requires.1 c.find.result
    (first_from_Range _ _ _ _ (λ k. get_or a.w1.now (at_cells + k) 0 ≢ a.a) (λ k. get_or a.w1.now (at_cells + k) 0 ≡
    a.a)
    c.find.ensures.ran (λ x q h. (search rules)) (λ x q h. (search rules))))
