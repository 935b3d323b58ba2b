-- What a function that calls replay, lift and weigh one after the other answers and writes, and what it is told: demand
-- 3 of the very bytes that the calls wrote and of the points that weigh answered. Laws: proofs/Telling, `keeps_all` and
-- `weighs_next`.
use Rattle.std.specs.Prelude.{◌≡◌, List, [], ◌∷◌, ◌++◌, ℕ, ◌+◌, take, Result, IfOk}
use Rattle.matching.specs.Listed.{points}
use Rattle.matching.specs.Steps.{Step}
use Rattle.cellfile.specs.Files.{pairs_of, carried_of}
use Rattle.cellfile.specs.Answers.{Answer}
use Rattle.weighing.specs.Weigh.{weighing}
use Rattle.reduction.specs.Calls.{replaying}
use Rattle.lifting.specs.Calls.{lifting, lift_file}
use Rattle.claims.specs.Demand.{short_of, Names, ShortKeeps, LiftKeeps}
use Rattle.claims.specs.Claims.{OriginClaim}
use Rattle.checks.specs.declared.Refusal.{Refusal}
use Rattle.claims.specs.declared.Asked.{Asked}

-- The values of the answer.
abbrev pub four : Asked → List ℕ
four a = a.short ∷ a.lifted ∷ a.origins ∷ a.points ∷ []

-- The next call, with the values of this one; a refusal has none and ends.
abbrev pub and_then : Answer → (List ℕ → Answer) → Answer
and_then (k, []) next = (k, [])
and_then (k, v ∷ vs) next = next (v ∷ vs)

-- Replay, then lift.
abbrev pub lifts : (list slip pairing lent : List ℕ) (short_room lifted_room origin_room : ℕ) → Answer
lifts list slip pairing lent short_room lifted_room origin_room =
    and_then (replaying list slip lent short_room) (λ i. lifting list slip pairing lent lifted_room origin_room)

-- Replay, then lift, then weigh what lift wrote.
abbrev pub asking : (list slip pairing lent : List ℕ) (short_room lifted_room origin_room : ℕ) → Answer
asking list slip pairing lent short_room lifted_room origin_room =
    and_then (replaying list slip lent short_room) (λ i.
    and_then (lifting list slip pairing lent lifted_room origin_room) (λ j.
    and_then (weighing list (lift_file list slip pairing) lent) (λ p. (0, i ++ j ++ p))))

-- Of the list, slip and pairing that were read, the short list, the lifted pairing and its origin list that were
-- written, and the points that weigh answered: these points are the short pairing's plus the carried points, the rest
-- of demand 3 holds, and the origin list tells where each pair came from, by the steps that the slip names.
pub record Told (list slip pairing short lifted origins : List ℕ) (weighed : ℕ) : Type 0 where
  pub exactly : weighed ≡ points (short_of short) (pairs_of pairing) + carried_of short
  pub short_keeps : ShortKeeps list slip short
  pub lift_keeps : LiftKeeps list short pairing lifted
  pub steps : List Step
  pub named : Names list slip steps
  pub from : OriginClaim list pairing lifted origins steps

-- That, where all three answer, of the first bytes of the outputs, as many as replay and lift answered.
abbrev pub Tells : (list slip pairing short lifted origins : List ℕ) → Result Asked Refusal → Type 0
Tells list slip pairing short lifted origins r =
    IfOk r (λ a. Told list slip pairing (take a.short short) (take a.lifted lifted) (take a.origins origins) a.points)
