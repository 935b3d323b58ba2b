-- The search for the live slot of a pair u, v over the slots of u, from the last one down (`Sought`, `seek_end`).
-- Assumes nothing.
use mathlib.Core.Path.{◌≡◌, sym, ap}
use mathlib.Core.Logic.{inl, inr, ◌≢◌}
use mathlib.Core.Bool.{Bool, false, not}
use mathlib.Core.List.{List, []}
use Prim.Native.Nat.{ℕ, ◌≤◌, ◌<◌}
use native.Mathlib.Omega.{arith}
use Rattle.matching.specs.Pairs.{touches}
use Rattle.matching.proofs.Tests.{Test, pass, fail, lt_test, not_test, holds, fails}
use Rattle.matching.proofs.Pairs.{Same}
use Rattle.slots.specs.Slots.{store, graph, low_of, high_of}
use Rattle.slots.specs.Found.{FindSlot, LastSlot}
use Rattle.slots.proofs.Totals.{total_none}
use Rattle.slots.proofs.Graphs.{gives, join_test}
use Rattle.slots.proofs.Links.{has_test}

-- The slots from `to` on give the pair nothing; i names the last slot of u below `to`.
pub record Sought (e u v : ℕ) (w1 : List ℕ) (i : ℕ) : Type 0 where
  pub to : ℕ
  pub top : to ≤ e
  pub next : LastSlot w1 u to i
  pub none : (j : ℕ) → to ≤ j → j < e → gives (store w1 []) u v j ≡ 0

module _ {e u v : ℕ} {w1 : List ℕ} {i : ℕ} (p : Sought e u v w1 i) where
  -- a slot without u gives the pair nothing
  off_none : (j : ℕ) → touches u (low_of w1 j) (high_of w1 j) ≡ false → gives (store w1 []) u v j ≡ 0
  off_none j f = rw (fails (join_test (store w1 []) j u v)
      (λ q. no q (holds (not_test (has_test (store w1 []) j u)) (ap not f))))
    where
      no : Same (low_of w1 j) (high_of w1 j) u v → (low_of w1 j ≢ u) × (high_of w1 j ≢ u) → ⊥
      no (inl q) n = n.0 (sym q.0)
      no (inr q) n = n.1 (sym q.0)

  pub seek_end : i ≡ 0 → FindSlot e w1 u v 0
  unfolding graph
  seek_end z = total_none _ e (λ j l. at j l (lt_test j p.to))
    where
      at : (j : ℕ) → j < e → {t : Bool} → Test (j < p.to) (p.to ≤ j) t → gives (store w1 []) u v j ≡ 0
      at j l (pass k) = off_none j (p.next.past j (omega arith) k)
      at j l (fail k) = p.none j k l
