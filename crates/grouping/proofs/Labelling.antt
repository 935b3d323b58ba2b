-- The first labels, stored cell by cell. In order: words below the labels stay (`front_set`); the label of a cell by
-- the number of its pairs; one cell more. Assumes nothing.
use mathlib.Core.Path.{◌≡◌, refl, ap, ◌∙◌}
use mathlib.Core.Logic.{◌≢◌}
use mathlib.Core.Bool.{Bool, cond}
use mathlib.Core.List.{List}
use Prim.Native.Nat.{ℕ, suc, ◌+◌, ◌≤◌, ◌<◌}
use native.Mathlib.Omega.{arith}
use lib.Dec.{ltb}
use lib.ListN.{length, set, length-set}
use lib.Seq.{get_or-set_same, get_or-set_other}
use Rattle.buffers.specs.Map.{at_labels}
use Rattle.matching.specs.Pairs.{Points}
use Rattle.matching.specs.Graph.{Graph, partners}
use Rattle.matching.proofs.Tests.{Test, pass, fail, eq_test}
use Rattle.matching.proofs.More.{degree_more}
use Rattle.grouping.specs.Labels.{own}
use Rattle.grouping.specs.Finding.{words_in, FrontKept}

-- ---- words below the labels

pub front_none : {w2 : List ℕ} → FrontKept w2 w2
front_none = record { long = refl; same = λ j l. refl }

pub front_set : {w2 w2' : List ℕ} → FrontKept w2 w2' → (c v : ℕ) → FrontKept w2 (set w2' (at_labels + c) v)
front_set {w2} {w2'} f c v = record {
  long = length-set w2' (at_labels + c) v ∙ f.long;
  same = λ j l. get_or-set_other w2' (at_labels + c) j v 0 (λ q. omega arith) ∙ f.same j l;
}

pub front_all : {w2 w2' w2'' : List ℕ} → FrontKept w2 w2' → FrontKept w2' w2'' → FrontKept w2 w2''
front_all f g = record { long = g.long ∙ f.long; same = λ j l. g.same j l ∙ f.same j l }

-- ---- the label of a cell

pub own_at : {n : ℕ} {w : Points} {r v : ℕ} (c : ℕ) → Graph n w → n ≤ 1024 → r ≡ length (partners 1024 w c)
    → v ≡ cond (ltb 0 r) (suc c) 0 → v ≡ own n w c
own_at c g l e q = q ∙ ap (λ (p : ℕ). cond (ltb 0 p) (suc c) 0) (e ∙ degree_more g 1024 l c)

-- ---- one cell more

-- The cells below k have their first labels.
pub record Labelling (n : ℕ) (w : Points) (k : ℕ) (w2 w2' : List ℕ) : Type 0 where
  pub front : FrontKept w2 w2'
  pub labels : (c : ℕ) → c < k → words_in w2' c ≡ own n w c

module _ {n : ℕ} {w : Points} {k : ℕ} {w2 w2' : List ℕ} (s : Labelling n w k w2 w2') where
  pub labels_more : {v : ℕ} → at_labels + k < length w2' → v ≡ own n w k
      → Labelling n w (k + 1) w2 (set w2' (at_labels + k) v)
  labels_more {v} room e = record { front = front_set s.front k v; labels = λ c l. go c l (eq_test c k) }
    where
      go : (c : ℕ) → c < k + 1 → {t : Bool} → Test (c ≡ k) (c ≢ k) t
          → words_in (set w2' (at_labels + k) v) c ≡ own n w c
      go c l (pass q) = rw q (get_or-set_same w2' (at_labels + k) v 0 room ∙ e)
      go c l (fail d) =
          get_or-set_other w2' (at_labels + k) (at_labels + c) v 0 (λ q. d (omega arith))
          ∙ s.labels c (omega (arith, d))
