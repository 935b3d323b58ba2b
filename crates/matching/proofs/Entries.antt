-- Lists of entries. In order: what an accepted list is; it is a graph, by its points (`listed_graph`) and by its
-- entries (`joined_graph`); it joins two cells at most once (`joined_once`); its entries and the points of their cells
-- (`has_listed`, `listed_has`); a pairing has at most the list's total (`pairing_total`); entries of zero points change
-- no heaviest pairing. Assumes nothing.
use mathlib.Core.Path.{◌≡◌, refl, ap, ◌∙◌}
use mathlib.Core.Logic.{inl, inr}
use mathlib.Core.Bool.{Bool, true, false, cond}
use mathlib.Core.List.{List, [], ◌∷◌}
use Prim.Native.Nat.{ℕ, ◌+◌, ◌*◌, ◌≤◌, ◌<◌}
use native.Mathlib.Nat.{zero-add}
use native.Mathlib.Omega.{arith}
use lib.Dec.{ltb}
use Rattle.matching.specs.Lists.{All, Ascends}
use Rattle.matching.specs.Pairs.{Pair, Points, ι, same, like}
use Rattle.matching.specs.Pairing.{Once, Pairing}
use Rattle.matching.specs.Listed.{Entry, Before, Accepted, total, joined, listed, points}
use Rattle.matching.specs.Graph.{Graph}
use Rattle.matching.proofs.Tests.{Test, pass, fail, is_test, lt_test, fails}
use Rattle.matching.proofs.Pairs.{Same, Apart, same_test}
use Rattle.matching.proofs.Alls.{Has}
use Rattle.matching.proofs.Listed.{joined_same, listed_same, listed_apart}
use Rattle.matching.proofs.Sums.{times_le, sum_add, sum_scale, sum_le_all, sum_none, each_map, each_all}
use Rattle.matching.proofs.Sums.{same_turned, same_self, like_once}
use Rattle.matching.proofs.Pairing.{present, trimmed}

-- What an accepted list is: entries with a < b < n that ascend.
abbrev pub Fit : ℕ → Entry → Type 0
Fit n e = (e.0 < e.1) × (e.1 < n)

pub accepted_of : (n : ℕ) (es : List Entry) → All (Fit n) es → Ascends Before es → Accepted n es
accepted_of n [] p a = tt
accepted_of n (e ∷ es) p a = (p.0, (a.0, accepted_of n es p.1 a.1))

pub accepted_all : (n : ℕ) (es : List Entry) → Accepted n es → All (Fit n) es
accepted_all n [] h = tt
accepted_all n (e ∷ es) h = (h.0, accepted_all n es h.1.1)

pub accepted_ascends : (n : ℕ) (es : List Entry) → Accepted n es → Ascends Before es
accepted_ascends n [] h = tt
accepted_ascends n (e ∷ es) h = (h.1.0, accepted_ascends n es h.1.1)

-- A graph with what f says of the pair x, y added.
graph_more : (n : ℕ) (w : Points) (x y : ℕ) → (x < y) × (y < n) → (f : Bool → ℕ) → f false ≡ 0 → Graph n w
    → Graph n (λ a b. f (same x y a b) + w a b)
graph_more n w x y (l, k) f z g =
    record {
      turned = λ a b. cc (same_turned x y a b, g.turned a b);
      loop = λ a. omega (arith, ap f (fails (same_test x y a a) (no_loop a)), g.loop a);
      top = λ a b h. omega (arith, ap f (fails (same_test x y a b) (no_top a b h)), g.top a b h);
    }
  where
    no_loop : (a : ℕ) → Same x y a a → ⊥
    no_loop a (inl q) = omega (arith, q.0, q.1)
    no_loop a (inr q) = omega (arith, q.0, q.1)

    no_top : (a b : ℕ) → n ≤ b → Same x y a b → ⊥
    no_top a b h (inl q) = omega (arith, q.1)
    no_top a b h (inr q) = omega (arith, q.1)

pub listed_graph : (n : ℕ) (es : List Entry) → Accepted n es → Graph n (listed es)
unfolding listed
listed_graph n [] h = record { turned = λ a b. refl; loop = λ a. refl; top = λ a b k. refl }
listed_graph n (e ∷ es) h =
    graph_more n (listed es) e.0 e.1 h.0 (λ t. cond t e.2 0) refl (listed_graph n es h.1.1)

pub joined_graph : (n : ℕ) (es : List Entry) → Accepted n es → Graph n (joined es)
unfolding joined
joined_graph n [] h = record { turned = λ a b. refl; loop = λ a. refl; top = λ a b k. refl }
joined_graph n (e ∷ es) h =
    graph_more n (joined es) e.0 e.1 h.0 ι refl (joined_graph n es h.1.1)

-- No later entry joins the cells of an earlier one.
later_none : (n : ℕ) (e : Entry) → e.0 < e.1 → (a b : ℕ) → Same e.0 e.1 a b
    → (es : List Entry) → All (Before e) es → Accepted n es → joined es a b ≡ 0
unfolding joined
later_none n e l a b s [] p h = refl
later_none n e l a b s (f ∷ fs) p h =
    rw (fails (same_test f.0 f.1 a b) (no_way s p.0)) (omega (arith, later_none n e l a b s fs p.1 h.1.1))
  where
    no_way : Same e.0 e.1 a b → Before e f → Same f.0 f.1 a b → ⊥
    no_way (inl s) (inl p) (inl q) = omega (arith, s.0, q.0)
    no_way (inl s) (inl p) (inr q) = omega (arith, s.0, s.1, q.0, q.1, h.0.0)
    no_way (inl s) (inr p) (inl q) = omega (arith, s.1, q.1, p.1)
    no_way (inl s) (inr p) (inr q) = omega (arith, s.0, s.1, q.0, q.1, h.0.0, p.0)
    no_way (inr s) (inl p) (inl q) = omega (arith, s.0, s.1, q.0, q.1, h.0.0)
    no_way (inr s) (inl p) (inr q) = omega (arith, s.1, q.1)
    no_way (inr s) (inr p) (inl q) = omega (arith, s.0, s.1, q.0, q.1, h.0.0, p.0)
    no_way (inr s) (inr p) (inr q) = omega (arith, s.0, q.0, p.1)

pub joined_once : (n : ℕ) (es : List Entry) → Accepted n es → (a b : ℕ) → joined es a b ≤ 1
unfolding joined
joined_once n [] h a b = omega arith
joined_once n (e ∷ es) h a b = go (same_test e.0 e.1 a b) (joined_once n es h.1.1 a b)
  where
    go : {t : Bool} → Test (Same e.0 e.1 a b) (Apart e.0 e.1 a b) t → joined es a b ≤ 1
        → ι t + joined es a b ≤ 1
    go (pass s) i = omega (arith, later_none n e h.0.0 a b s es h.1.0 h.1.1)
    go (fail s) i = omega arith

-- Cells that no entry joins have no points.
pub listed_none : (es : List Entry) (a b : ℕ) → joined es a b ≡ 0 → listed es a b ≡ 0
unfolding joined listed
listed_none [] a b h = refl
listed_none (e ∷ es) a b h = go (same e.0 e.1 a b) h (listed_none es a b)
  where
    go : (t : Bool) → ι t + joined es a b ≡ 0 → (joined es a b ≡ 0 → listed es a b ≡ 0)
        → cond t e.2 0 + listed es a b ≡ 0
    go true h i = (let z : ⊥ = omega arith in absurd z)
    go false h i = omega (arith, i (omega arith))

pub listed_joined : (es : List Entry) (a b : ℕ) → 0 < listed es a b → 0 < joined es a b
listed_joined es a b h = go (lt_test 0 (joined es a b))
  where
    go : {t : Bool} → Test (0 < joined es a b) (joined es a b ≤ 0) t → 0 < joined es a b
    go (pass k) = k
    go (fail k) = (let z : ⊥ = omega (arith, listed_none es a b (omega arith)) in absurd z)

-- So the points of an entry's cells are its own.
first_points : (n : ℕ) (e : Entry) (es : List Entry) → Accepted n (e ∷ es) → (a b : ℕ) → Same e.0 e.1 a b
    → e.2 + listed es a b ≡ e.2
first_points n e es h a b s =
    omega (arith, listed_none es a b (later_none n e h.0.0 a b s es h.1.0 h.1.1))

-- Where all entries have points, cells without points are not joined.
joined_none : (es : List Entry) → All (λ (e : Entry). 0 < e.2) es → (a b : ℕ) → listed es a b ≡ 0
    → joined es a b ≡ 0
unfolding joined listed
joined_none [] p a b h = refl
joined_none (e ∷ es) p a b h = go (same e.0 e.1 a b) h (joined_none es p.1 a b)
  where
    go : (t : Bool) → cond t e.2 0 + listed es a b ≡ 0 → (listed es a b ≡ 0 → joined es a b ≡ 0)
        → ι t + joined es a b ≡ 0
    go true h i = (let z : ⊥ = omega (arith, p.0) in absurd z)
    go false h i = omega (arith, i (omega arith))

pub joined_above : (n : ℕ) (es : List Entry) → Accepted n es → All (λ (e : Entry). 0 < e.2) es
    → (a b : ℕ) → joined es a b ≡ ι (ltb 0 (listed es a b))
joined_above n es h p a b = go (lt_test 0 (listed es a b))
  where
    go : {t : Bool} → Test (0 < listed es a b) (listed es a b ≤ 0) t → joined es a b ≡ ι t
    go (pass k) = omega (arith, joined_once n es h a b, listed_joined es a b k)
    go (fail k) = joined_none es p a b (omega arith)

-- An entry of an accepted list has the points of its cells, and cells with points have their entry.
has_joined : (es : List Entry) (e : Entry) → Has es e → 0 < joined es e.0 e.1
unfolding joined
has_joined [] e h = absurd h
has_joined (f ∷ es) e (inl q) = rw q (omega (arith, ap ι (same_self f.0 f.1)))
has_joined (f ∷ es) e (inr h) = omega (arith, has_joined es e h)

pub has_listed : (n : ℕ) (es : List Entry) → Accepted n es → (e : Entry) → Has es e → listed es e.0 e.1 ≡ e.2
has_listed n [] h e k = absurd k
has_listed n (f ∷ es) h e (inl q) =
    rw q
    (listed_same f es f.0 f.1 (same_self f.0 f.1) ∙ first_points n f es h f.0 f.1 (inl (refl, refl)))
has_listed n (f ∷ es) h e (inr k) =
    listed_apart f es e.0 e.1 (fails (is_test (same f.0 f.1 e.0 e.1)) no_way)
    ∙ has_listed n es h.1.1 e k
  where
    no_way : same f.0 f.1 e.0 e.1 ≡ true → ⊥
    no_way s =
        omega (arith, joined_once n (f ∷ es) h e.0 e.1, joined_same f es e.0 e.1 s, has_joined es e k)

pub listed_has : (n : ℕ) (es : List Entry) → Accepted n es → (a b : ℕ) → a < b → 0 < listed es a b
    → Has es (a, b, listed es a b)
unfolding listed
listed_has n [] h a b l k = (let z : ⊥ = omega arith in absurd z)
listed_has n (e ∷ es) h a b l k = go (same_test e.0 e.1 a b) k (listed_has n es h.1.1 a b l)
  where
    go : {t : Bool} → Test (Same e.0 e.1 a b) (Apart e.0 e.1 a b) t → 0 < cond t e.2 0 + listed es a b
        → (0 < listed es a b → Has es (a, b, listed es a b)) → Has (e ∷ es) (a, b, cond t e.2 0 + listed es a b)
    go (pass (inl q)) k i = inl (rw (first_points n e es h a b (inl q), q.0, q.1))
    go (pass (inr q)) k i = (let z : ⊥ = omega (arith, q.0, q.1, h.0.0) in absurd z)
    go (fail s) k i = rw zero-add (inr (i (omega arith)))

-- A pairing has each entry at most once.
pub pairing_total : (es : List Entry) (m : List Pair) → Once m → points es m ≤ total es
unfolding listed like
pairing_total [] m o =
    omega (arith, sum_none {P = λ a b. Unit {0}} (λ a b. 0) (λ a b p. refl) m (each_all (λ a b. tt) m))
pairing_total (e ∷ es) m o =
    omega (
      arith,
      sum_add one (listed es) m,
      pairing_total es m o,
      sum_le_all one (λ a b. e.2 * pair a b) at m,
      sum_scale e.2 pair m,
      times_le e.2 (like_once e.0 e.1 m o),
    )
  where
    pair : Points
    pair = like e.0 e.1

    one : Points
    one a b = cond (same e.0 e.1 a b) e.2 0

    at : (a b : ℕ) → one a b ≤ e.2 * pair a b
    at a b = go (same e.0 e.1 a b)
      where
        go : (t : Bool) → cond t e.2 0 ≤ e.2 * ι t
        go true = omega arith
        go false = omega arith

-- The list and its graph: pairs of zero points change nothing.
module _ (es : List Entry) where
  pub list_pairing : (m : List Pair) → Pairing (listed es) m → Pairing (joined es) m
  list_pairing m p = record { held = each_map (listed_joined es) m p.held; once = p.once }

  -- every pairing of the list has its points by pairs of the graph
  pub list_trimmed : (m : List Pair) → Pairing (joined es) m
      → Pairing (listed es) (present (listed es) m) × (points es (present (listed es) m) ≡ points es m)
  list_trimmed m p = trimmed (listed es) m p.once
