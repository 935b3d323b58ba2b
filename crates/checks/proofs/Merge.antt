-- Pairs looked up among ascending entries. In order: the search as the loop meets the entries; what an entry says of a
-- pair by their keys; what the search finds (`sought_is`); the points of all pairs (`merge_is`); that files
-- which are not refused ascend. Assumes nothing.
use mathlib.Core.Path.{◌≡◌, refl, sym, ◌∙◌}
use mathlib.Core.Logic.{◌≢◌}
use mathlib.Core.Bool.{Bool, true, false, cond}
use mathlib.Core.List.{List, [], ◌∷◌, map}
use mathlib.Core.Option.{Option, some, none}
use Prim.Native.Nat.{ℕ, suc, ◌+◌, ◌≤◌, ◌<◌}
use native.Mathlib.Omega.{arith}
use native.Mathlib.Nat.{add-zero}
use lib.Dec.{ltb}
use lib.ListN.{drop, drop_of_length-le}
use borrow.Author.Tests.{lt-ltb, le-ltb, eq-eqb}
use Rattle.matching.specs.Lists.{all, All}
use Rattle.matching.specs.Pairs.{Pair, sum}
use Rattle.matching.specs.Listed.{Entry, joined, listed}
use Rattle.matching.proofs.Tests.{Test, pass, fail, eq_test, lt_test, passes, fails}
use Rattle.matching.proofs.Alls.{all_map}
use Rattle.matching.proofs.Listed.{joined_same, listed_same, joined_apart, listed_apart}
use Rattle.cellfile.specs.Files.{key, entry_key, pair_key, cells_of, count_of, entries_all, pairs_of}
use Rattle.cellfile.specs.Reads.{EntryRead}
use Rattle.cellfile.specs.declared.decode.Entry as decoded
use Rattle.cellfile.proofs.Walk.{entries_count, entry_next}
use Rattle.checks.specs.Refusals.{ascending_from, first, lists, list_rows, bad_pairing}
use Rattle.checks.specs.Merging.{sought, merge}
use Rattle.checks.proofs.Ascending.{Ordered, OrderedEntries, OrderedPairs, ascending_cons, entries_above_is, key_test}
use Rattle.checks.proofs.Rows.{bad_pairing_none}
use Rattle.checks.proofs.Accepted.{accepted_entries, list_fits}
use Rattle.checks.proofs.Ascending.{not_joined, pairs_above}

-- ---- the search from place i on

module _ (s : List ℕ) (p : Pair) (i : ℕ) where
  abbrev pub sought_from : Option (ℕ × List Entry)
  sought_from = sought (drop i (entries_all s)) p

  pub sought_end : count_of s ≤ i → sought_from ≡ none
  sought_end l = rw (drop_of_length-le (entries_all s) {i = i} (omega (arith, entries_count s)))

  module _ (l : i < count_of s) (e : decoded.Entry) (r : EntryRead s i e) where
    pub sought_here : key e.a e.b ≡ pair_key p → sought_from ≡ some (e.points, drop (i + 1) (entries_all s))
    sought_here h =
        rw (
          entry_next s i e l r,
          le-ltb (pair_key p) (key e.a e.b) (omega arith),
          eq-eqb (key e.a e.b) (pair_key p) h,
        )

-- ---- what the search finds

-- Entries in file order, from a bound on.
pub record Ascending (es : List Entry) : Type 0 where
  pub low : ℕ
  pub ordered : OrderedEntries es
  pub ascends : ascending_from low (map entry_key es) ≡ true

-- No entry joins the pair; or the entries behind its own say of later pairs what all say.
abbrev pub SoughtIs : List Entry → Pair → Option (ℕ × List Entry) → Type 0
SoughtIs es p none = joined es p.0 p.1 ≡ 0
SoughtIs es p (some x) =
    (0 < joined es p.0 p.1) × (listed es p.0 p.1 ≡ x.0) × Ascending x.1
    × ((q : Pair) → Ordered q.0 q.1 → pair_key p < pair_key q
    → (joined x.1 q.0 q.1 ≡ joined es q.0 q.1)
    × (listed x.1 q.0 q.1 ≡ listed es q.0 q.1))

pub sought_is : (es : List Entry) (p : Pair) → Ascending es → Ordered p.0 p.1 → SoughtIs es p (sought es p)
sought_is [] p a o = (not_joined [] p tt o tt).0
sought_is (e ∷ es) p a o =
    go (lt_test (pair_key p) (entry_key e)) (eq_test (entry_key e) (pair_key p)) (sought es p) (sought_is es p rest o)
  where
    t : (a.low ≤ entry_key e) × (ascending_from (suc (entry_key e)) (map entry_key es) ≡ true)
    t = ascending_cons a.low (entry_key e) (map entry_key es) a.ascends

    rest : Ascending es
    rest = record { low = suc (entry_key e); ordered = a.ordered.1; ascends = t.1 }

    -- an entry of another key says nothing of a pair
    aside : (q : Pair) → Ordered q.0 q.1 → entry_key e ≢ pair_key q
        → (joined es q.0 q.1 ≡ joined (e ∷ es) q.0 q.1)
        × (listed es q.0 q.1 ≡ listed (e ∷ es) q.0 q.1)
    aside q k n =
        let f = fails (key_test e.0 e.1 q.0 q.1 a.ordered.0 k) n in
        (sym (joined_apart e es q.0 q.1 f), sym (listed_apart e es q.0 q.1 f))

    go : {s b : Bool} → Test (pair_key p < entry_key e) (entry_key e ≤ pair_key p) s
        → Test (entry_key e ≡ pair_key p) (entry_key e ≢ pair_key p) b
        → (x : Option (ℕ × List Entry)) → SoughtIs es p x
        → SoughtIs (e ∷ es) p (cond s none (cond b (some (e.2, es)) x))
    go (pass h) y x i = (not_joined (e ∷ es) p a.ordered o (h, entries_above_is e es p t.1 (omega arith))).0
    go (fail h) (pass k) x i =
        let y = passes (key_test e.0 e.1 p.0 p.1 a.ordered.0 o) (λ n. n k) in
        let z = not_joined es p a.ordered.1 o (entries_above_is e es p t.1 (omega arith)) in (
          omega (arith, joined_same e es p.0 p.1 y),
          omega (arith, listed_same e es p.0 p.1 y, z.1),
          rest,
          λ q k l. aside q k (omega arith),
        )
    go (fail h) (fail n) none i = sym (aside p o n).0 ∙ i
    go (fail h) (fail n) (some x) i =
        let z = aside p o n in (
          omega (arith, z.0, i.0),
          sym z.1 ∙ i.1,
          i.2,
          λ q k l.
              let u = i.3 q k l in
              let v = aside q k (omega arith) in
              (u.0 ∙ v.0, u.1 ∙ v.1),
        )

-- ---- the points of all pairs

-- Pairs of 10 bits in file order, from a bound on.
pub record AscendingPairs (ps : List Pair) : Type 0 where
  pub low : ℕ
  pub ordered : OrderedPairs ps
  pub ascends : ascending_from low (map (λ (p : Pair). p.0) ps) ≡ true

-- those behind the first are above it
pub pairs_behind : (p : Pair) (ps : List Pair) → AscendingPairs (p ∷ ps)
    → AscendingPairs ps × All (λ (q : Pair). pair_key p < pair_key q) ps
pairs_behind p ps a =
    let u = ascending_cons a.low p.0 (map (λ (x : Pair). x.0) ps) a.ascends in (
      record { low = suc p.0; ordered = a.ordered.1; ascends = u.1 },
      pairs_above (p.0, p.1, 0) p ps a.ordered.0 u.1 (omega arith),
    )

-- Whether the entries join every pair.
abbrev pub join_all : List Entry → List Pair → Bool
join_all es ps = all (λ (p : Pair). ltb 0 (joined es p.0 p.1)) ps

-- entries that say the same of the pairs
same_pairs : (es rest : List Entry) (p : Pair) (ps : List Pair) → OrderedPairs ps
    → All (λ (q : Pair). pair_key p < pair_key q) ps
    → ((q : Pair) → Ordered q.0 q.1 → pair_key p < pair_key q
    → (joined rest q.0 q.1 ≡ joined es q.0 q.1) × (listed rest q.0 q.1 ≡ listed es q.0 q.1))
    → (join_all rest ps ≡ join_all es ps) × (sum (listed rest) ps ≡ sum (listed es) ps)
same_pairs es rest p [] o h f = (refl, refl)
same_pairs es rest p (q ∷ ps) o h f =
    let i = same_pairs es rest p ps o.1 h.1 f in
    let s = f q o.0 h.0 in
    (rw (s.0, i.0), omega (arith, s.1, i.1))

pub merge_is : (es : List Entry) (ps : List Pair) (had : ℕ) → Ascending es → AscendingPairs ps
    → merge es ps had ≡ cond (join_all es ps) (some (had + sum (listed es) ps)) none
merge_is es [] had a b = rw add-zero
merge_is es (p ∷ ps) had a b =
    go (sought es p) (sought_is es p a b.ordered.0)
    (λ rest v c. merge_is rest ps v c (pairs_behind p ps b).0)
  where
    go : (x : Option (ℕ × List Entry)) → SoughtIs es p x
        → ((rest : List Entry) (v : ℕ) → Ascending rest
        → merge rest ps v ≡ cond (join_all rest ps) (some (v + sum (listed rest) ps)) none)
        → elim x [ none ↦ none | some y ↦ merge y.1 ps (had + y.0) ]
        ≡ cond (join_all es (p ∷ ps)) (some (had + sum (listed es) (p ∷ ps))) none
    go none i f = rw i
    go (some y) i f =
        let z = same_pairs es y.1 p ps b.ordered.1 (pairs_behind p ps b).1 i.3 in
        let n : had + y.0 + sum (listed y.1) ps ≡ had + sum (listed es) (p ∷ ps) = omega (arith, i.1, z.1) in
        f y.1 (had + y.0) i.2 ∙ rw (lt-ltb 0 (joined es p.0 p.1) i.0, z.0, n)

-- ---- the entries of a list and the pairs of a pairing that are not refused

module _ (list : List ℕ) (accepted : first (list_rows lists list) ≡ 0) where
  few : cells_of list ≤ 1024
  few = (list_fits list accepted).0

  pub entries_ascend : Ascending (entries_all list)
  entries_ascend =
      let a = accepted_entries list accepted in
      record {
        low = 0;
        ordered = all_map (λ (x : Entry) h. (h.0, omega (arith, few))) (entries_all list) a.0;
        ascends = a.1;
      }

  pub pairs_ascend : (pairing : List ℕ) → bad_pairing (cells_of list) pairing ≡ false
      → AscendingPairs (pairs_of pairing)
  pairs_ascend pairing formed =
      let a = bad_pairing_none (cells_of list) pairing formed in
      record {
        low = 0;
        ordered = all_map (λ (x : Pair) h. (h.0, omega (arith, few))) (pairs_of pairing) a.1;
        ascends = a.2;
      }
