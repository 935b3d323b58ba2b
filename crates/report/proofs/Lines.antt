-- The loop that writes the lines of a pairing's pairs. In order: entries and pairs ahead, and the points of the first
-- pair by a search (`ahead_found`, `ahead_next`); what is written when places i and j are reached (`Reached`), at the
-- start, after a pair and at the end. Assumes nothing.
use mathlib.Core.Path.{◌≡◌, refl, sym, ap, subst, ◌∙◌}
use mathlib.Core.List.{List, [], ◌∷◌, ◌++◌, append-nil, append_assoc}
use mathlib.Core.Option.{some, none}
use Rattle.std.specs.Prelude.{Some, None}
use Prim.Native.Nat.{ℕ, ◌+◌, ◌*◌, ◌≤◌, ◌<◌}
use native.Mathlib.Omega.{arith}
use lib.ListN.{length, drop, drop_of_length-le, length-append}
use Rattle.matching.specs.Lists.{All}
use Rattle.matching.specs.Pairs.{Pair}
use Rattle.matching.specs.Listed.{Entry, joined, listed, total}
use Rattle.matching.proofs.Alls.{all_map, each_is_all}
use Rattle.cellfile.specs.Files.{count_of, entries_all, pairs_of, pair_key}
use Rattle.cellfile.specs.Reads.{PairRead, points_top}
use Rattle.cellfile.specs.declared.decode.PairEntry.{PairEntry}
use Rattle.cellfile.proofs.Walk.{pairs_count, pair_next}
use Rattle.checks.specs.Merging.{sought, Seeks}
use Rattle.checks.specs.declared.Match.{Match}
use Rattle.checks.proofs.Ascending.{Ordered, OrderedPairs}
use Rattle.checks.proofs.Merge.{Ascending, AscendingPairs, SoughtIs, sought_is, pairs_behind, entries_ascend}
use Rattle.checks.proofs.Merge.{pairs_ascend}
use Rattle.report.specs.Printed.{line, pair_lines, with_points}
use Rattle.report.specs.Writing.{LinesThere}
use Rattle.report.proofs.Decimal.{pair_line_few}

-- ---- entries and pairs ahead

-- The entries join the pair, and give it the points that all entries give it.
abbrev Says : List Entry → List Entry → Pair → Type 0
Says all es p = (0 < joined es p.0 p.1) × (listed es p.0 p.1 ≡ listed all p.0 p.1)

-- Entries in order, and pairs in order of which they say what all entries say.
pub record Ahead (all es : List Entry) (ps : List Pair) : Type 0 where
  pub entries : Ascending es
  pub pairs : AscendingPairs ps
  pub said : All (Says all es) ps

-- entries that say the same of the pairs behind p say what all entries say
said_on : (all es rest : List Entry) (p : Pair) (ps : List Pair) → OrderedPairs ps
    → All (λ (q : Pair). pair_key p < pair_key q) ps
    → ((q : Pair) → Ordered q.0 q.1 → pair_key p < pair_key q
    → (joined rest q.0 q.1 ≡ joined es q.0 q.1) × (listed rest q.0 q.1 ≡ listed es q.0 q.1))
    → All (Says all es) ps → All (Says all rest) ps
said_on all es rest p [] o l f h = tt
said_on all es rest p (q ∷ ps) o l f h =
    let s = f q o.0 l.0 in
    ((omega (arith, s.0, h.0.0), s.1 ∙ h.0.1), said_on all es rest p ps o.1 l.1 f h.1)

module _ (all es : List Entry) (p : Pair) (ps : List Pair) (a : Ahead all es (p ∷ ps)) where
  found : SoughtIs es p (sought es p)
  found = sought_is es p a.entries a.pairs.ordered.0

  -- a pair that is an entry is found
  ahead_found : {P : Type 0} → sought es p ≡ none → P
  ahead_found e = (let z = subst (SoughtIs es p) e found in absurd (omega (arith, z, a.said.0.0)))

  ahead_next : (x : ℕ × List Entry) → sought es p ≡ some x → (x.0 ≡ listed all p.0 p.1) × Ahead all x.1 ps
  ahead_next x e =
      let f = subst (SoughtIs es p) e found in
      let b = pairs_behind p ps a.pairs in (
        sym f.1 ∙ a.said.0.1,
        record {
          entries = f.2;
          pairs = b.0;
          said = said_on all es x.1 p ps b.0.ordered b.1 f.3 a.said.1;
        },
      )

-- ---- the loop

module _ (list other : List ℕ) where
  abbrev es : List Entry
  es = entries_all list

  abbrev ps : List Pair
  ps = pairs_of other

  -- What is left of the pairs, put behind the text, makes the lines of all; so do their points with the sum.
  pub record Reached (text₀ : List ℕ) (i j : ℕ) (text : List ℕ) (sum : ℕ) : Type 0 where
    pub lines : text ++ pair_lines (with_points es (drop j ps)) ≡ text₀ ++ pair_lines (with_points es ps)
    pub sums : sum + total (with_points es (drop j ps)) ≡ total (with_points es ps)
    pub ahead : Ahead es (drop i es) (drop j ps)
    pub few : length text ≤ length text₀ + 68 * j
    pub small : sum ≤ points_top * j

  module _ (text₀ : List ℕ) where
    pub reach_none : LinesThere list other → Reached text₀ 0 0 text₀ 0
    reach_none h =
        record {
          lines = refl;
          sums = omega arith;
          ahead = record {
            entries = entries_ascend list h.accepted;
            pairs = pairs_ascend list h.accepted other h.formed;
            said = all_map (λ (x : Pair) l. (l, refl)) ps (each_is_all (λ a b. 0 < joined es a b) ps h.held);
          };
          few = omega arith;
          small = omega arith;
        }

    module _ {i j : ℕ} {text : List ℕ} {sum : ℕ} (r : Reached text₀ i j text sum) where
      pub reach_all : count_of other ≤ j
          → (text ≡ text₀ ++ pair_lines (with_points es ps)) × (sum ≡ total (with_points es ps))
      reach_all h =
          let none = drop_of_length-le ps {i = j} (omega (arith, pairs_count other)) in (
            sym (append-nil text) ∙ (rw none at r.lines),
            omega (arith, r.sums, ap (λ qs. total (with_points es qs)) none),
          )

      module _ (l : j < count_of other) (p : PairEntry) (q : PairRead other j p) where
        next : drop j ps ≡ (p.a, p.b) ∷ drop (j + 1) ps
        next = pair_next other j p l q

        ahead_here : Ahead es (drop i es) ((p.a, p.b) ∷ drop (j + 1) ps)
        ahead_here = rw next at r.ahead

        pub reach_found : {P : Type 0} → Seeks list i (p.a, p.b) None → P
        reach_found s = ahead_found es (drop i es) (p.a, p.b) (drop (j + 1) ps) ahead_here s.is

        pub reach_next : (f : Match) → Seeks list i (p.a, p.b) (Some f) → {text' : List ℕ}
            → text' ≡ text ++ line "pair" (p.a ∷ p.b ∷ f.points ∷ [])
            → Reached text₀ f.next (j + 1) text' (sum + f.points)
        reach_next f s {text'} e =
            record {
              lines = rw (e, append_assoc text here_line (pair_lines (with_points es (drop (j + 1) ps))))
                  (rw (next, ← here.0) at r.lines);
              sums = omega (arith, r.sums, ap (λ qs. total (with_points es qs)) next, here.0);
              ahead = here.1;
              few = omega (
                arith,
                ap length e,
                length-append text here_line,
                r.few,
                pair_line_few p.a p.b f.points,
              );
              small = omega (arith, r.small, s.fits.0);
            }
          where
            here_line : List ℕ
            here_line = line "pair" (p.a ∷ p.b ∷ f.points ∷ [])

            here : (f.points ≡ listed es p.a p.b) × Ahead es (drop f.next es) (drop (j + 1) ps)
            here =
                ahead_next es (drop i es) (p.a, p.b) (drop (j + 1) ps) ahead_here (f.points, drop f.next es) s.is
