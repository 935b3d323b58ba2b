-- Pairings as files. In order: a pairing of a graph of n cells is read as itself in file order (`file_in_order`,
-- `file_read`, `file_pairing`), passes refusal 9 (`file_formed`), and has at most 1,540 bytes (`file_longest`), its
-- origin list at most 2,564 (`origins_longest`), and that is read again (`origins_read`); what is lifted by steps that
-- are allowed is a pairing of the store (`lifted_pairing`), and heaviest where it was (`heaviest_lifted`); what pair
-- writes (`best_left`, `pairing_read`). Assumes nothing.
use mathlib.Core.Path.{◌≡◌, refl, sym, ap, subst}
use mathlib.Core.Bool.{false}
use mathlib.Core.List.{List, [], ◌∷◌, map}
use mathlib.Core.Option.{some}
use Prim.Native.Nat.{ℕ, ◌≤◌, ◌<◌}
use native.Mathlib.Omega.{arith}
use lib.ListN.{length, length-map}
use Rattle.matching.specs.Lists.{All}
use Rattle.matching.specs.Pairs.{Pair, Points, Each}
use Rattle.matching.specs.Pairing.{Pairing, Heaviest}
use Rattle.matching.specs.Listed.{Entry, joined, listed, filed}
use Rattle.matching.specs.Graph.{Graph}
use Rattle.matching.specs.Steps.{Rule, Step, name}
use Rattle.matching.specs.Slip.{replay, left, lift, bring}
use Rattle.matching.specs.Origin.{Origins}
use Rattle.matching.proofs.Sums.{each_map}
use Rattle.matching.proofs.Put.{pair_below, pair_apart}
use Rattle.matching.proofs.Pairing.{present}
use Rattle.matching.proofs.Filed.{InOrder, filed_pairing, filed_in_order}
use Rattle.matching.proofs.Entries.{joined_graph, list_pairing, list_trimmed}
use Rattle.matching.proofs.Fits.{Stands}
use Rattle.matching.proofs.Reduce.{replay_fits}
use Rattle.matching.proofs.Demand.{slip_lifted, slip_brought, no_gain_no_loss}
use Rattle.cellfile.specs.Files.{pairing as pairing_layout, origin_list, cells_of, pairs_of, pair_fields, origin_fields}
use Rattle.cellfile.specs.Files.{File, read_entries, in_view}
use Rattle.cellfile.specs.Fits.{FitsFields, FitsFile}
use Rattle.checks.specs.Refusals.{first, lists, list_rows, bad_pairing}
use Rattle.cellfile.proofs.RoundTrip.{read_write, length_file}
use Rattle.checks.proofs.Written.{pairs_read, pairing_passes}
use Rattle.starting.specs.Steps.{graph_in, reduce_steps}
use Rattle.checks.proofs.Accepted.{accepted_list}
use Rattle.starting.proofs.OnList.{list_graph, left_graph}
use Rattle.reduction.proofs.Reducing.{reduce_allowed}
use Rattle.partners.proofs.Tabled.{pairing_half}
use Rattle.lifting.specs.Calls.{pair_file, origin_file, graph_after, pairing_file}
use Rattle.matching.specs.Solve.{solution}
use Rattle.lifting.proofs.Pairs.{Eleven, origin_fits}
use Rattle.matching.proofs.Solution.{solution_heaviest}

-- ---- a pairing of a graph, as a file

module _ {n : ℕ} {w : Points} (le : n ≤ 1024) (g : Graph n w) where
  ordered_below : (m : List Pair) → InOrder m → Each (λ a b. 0 < w a b) m → Each (λ a b. (a < b) × (b < n)) m
  ordered_below [] o p = tt
  ordered_below (e ∷ m) o p = ((o.0, (pair_below g e.0 e.1 p.0).1), ordered_below m o.1.1 p.1)

  module _ (m : List Pair) (p : Pairing w m) where
    kept : Pairing w (filed m)
    kept = filed_pairing w g.turned m p

    pub file_in_order : InOrder (filed m)
    file_in_order = filed_in_order m (each_map (pair_apart g) m p.held) p.once

    below : Each (λ a b. (a < b) × (b < n)) (filed m)
    below = ordered_below (filed m) file_in_order kept.held

    pub file_half : length (filed m) ≤ 512
    file_half =
        omega (
          arith,
          pairing_half n (filed m)
              (each_map (λ a b h. ((pair_below g a b h).0, (pair_below g a b h).1, pair_apart g a b h)) (filed m)
              kept.held) kept.once,
        )

    few : length (filed m) < 8192
    few = omega (arith, file_half)

    pub file_read : pairs_of (pair_file n m) ≡ filed m
    file_read = pairs_read n (filed m) le few below

    pub file_pairing : Pairing w (pairs_of (pair_file n m))
    file_pairing = subst (Pairing w) (sym file_read) kept

    pub file_formed : bad_pairing n (pair_file n m) ≡ false
    file_formed = pairing_passes n (filed m) le few below file_in_order

    pub file_longest : length (pair_file n m) ≤ 1540
    file_longest =
        omega (
          arith,
          length_file pairing_layout (record { cells = n; extra = []; entries = map pair_fields (filed m) }),
          length-map (filed m) pair_fields,
          file_half,
        )

    pub origins_longest : (o : Origins) → length (origin_file n o m) ≤ 2564
    origins_longest o =
        omega (
          arith,
          length_file origin_list (record { cells = n; extra = []; entries = map (origin_fields o) (filed m) }),
          length-map (filed m) (origin_fields o),
          file_half,
        )

    module _ (o : Origins) (numbers : Eleven o) where
      abbrev origin_list_is : File
      origin_list_is = record { cells = n; extra = []; entries = map (origin_fields o) (filed m) }

      origin_list_fits : FitsFile origin_list origin_list_is
      origin_list_fits = record {
        kind = omega arith;
        cells = omega (arith, le);
        count = omega (arith, length-map (filed m) (origin_fields o), few);
        whole_extra = refl;
        whole_entry = refl;
        extra = tt;
        entries = fit (filed m)
            (each_map (λ a b h. (omega (arith, h.0, h.1, le), omega (arith, h.1, le))) (filed m) below);
      }
        where
          fit : (k : List Pair) → Each (λ a b. (a < 1024) × (b < 1024)) k
              → All (FitsFields origin_list.entry) (map (origin_fields o) k)
          fit [] h = tt
          fit (e ∷ k) h = (origin_fits o numbers e.0 e.1 h.0, fit k h.1)

      pub origins_read : (cells_of (origin_file n o m) ≡ n)
          × (read_entries origin_list (origin_file n o m) ≡ map (origin_fields o) (filed m))
      origins_read =
          let again = read_write origin_list origin_list_is origin_list_fits in
          (ap (λ (f : File). f.cells) again, ap (λ (f : File). f.entries) again)

-- ---- what is lifted by steps that are allowed

module _ (list : List ℕ) (h : first (list_rows lists list) ≡ 0) where
  abbrev n : ℕ
  n = cells_of list

  abbrev store : List Entry
  store = in_view list

  -- the graph of all entries
  pub all_entries : Graph n (joined store)
  all_entries = joined_graph n store (accepted_list list h).1

  module _ (rs : List (Rule × ℕ)) (ss : List Step) (allowed : replay n (graph_in list) rs ≡ some ss) where
    stands : Stands (graph_in list) ss
    stands = (replay_fits (list_graph list h) rs ss allowed).0

    pub lifted_pairing : (m : List Pair) → Pairing (left (graph_in list) ss) m
        → Pairing (joined store) (lift (graph_in list) ss m)
    lifted_pairing m p =
        list_pairing store (lift (graph_in list) ss m) (slip_lifted (list_graph list h) ss stands m p).0

    pub heaviest_lifted : (m : List Pair) → Heaviest (left (graph_in list) ss) (left (graph_in list) ss) m
        → Heaviest (joined store) (listed store) (filed (lift (graph_in list) ss m))
    heaviest_lifted m q =
        let x = (no_gain_no_loss n store (accepted_list list h).1 rs ss allowed).exact m q.pairing in
        record {
          pairing = x.0;
          most = λ k p. (
              let t = list_trimmed store k p in
              let d = slip_brought (list_graph list h) ss stands (present (graph_in list) k) t.0 in
              omega (arith, x.1, t.1, d.1, q.most (bring (graph_in list) ss (present (graph_in list) k)) d.0)
              );
        }

  -- ---- what pair writes

  -- the solution of what reduce leaves is heaviest there
  abbrev pub it : List Pair
  it = solution n (graph_after list (reduce_steps list))

  pub best_left : Heaviest (graph_after list (reduce_steps list)) (graph_after list (reduce_steps list)) it
  best_left =
      solution_heaviest n (graph_after list (reduce_steps list))
      (left_graph list h (map name (reduce_steps list)) (reduce_steps list) (reduce_allowed list h))

  pub pairing_pairing : Pairing (joined store) (lift (graph_in list) (reduce_steps list) it)
  pairing_pairing =
      lifted_pairing (map name (reduce_steps list)) (reduce_steps list) (reduce_allowed list h) it best_left.pairing

  pub pairing_read : pairs_of (pairing_file list) ≡ filed (lift (graph_in list) (reduce_steps list) it)
  pairing_read =
      file_read (accepted_list list h).0 all_entries (lift (graph_in list) (reduce_steps list) it) pairing_pairing
