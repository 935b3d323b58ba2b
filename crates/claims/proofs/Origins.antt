-- The origin list that lift writes: `origin_claim`. Assumes nothing.
use mathlib.Core.Path.{◌≡◌, sym, ap, subst, ◌∙◌}
use mathlib.Core.List.{List, [], map}
use Prim.Native.Nat.{ℕ, ◌≤◌}
use native.Mathlib.Omega.{arith}
use lib.ListN.{length}
use Rattle.matching.specs.Pairs.{Pair, Each, like}
use Rattle.matching.specs.Listed.{filed}
use Rattle.matching.specs.Slip.{lift}
use Rattle.matching.specs.Origin.{Origins, origins, CameFrom}
use Rattle.matching.proofs.Sums.{each_map, like_turned}
use Rattle.matching.proofs.Filed.{filed_sum}
use Rattle.matching.proofs.Origin.{each_held, came_from}
use Rattle.cellfile.specs.Files.{origin_list, origin_fields, read_entries, cells_of, pairs_of}
use Rattle.checks.proofs.Accepted.{accepted_list}
use Rattle.starting.specs.Steps.{graph_in}
use Rattle.lifting.specs.Calls.{lift_file, lift_origins, lifted_origins}
use Rattle.lifting.proofs.Pairs.{Eleven, origins_eleven}
use Rattle.lifting.proofs.Filing.{all_entries, origins_longest, origins_read}
use Rattle.claims.specs.Demand.{Allowed, Liftable}
use Rattle.claims.specs.Claims.{OriginClaim}
use Rattle.claims.proofs.Slips.{by_steps_is}
use Rattle.claims.proofs.Demand.{whole, store_pairing, lifted_is}

module _ (list slip : List ℕ) (h : Allowed list slip) (pairing : List ℕ) (p : Liftable list slip pairing) where
  abbrev m : List Pair
  m = pairs_of pairing

  abbrev up : List Pair
  up = lift (graph_in list) h.steps m

  abbrev from : Origins
  from = origins (graph_in list) h.steps m

  le : cells_of list ≤ 1024
  le = (accepted_list list h.accepted).0

  numbers : Eleven (origins (graph_in list) h.steps (pairs_of pairing))
  numbers = origins_eleven (graph_in list) h.steps m (omega (arith, (whole list slip h).steps, le))

  pub same_origins : lift_origins list slip pairing ≡ lifted_origins list h.steps (pairs_of pairing)
  same_origins = by_steps_is list slip h [] (λ ts. lifted_origins list ts m)

  pub origin_claim : OriginClaim list pairing (lift_file list slip pairing) (lift_origins list slip pairing) h.steps
  origin_claim =
      let g = all_entries list h.accepted in
      let held = store_pairing list slip h pairing p in
      let read = origins_read le g up held from numbers in
      let same = lifted_is list slip h pairing p in
      record {
        cells = ap cells_of same_origins ∙ read.0;
        from = from;
        entries =
            ap (read_entries origin_list) same_origins ∙ read.1 ∙ ap (map (origin_fields from)) (sym same);
        came = subst (Each (λ a b. CameFrom (graph_in list) m a b h.steps (from a b))) (sym same)
            (each_map (λ a b k. came_from m a b (graph_in list) h.steps k.0) (filed up)
            (each_held (filed up) up (λ a b. omega (arith, filed_sum (like a b) (like_turned a b) up))));
        longest = omega (arith, ap length same_origins, origins_longest le g up held from);
      }
