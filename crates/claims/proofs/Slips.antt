-- What replay and reduce write, read again. In order: by steps that are allowed, the short list is the pairs left with
-- their points, and the carried points (`short_read`, `carried_read`); the slip passes refusal 7 (`slip_formed`) and
-- names the steps (`slip_names`); how long both are at most; a slip that is allowed, by the steps that it names: what
-- is written and asked goes by them (`by_steps_is`), and its short list, as pairs, is the graph left. Assumes nothing.
use mathlib.Core.Path.{◌≡◌, refl, sym, ap, ap₂, subst, ◌∙◌}
use mathlib.Core.Logic.{◌↔◌}
use mathlib.Core.Bool.{false}
use mathlib.Core.List.{List, [], ◌∷◌, map}
use mathlib.Core.Option.{Option, some, none}
use Prim.Native.Nat.{ℕ, ◌+◌, ◌≤◌, ◌<◌}
use native.Mathlib.Omega.{arith}
use lib.ListN.{length, get_or, length-map}
use Rattle.cellfile.specs.Words.{points_room}
use Rattle.matching.specs.Lists.{any}
use Rattle.matching.specs.Pairs.{Pair, Points}
use Rattle.matching.specs.Pairing.{Pairing, Heaviest}
use Rattle.matching.specs.Listed.{Entry, joined, listed, short_list}
use Rattle.matching.specs.Graph.{Graph}
use Rattle.matching.specs.Steps.{Rule, by_leaf, by_ring, by_chain, Step, leaf, ring, chain, name}
use Rattle.matching.specs.Slip.{replay, left, carried}
use Rattle.matching.proofs.Alls.{all_map}
use Rattle.matching.proofs.Short.{short_entries, short_accepted, short_listed, short_pairing, pairing_short}
use Rattle.matching.proofs.Short.{short_heaviest, heaviest_short}
use Rattle.matching.proofs.Entries.{joined_graph}
use Rattle.matching.proofs.Reduce.{replay_fits, replay_is}
use Rattle.matching.proofs.Demand.{short_fewer}
use Rattle.cellfile.specs.Files.{File, short_list as short_layout, slip as slip_layout, cells_of, in_view}
use Rattle.cellfile.specs.Files.{as_fields, as_pair, steps_of, carried_of, as_name, number_of, name_fields}
use Rattle.cellfile.specs.Fits.{FitsFields, FitsFile}
use Rattle.checks.specs.Refusals.{is_no_rule, rules, bad_slip}
use Rattle.cellfile.proofs.All.{all_values}
use Rattle.cellfile.proofs.RoundTrip.{read_write, length_file}
use Rattle.checks.proofs.Written.{cells_read, entries_written, steps_read, slip_passes}
use Rattle.starting.specs.Steps.{graph_in, steps_on}
use Rattle.reduction.specs.Calls.{short_file, slip_file, replay_short}
use Rattle.checks.proofs.Accepted.{accepted_list}
use Rattle.starting.proofs.OnList.{list_graph, list_few, left_small, left_graph, steps_few, steps_below}
use Rattle.claims.specs.Demand.{AcceptedList, short_of, PairingOf, HeaviestOf, Names, Allowed}

-- ---- what is written is read again

name_again : (s : Step) → as_name (as_pair (name_fields s)) ≡ name s
name_again (leaf u v) = refl
name_again (ring u z inner) = refl
name_again (chain u v z inner) = refl

names_again : (ss : List Step) → map as_name (map as_pair (map name_fields ss)) ≡ map name ss
names_again [] = refl
names_again (s ∷ ss) = ap₂ ◌∷◌ (name_again s) (names_again ss)

number_fits : (r : Rule) → number_of r < 64
number_fits by_leaf = omega arith
number_fits by_ring = omega arith
number_fits by_chain = omega arith

has_rule : (r : Rule) → is_no_rule rules (number_of r) ≡ false
has_rule by_leaf = refl
has_rule by_ring = refl
has_rule by_chain = refl

have_rules : (ss : List Step) → any (λ (t : ℕ × ℕ). is_no_rule rules t.0) (map as_pair (map name_fields ss)) ≡ false
have_rules [] = refl
have_rules (s ∷ ss) = rw (has_rule (name s).0, have_rules ss)

-- The names that a list replays are those of steps that are allowed, each where it stands.
pub named : (list : List ℕ) → AcceptedList list → (slip : List ℕ) (ss : List Step)
    → (steps_on list (steps_of slip) ≡ some ss) ↔ Names list slip ss
named list h slip ss = replay_is (list_graph list h) (map as_name (steps_of slip)) ss

-- by steps that are allowed
module _ (list : List ℕ) (h : AcceptedList list) (rs : List (Rule × ℕ)) (ss : List Step)
    (allowed : replay (cells_of list) (graph_in list) rs ≡ some ss) where
  abbrev n : ℕ
  n = cells_of list

  few : n ≤ 1024
  few = (accepted_list list h).0

  small : (a b : ℕ) → left (graph_in list) ss a b + carried (graph_in list) ss < points_room
  small = left_small list h rs ss allowed

  abbrev short : List Entry
  short = short_list n (left (graph_in list) ss)

  short_few : length short ≤ 4096
  short_few =
      omega (
        arith,
        short_fewer n (in_view list) (accepted_list list h).1 rs ss allowed,
        list_few list h,
      )

  abbrev short_file_of : File
  short_file_of = record { cells = n; extra = carried (graph_in list) ss ∷ []; entries = map as_fields short }

  short_fits : FitsFile short_layout short_file_of
  short_fits = record {
    kind = omega arith;
    cells = omega (arith, few);
    count = omega (arith, length-map short as_fields, short_few);
    whole_extra = refl;
    whole_entry = refl;
    extra = (omega (arith, small 0 0), tt);
    entries = all_values as_fields (FitsFields short_layout.entry) short
        (all_map (λ (e : Entry) q. (
          omega (arith, q.up, q.below, few),
          (omega (arith, q.below, few), (omega (arith, q.its, small e.0 e.1), tt)),
        )) short (short_entries n (left (graph_in list) ss)));
  }

  -- The short list says the pairs left with their points, and the carried points.
  short_read : short_of (short_file list ss) ≡ short_list (cells_of list) (left (graph_in list) ss)
  short_read = entries_written short_layout n (carried (graph_in list) ss ∷ []) short short_fits

  carried_read : carried_of (short_file list ss) ≡ carried (graph_in list) ss
  carried_read = ap (λ (f : File). get_or f.extra 0 0) (read_write short_layout short_file_of short_fits)

  short_cells : cells_of (short_file list ss) ≡ cells_of list
  short_cells = cells_read short_layout short_file_of short_fits

  pub short_longest : length (short_file list ss) ≤ 32780
  short_longest = omega (arith, length_file short_layout short_file_of, length-map short as_fields, short_few)

  abbrev slip_of : File
  slip_of = record { cells = n; extra = []; entries = map name_fields ss }

  slip_fits : FitsFile slip_layout slip_of
  slip_fits = record {
    kind = omega arith;
    cells = omega (arith, few);
    count = omega (arith, length-map ss name_fields, steps_few list h rs ss allowed);
    whole_extra = refl;
    whole_entry = refl;
    extra = tt;
    entries = all_values name_fields (FitsFields slip_layout.entry) ss
        (all_map (λ (s : Step) l. (number_fits (name s).0, (l, tt))) ss (steps_below list h rs ss allowed));
  }

  -- The slip passes refusal 7, and names the steps.
  pub slip_formed : bad_slip rules (cells_of list) (slip_file list ss) ≡ false
  slip_formed = slip_passes slip_of slip_fits rules (have_rules ss)

  pub slip_names : Names list (slip_file list ss) ss
  slip_names =
      (named list h (slip_file list ss) ss).0
      (ap (replay n (graph_in list))
      (ap (map as_name) (steps_read slip_of slip_fits) ∙ names_again ss
      ∙ (replay_fits (list_graph list h) rs ss allowed).2)
      ∙ allowed)

  abbrev pub slip_allowed : Allowed list (slip_file list ss)
  slip_allowed = record { accepted = h; formed = slip_formed; steps = ss; stand = slip_names }

  pub slip_longest : length (slip_file list ss) ≤ 2052
  slip_longest =
      omega (arith, length_file slip_layout slip_of, length-map ss name_fields, steps_few list h rs ss allowed)

-- ---- a slip that is allowed

module _ (list slip : List ℕ) (h : Allowed list slip) where
  abbrev pub rs : List (Rule × ℕ)
  rs = map as_name (steps_of slip)

  abbrev pub after : Points
  after = left (graph_in list) h.steps

  pub taken : steps_on list (steps_of slip) ≡ some h.steps
  taken = (named list h.accepted slip h.steps).1 h.stand

  -- what goes by the steps that the slip names
  pub by_steps_is : {A : Type 0} (x : A) (f : List Step → A)
      → elim (steps_on list (steps_of slip)) [ none ↦ x | some ts ↦ f ts ] ≡ f h.steps
  by_steps_is x f = ap (λ (o : Option (List Step)). elim o [ none ↦ x | some ts ↦ f ts ]) taken

  pub same_file : replay_short list slip ≡ short_file list h.steps
  same_file = by_steps_is [] (short_file list)

  pub short_is : short_of (replay_short list slip) ≡ short_list (cells_of list) (left (graph_in list) h.steps)
  short_is = ap short_of same_file ∙ short_read list h.accepted rs h.steps taken

  pub carried_is : carried_of (replay_short list slip) ≡ carried (graph_in list) h.steps
  carried_is = ap carried_of same_file ∙ carried_read list h.accepted rs h.steps taken

  pub cells_are : cells_of (replay_short list slip) ≡ cells_of list
  cells_are = ap cells_of same_file ∙ short_cells list h.accepted rs h.steps taken

  pub replay_longest : length (replay_short list slip) ≤ 32780
  replay_longest = omega (arith, ap length same_file, short_longest list h.accepted rs h.steps taken)

  -- The short list as a graph is the graph left, and has its pairings and its heaviest ones.
  pub graph_after_is : Graph (cells_of list) (left (graph_in list) h.steps)
  graph_after_is = left_graph list h.accepted rs h.steps taken

  pub short_graph : listed (short_of (replay_short list slip)) ≡ left (graph_in list) h.steps
  short_graph = ap listed short_is ∙ short_listed (cells_of list) after graph_after_is

  pub short_entries_graph : Graph (cells_of list) (joined (short_of (replay_short list slip)))
  short_entries_graph =
      subst (λ (es : List Entry). Graph (cells_of list) (joined es)) (sym short_is)
      (joined_graph (cells_of list) (short_list (cells_of list) after) (short_accepted (cells_of list) after))

  pub pairing_after : (m : List Pair) → PairingOf (short_of (replay_short list slip)) m
      → Pairing (left (graph_in list) h.steps) m
  pairing_after m p =
      short_pairing (cells_of list) after graph_after_is m
      (subst (λ (es : List Entry). PairingOf es m) short_is p)

  pub after_pairing : (m : List Pair) → Pairing (left (graph_in list) h.steps) m
      → PairingOf (short_of (replay_short list slip)) m
  after_pairing m p =
      subst (λ (es : List Entry). PairingOf es m) (sym short_is)
      (pairing_short (cells_of list) after graph_after_is m p)

  pub heaviest_after : (m : List Pair) → HeaviestOf (short_of (replay_short list slip)) m
      → Heaviest (left (graph_in list) h.steps) (left (graph_in list) h.steps) m
  heaviest_after m p =
      short_heaviest (cells_of list) after graph_after_is m
      (subst (λ (es : List Entry). HeaviestOf es m) short_is p)

  pub after_heaviest : (m : List Pair) → Heaviest (left (graph_in list) h.steps) (left (graph_in list) h.steps) m
      → HeaviestOf (short_of (replay_short list slip)) m
  after_heaviest m p =
      subst (λ (es : List Entry). HeaviestOf es m) (sym short_is)
      (heaviest_short (cells_of list) after graph_after_is m p)
