-- The end of a call. In order: the short list of the graph whose pairs stand as rows and cells, and its length
-- (`left_rows`, `left_fits`, `left_length`); the slip of the steps that stand as words, likewise (`names_many`,
-- `taken_length`, `slip_file_is`); both files, of which neither is written where one has no room (`both_first`,
-- `both_second`, `both_written`). Assumes nothing.
use mathlib.Core.Path.{◌≡◌, refl, ap, ◌∙◌}
use mathlib.Core.List.{List, [], ◌∷◌, map}
use Prim.Native.Nat.{ℕ, ◌+◌, ◌-◌, ◌≤◌, ◌<◌}
use native.Mathlib.Omega.{arith}
use lib.ListN.{length, get_or, take, drop, length-map, length-drop}
use lib.Seq.{length-take-le}
use Rattle.buffers.specs.Map.{at_names}
use Rattle.matching.specs.Lists.{All}
use Rattle.matching.specs.Listed.{Entry, short_list}
use Rattle.matching.specs.Steps.{Rule, by_leaf, by_ring, by_chain, Step, name}
use Rattle.matching.proofs.Alls.{all_map}
use Rattle.matching.proofs.Short.{EntryOf, short_entries}
use Rattle.matching.proofs.More.{short_more}
use Rattle.cellfile.specs.Files.{slip as slip_layout, short_list as short_layout, write_file, file_length}
use Rattle.cellfile.specs.Files.{onto, as_fields}
use Rattle.cellfile.specs.Files.{number_of}
use Rattle.cellfile.specs.Files.{name_fields}
use Rattle.cellfile.specs.Words.{file_of, words_file, name_word, no_entry, RowsOf, RowsFit}
use Rattle.cellfile.proofs.Outputs.{plain_slip, words_length, records_file}
use Rattle.cellfile.proofs.RoundTrip.{length_file}
use Rattle.slots.specs.Slots.{graph_of}
use Rattle.running.specs.Pairs.{PairsLeft}
use Rattle.running.proofs.Inserting.{all_place}
use Rattle.reduction.specs.Writing.{left_file, taken_file}
use Rattle.checks.specs.Answering.{Does}
use Rattle.checks.proofs.Answering.{no_room, all_room}

-- ---- the short list

module _ {n e r : ℕ} {w1 v1 : List ℕ} (h : PairsLeft n e w1) (q : RowsOf (short_list 1024 (graph_of e w1)) r v1) where
  abbrev es : List Entry
  es = short_list n (graph_of e w1)

  pub left_rows : RowsOf (short_list n (graph_of e w1)) r v1
  left_rows = rw (short_more h.graph 1024 h.cells) at q

  pub left_fits : 8192 ≤ length v1 → r ≤ 4096 → RowsFit r v1
  left_fits room most = record {
    room = room;
    most = most;
    fits = λ i l.
        let q = left_rows in
        let x = get_or es i no_entry in
        let p = all_place (EntryOf n _) es i no_entry (omega (arith, q.count)) (short_entries n (graph_of e w1)) in (
          omega (arith, q.cell i l, p.up, p.below, h.cells),
          omega (arith, q.row i l, q.points i l, p.its, h.small x.0 x.1),
        );
  }

  module _ (points : ℕ) where
    abbrev file : List ℕ
    file = left_file n points (graph_of e w1)

    pub left_length : {size : ℕ} → size ≡ file_length short_layout n r → size ≡ length file
    left_length {size} e =
        omega (
          arith,
          e,
          left_rows.count,
          length-map es as_fields,
          length_file short_layout (record { cells = n; extra = points ∷ []; entries = map as_fields es }),
        )

-- ---- the slip

module _ (n steps : ℕ) (w2 : List ℕ) (few : steps ≤ 1024) (words : 8192 ≤ length w2) where
  named_length : steps ≤ length (drop at_names w2)
  named_length = omega (arith, length-drop at_names w2)

  pub names_many : length (take steps (drop at_names w2)) ≡ steps
  names_many = length-take-le steps (drop at_names w2) named_length

  pub taken_length : {size : ℕ} → size ≡ file_length slip_layout n steps → size ≡ length (taken_file n steps w2)
  taken_length e = e ∙ words_length plain_slip n steps (drop at_names w2) named_length

number_fits : (r : Rule) → number_of r < 64
number_fits by_leaf = omega arith
number_fits by_ring = omega arith
number_fits by_chain = omega arith

pub slip_file_is : (n steps : ℕ) (w2 : List ℕ) (ss : List Step) → take steps (drop at_names w2) ≡ map name_word ss
    → All (λ (s : Step). (name s).1 < 1024) ss
    → taken_file n steps w2 ≡ write_file slip_layout (record { cells = n; extra = []; entries = map name_fields ss })
slip_file_is n steps w2 ss e h =
    records_file slip_layout n steps (drop at_names w2) name_fields ss e
    (all_map (λ (s : Step) l. (number_fits (name s).0, (l, tt))) ss h)

-- ---- both files

module _ {n e r steps : ℕ} {w1 v1 : List ℕ} (w2 : List ℕ) (points : ℕ) (h : PairsLeft n e w1) (few : steps ≤ 1024)
    (words : 8192 ≤ length w2) (q : RowsOf (short_list 1024 (graph_of e w1)) r v1) (slip short : List ℕ)
    {size other : ℕ} (c : size ≡ file_length slip_layout n steps) (d : other ≡ file_length short_layout n r) where
  abbrev taken : List ℕ
  taken = taken_file n steps w2

  abbrev left : List ℕ
  left = left_file n points (graph_of e w1)

  pub both_first : length slip < size → Does [] ((taken, slip, slip) ∷ (left, short, short) ∷ []) (12, [])
  both_first l =
      no_room [] (taken, slip, slip) ((left, short, short) ∷ []) (omega (arith, taken_length n steps w2 few words c, l))
      (refl, (refl, tt))

  pub both_second : length short < other → Does [] ((taken, slip, slip) ∷ (left, short, short) ∷ []) (12, [])
  both_second l =
      no_room ((taken, slip, slip) ∷ []) (left, short, short) [] (omega (arith, left_length h q points d, l))
      (refl, (refl, tt))

  pub both_written : {slip' short' : List ℕ} → size ≤ length slip → other ≤ length short
      → slip' ≡ onto (write_file slip_layout
      (file_of slip_layout n [] (take (at_names + steps - at_names) (drop at_names w2)))) slip
      → short' ≡ onto left short
      → Does [] ((taken, slip, slip') ∷ (left, short, short') ∷ []) (0, size ∷ other ∷ [])
  both_written {slip'} {short'} l k a b =
      rw (taken_length n steps w2 few words c, left_length h q points d)
      (all_room ((taken, slip, slip') ∷ (left, short, short') ∷ [])
      (omega (arith, taken_length n steps w2 few words c, l), (omega (arith, left_length h q points d, k), tt))
      (a ∙ ap (λ (k : ℕ). onto (words_file slip_layout n k (drop at_names w2)) slip) as_many, (b, tt)))
    where
      as_many : at_names + steps - at_names ≡ steps
      as_many = omega arith
