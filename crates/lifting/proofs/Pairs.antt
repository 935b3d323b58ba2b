-- The files that words make. In order: the length of one (`words_long`); two refused or written by the outputs' room
-- (`both_first`, `both_second`, `both_written`); the file of the pairs that the words stand for: a pairing
-- (`pairs_file`), an origin list (`origins_file`), in which the steps' numbers have room (`origins_eleven`). Assumes
-- nothing.
use mathlib.Core.Path.{◌≡◌, refl, ap, ◌∙◌}
use mathlib.Core.List.{List, [], ◌∷◌, map}
use Prim.Native.Nat.{ℕ, ◌≤◌, ◌<◌}
use native.Mathlib.Omega.{arith}
use lib.ListN.{length, take}
use lib.Seq.{take-length}
use Rattle.matching.specs.Pairs.{Pair, Points, Each}
use Rattle.matching.specs.Steps.{Step, by_leaf, by_ring, by_chain}
use Rattle.matching.specs.Origin.{Origin, from_short, from_step, Origins, all_short, origins, number_in}
use Rattle.matching.proofs.Alls.{all_map, each_is_all}
use Rattle.matching.proofs.Origin.{origins_few}
use Rattle.cellfile.specs.Files.{Layout, pairing as pairing_layout, origin_list, file_length, write_file}
use Rattle.cellfile.specs.Files.{onto, pair_fields}
use Rattle.cellfile.specs.Files.{origin_fields, rule_in}
use Rattle.cellfile.specs.Fits.{FitsFields}
use Rattle.cellfile.specs.Words.{Plain, file_of, words_file, pair_word, word_of_origin}
use Rattle.cellfile.proofs.Outputs.{plain_pairing, plain_origins, words_length, records_file}
use Rattle.checks.specs.Answering.{Output, Does}
use Rattle.checks.proofs.Answering.{no_room, all_room}

-- ---- one file

-- the length of a file that words make
pub words_long : {l : Layout} {kind k : ℕ} → Plain l kind k → (n : ℕ) (ws : List ℕ) {size : ℕ} → size ≡ file_length l n (length ws)
    → size ≡ length (write_file l (file_of l n [] ws))
words_long {l} p n ws e =
    e ∙ words_length p n (length ws) ws (omega arith)
    ∙ ap (λ (vs : List ℕ). length (write_file l (file_of l n [] vs))) (take-length ws)

-- ---- two files

module _ (n : ℕ) (pairs records out from : List ℕ) where
  abbrev first : List ℕ
  first = write_file pairing_layout (file_of pairing_layout n [] pairs)

  abbrev second : List ℕ
  second = write_file origin_list (file_of origin_list n [] records)

  abbrev both : List ℕ → List ℕ → List Output
  both out' from' = (first, out, out') ∷ (second, from, from') ∷ []

  module _ {size other : ℕ} (c : size ≡ file_length pairing_layout n (length pairs))
      (d : other ≡ file_length origin_list n (length records)) where
    long_first : size ≡ length first
    long_first = words_long plain_pairing n pairs c

    long_second : other ≡ length second
    long_second = words_long plain_origins n records d

    pub both_first : length out < size → Does [] (both out from) (12, [])
    both_first m =
        no_room [] (first, out, out) ((second, from, from) ∷ []) (omega (arith, long_first, m)) (refl, (refl, tt))

    pub both_second : length from < other → Does [] (both out from) (12, [])
    both_second m =
        no_room ((first, out, out) ∷ []) (second, from, from) [] (omega (arith, long_second, m)) (refl, (refl, tt))

    pub both_written : {out' from' : List ℕ} → size ≤ length out → other ≤ length from → out' ≡ onto first out
        → from' ≡ onto second from → Does [] (both out' from') (0, size ∷ other ∷ [])
    both_written {out'} {from'} l k e f =
        rw (long_first, long_second)
        (all_room (both out' from') (omega (arith, long_first, l), (omega (arith, long_second, k), tt)) (e, (f, tt)))

-- ---- the pairs that the words stand for

-- Both cells have 10 bits.
abbrev Ten : ℕ → ℕ → Type 0
Ten a b = (a < 1024) × (b < 1024)

pub pairs_file : (n r : ℕ) (w1 : List ℕ) (m : List Pair) → take r w1 ≡ map pair_word m → Each Ten m
    → words_file pairing_layout n r w1 ≡ write_file pairing_layout (record {
      cells = n;
      extra = [];
      entries = map pair_fields m;
    })
pairs_file n r w1 m e h =
    records_file pairing_layout n r w1 pair_fields m e
    (all_map (λ (p : Pair) q. (q.0, (q.1, (omega arith, tt)))) m (each_is_all Ten m h))

rule_few : (o : Origin) → rule_in o < 8
rule_few from_short = omega arith
rule_few (from_step number by_leaf) = omega arith
rule_few (from_step number by_ring) = omega arith
rule_few (from_step number by_chain) = omega arith

-- The numbers of the steps have 11 bits.
abbrev pub Eleven : Origins → Type 0
Eleven o = (a b : ℕ) → number_in (o a b) < 2048

pub origins_eleven : (w : Points) (ss : List Step) (m : List Pair) → length ss < 2048 → Eleven (origins w ss m)
origins_eleven w ss m l = origins_few 2048 all_short (λ a b. omega arith) w 1 ss m (omega arith)

pub origin_fits : (o : Origins) → Eleven o → (a b : ℕ) → (a < 1024) × (b < 1024)
    → FitsFields origin_list.entry (origin_fields o (a, b))
origin_fits o few a b q = (q.0, (q.1, (few a b, (rule_few (o a b), (omega arith, tt)))))

pub origins_file : (n r : ℕ) (ws : List ℕ) (o : Origins) (m : List Pair) → Eleven o
    → take r ws ≡ map (word_of_origin o) m → Each Ten m
    → words_file origin_list n r ws ≡ write_file origin_list (record {
      cells = n;
      extra = [];
      entries = map (origin_fields o) m;
    })
origins_file n r ws o m few e h =
    records_file origin_list n r ws (origin_fields o) m e
    (all_map (λ (p : Pair) q. origin_fits o few p.0 p.1 q) m (each_is_all Ten m h))
