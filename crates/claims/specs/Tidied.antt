-- What tidy says of the raw list that it reads and of the store list that it writes. In order: what its answers tell;
-- every list of runs has a raw list that is taken; what is written; a store list comes back as itself; a raw list is no
-- list for the other calls. Laws: proofs/Tidied (`tidy_tells`, `runs_taken`, `tidy_claim`, `again_claim`, `elsewhere`).
use Rattle.std.specs.Prelude.{◌≡◌, ◌≢◌, ◌↔◌, true, false, List, [], ◌∷◌, map, ℕ, ◌≤◌, ◌<◌, length}
use Rattle.matching.specs.Lists.{All}
use Rattle.matching.specs.Listed.{Entry}
use Rattle.cellfile.specs.Files.{raw_list, largest, cells_of, entries_all, raw_file}
use Rattle.checks.specs.Refusals.{too_few_words, is_bad_raw}
use Rattle.tidying.specs.Calls.{low_first, tidy_file, tidying}
use Rattle.tidying.specs.Said.{last_of, joining, as_raw}
use Rattle.weighing.specs.Weigh.{weighing}
use Rattle.reduction.specs.Calls.{replaying, reducing}
use Rattle.lifting.specs.Calls.{solving, lifting, pairing}
use Rattle.view.specs.Serving.{serving}
use Rattle.claims.specs.Demand.{AcceptedList, store_of, Writes}
use Rattle.claims.specs.Claims.{Wrote}

-- A raw list that refusal 13 takes.
abbrev pub TakenRaw : List ℕ → Type 0
TakenRaw raw = is_bad_raw raw ≡ false

-- The answer 0: nothing was refused, and the store list was written. 13 just where its condition holds and 1 does not;
-- 12 just where neither does and the output is shorter than what is written, however long the raw list is.
pub record TidyTells (raw lent : List ℕ) (room : ℕ) : Type 0 where
  pub zero : (i : ℕ) → tidying raw lent room ≡ (0, i ∷ []) → TakenRaw raw × Wrote (tidy_file raw) lent room i
  pub thirteen : (tidying raw lent room ≡ (13, [])) ↔ ((too_few_words lent ≡ false) × (is_bad_raw raw ≡ true))
  pub twelve : (tidying raw lent room ≡ (12, []))
      ↔ ((too_few_words lent ≡ false) × TakenRaw raw × (room < length (tidy_file raw)))

-- Runs of n cells, in the request's words: entries in the order run, each with two different cells below n, 'either
-- cell first, some run again', and points of 20 bits; n is 0 to 1,024, 'm up to 4,096'. Their file is taken and read
-- as them.
pub record AreRuns (n : ℕ) (es : List Entry) : Type 0 where
  pub cells : n ≤ 1024
  pub count : length es ≤ 4096
  pub two : All (λ (e : Entry). (e.0 ≢ e.1) × (e.0 < n) × (e.1 < n)) es
  pub small : All (λ (e : Entry). e.2 ≤ largest raw_list) es

pub record RunsClaim (n : ℕ) (es : List Entry) : Type 0 where
  pub taken : TakenRaw (raw_file n es)
  pub cells : cells_of (raw_file n es) ≡ n
  pub entries : entries_all (raw_file n es) ≡ es

-- What tidy writes of a raw list that is taken, given buffers and room: a store list of the same cells that passes
-- refusals 2 to 6, and is not longer than the raw list. A pair is in it 'just where some entry joins its cells, with
-- the points of the last such entry': its entries that join two cells are the last of those of the raw list that do,
-- lower cell first.
pub record TidyClaim (raw : List ℕ) : Type 0 where
  pub writes : Writes (tidying raw) (tidy_file raw)
  pub accepted : AcceptedList (tidy_file raw)
  pub cells : cells_of (tidy_file raw) ≡ cells_of raw
  pub last : (a b : ℕ) → joining a b (store_of (tidy_file raw)) ≡ map low_first
      (last_of (joining a b (entries_all raw)))
  pub longest : length (tidy_file raw) ≤ length raw

-- 'A store list whose kind is changed to 6 comes back as itself', byte for byte.
pub record AgainClaim (list : List ℕ) : Type 0 where
  pub taken : TakenRaw (as_raw list)
  pub writes : Writes (tidying (as_raw list)) list
  pub same : tidy_file (as_raw list) ≡ list

-- A list of kind 6 is refused with 2 by every other call that is lent enough words; the view serves none of its
-- entries.
pub record Elsewhere (raw lent : List ℕ) : Type 0 where
  pub weigh : (pairs : List ℕ) → weighing raw pairs lent ≡ (2, [])
  pub replay : (slip : List ℕ) (room : ℕ) → replaying raw slip lent room ≡ (2, [])
  pub reduce : (room further : ℕ) → reducing raw lent room further ≡ (2, [])
  pub solve : (slip : List ℕ) (room : ℕ) → solving raw slip lent room ≡ (2, [])
  pub lift : (slip pairs : List ℕ) (room further : ℕ) → lifting raw slip pairs lent room further ≡ (2, [])
  pub pair : (room further : ℕ) → pairing raw lent room further ≡ (2, [])
  pub entry : (place : ℕ) → serving raw place ≡ (0, [])
