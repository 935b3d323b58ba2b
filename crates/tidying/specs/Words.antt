-- The entries of a raw list as words. Inner contracts cite this; laws: proofs/Words.
use Rattle.std.specs.Prelude.{◌≡◌, false, List, ℕ, ◌≤◌, length}
use Rattle.matching.specs.Listed.{Entry}
use Rattle.cellfile.specs.Words.{store_word}
use Rattle.checks.specs.Refusals.{is_bad_raw}
use Rattle.tidying.specs.Calls.{low_first}

-- An entry, its lower cell first, as the word of a store list.
abbrev pub raw_word : Entry → ℕ
raw_word e = store_word (low_first e)

-- The raw list has passed 13, the buffers 1.
pub record RawThere (raw w1 w2 : List ℕ) : Type 0 where
  pub accepted : is_bad_raw raw ≡ false
  pub room1 : 8192 ≤ length w1
  pub room2 : 8192 ≤ length w2
