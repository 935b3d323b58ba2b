-- What the text is made from. Inner contracts cite this.
use Rattle.std.specs.Prelude.{◌≡◌, false, List, ℕ, ◌<◌, length}
use Rattle.matching.specs.Pairs.{Each}
use Rattle.matching.specs.Listed.{joined}
use Rattle.cellfile.specs.Files.{cells_of, entries_all, pairs_of}
use Rattle.checks.specs.Refusals.{first, lists, list_rows, bad_pairing}
use Rattle.starting.specs.Steps.{reduce_steps}
use Rattle.reduction.specs.Calls.{slip_file, short_file}

-- A list and a pairing that are not refused, and every pair is an entry of the list.
pub record LinesThere (list pairing : List ℕ) : Type 0 where
  pub accepted : first (list_rows lists list) ≡ 0
  pub formed : bad_pairing (cells_of list) pairing ≡ false
  pub held : Each (λ a b. 0 < joined (entries_all list) a b) (pairs_of pairing)

-- A list that refusals 2 to 6 pass, and what reduce wrote of it.
pub record ReducedThere (list : List ℕ) (slip_length : ℕ) (short : List ℕ) : Type 0 where
  pub accepted : first (list_rows lists list) ≡ 0
  pub slip_is : slip_length ≡ length (slip_file list (reduce_steps list))
  pub short_is : short ≡ short_file list (reduce_steps list)
