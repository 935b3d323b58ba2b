-- The worked lists come out as the table says: one test that is computed over all rows, and what it says of each.
use mathlib.Core.Path.{◌≡◌, refl}
use mathlib.Core.List.{map}
use Rattle.matching.specs.Lists.{All}
use Rattle.matching.specs.Pairs.{hit, like}
use Rattle.matching.specs.Pairing.{is_pairing}
use Rattle.matching.specs.Listed.{joined, listed}
use Rattle.matching.specs.Graph.{partners, put, dropped}
use Rattle.matching.specs.Best.{H, best, tie}
use Rattle.matching.specs.Steps.{leafed, ringed, chained}
use Rattle.matching.specs.Find.{step_at, first_step_of}
use Rattle.matching.specs.Solve.{cells_where}
use Rattle.matching.specs.Groups.{reached, largest}
use Rattle.matching.specs.Worked.{WorkedRow, outcome, rows}
use Rattle.matching.proofs.Alls.{map_agree}

-- the test
pub table : map (λ (r : WorkedRow). outcome r.0) rows ≡ map (λ (r : WorkedRow). r.1) rows
unfolding rows outcome is_pairing joined listed partners put dropped H best tie leafed ringed chained step_at
    first_step_of
    hit like cells_where reached largest
table = refl

-- what it says of each row
pub each_row : All (λ (r : WorkedRow). outcome r.0 ≡ r.1) rows
each_row = map_agree (λ (r : WorkedRow). outcome r.0) (λ (r : WorkedRow). r.1) rows table
