-- The map of the two work buffers, what stands where and how wide it is packed; code: src/map.rt. Inner contracts cite
-- these.
use Rattle.std.specs.Prelude.{ℕ}

-- First buffer: the weights of the slots stand from 0 on, and from here on the words of their cells; after the steps
-- the row words of the pairs left and their lower cells. While a group is solved the table of its sets stands in place
-- of the lower cells; after the way back, behind the pairs, their records of the origin list.
abbrev pub at_cells : ℕ
at_cells = 4096

abbrev pub at_sets : ℕ
at_sets = 4096

abbrev pub at_origins : ℕ
at_origins = 4096

-- Second buffer: the trail stands from 0 on in so many words; then for each cell the sum of its slots and its last
-- slot, the steps as words of a slip, and the table of partners.
abbrev pub trail_room : ℕ
trail_room = 4096

abbrev pub at_sums : ℕ
at_sums = 4096

abbrev pub at_lasts : ℕ
at_lasts = 5120

abbrev pub at_names : ℕ
at_names = 6144

abbrev pub at_table : ℕ
at_table = 7168

-- While groups are solved, behind the trail: for each cell the start of the run of its rows; for crate sets the points
-- between the places of a group, and their cells; for each cell its label and link. Of a word of the last: one of the
-- link.
abbrev pub at_starts : ℕ
at_starts = 4096

abbrev pub at_points : ℕ
at_points = 5120

abbrev pub at_places : ℕ
at_places = 5264

abbrev pub at_labels : ℕ
at_labels = 6144

abbrev pub link_field : ℕ
link_field = 2048

-- A word of the table is a partner below the stamp of where the pair came from: one of the stamp.
abbrev pub partner_field : ℕ
partner_field = 2048

-- A row word is a cell above the 54 bits of the points of a pair: one of the cell.
abbrev pub unit : ℕ
unit = 18014398509481984
