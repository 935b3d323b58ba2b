-- The laws of pairings, of the tests that their definitions compute with, and of the reduction steps.
-- Tests, lists, pairs and sums over them.
pub mod Tests
pub mod Lists
pub mod Members
pub mod Alls
pub mod Where
pub mod Upto
pub mod Pairs
pub mod Sums
pub mod Pairing
-- Lists of entries, short lists, files.
pub mod Listed
pub mod Entries
pub mod Short
pub mod ShortOwn
pub mod Filed
-- The best of some pairs.
pub mod Best
pub mod Ties
pub mod Path
-- Steps that fit are exact.
pub mod Fits
pub mod Put
pub mod Segment
pub mod Leaf
pub mod Down
pub mod Ring
pub mod Chain
pub mod Tally
pub mod Count
pub mod Gone
pub mod Exact
-- Finding steps.
pub mod Partners
pub mod Rows
pub mod Search
pub mod Find
pub mod More
pub mod Settled
pub mod Changed
pub mod Through
pub mod Frontier
-- Slips, reduce, and demand 3.
pub mod Reduce
pub mod Behind
pub mod Origin
pub mod Demand
-- Solving.
pub mod Solve
pub mod Partner
pub mod Foremost
pub mod Solution
-- Groups.
pub mod Reached
pub mod Grouped
pub mod Groups
-- The ties of what is written; the published rules.
pub mod Ways
pub mod Published
-- Worked lists.
pub mod Worked
pub mod WrongTurns
