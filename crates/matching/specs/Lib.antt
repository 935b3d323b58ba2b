-- Pairings (matchings) of lists of weighted pairs and the reduction steps, in the words of the product's description.
-- In reading order: pairs and pairings; lists and graphs; the best of some pairs; steps, and the way back by ties;
-- where a step stands, and finding it; slips, where each pair came from, and what is demanded of them; solving; groups;
-- worked lists.
pub mod Lists
pub mod Pairs
pub mod Pairing
pub mod Listed
pub mod Graph
pub mod Best
pub mod Steps
pub mod Ties
pub mod Shapes
pub mod Published
pub mod Find
pub mod Frontier
pub mod Slip
pub mod Origin
pub mod Demand
pub mod Solve
pub mod Groups
pub mod Worked
