-- What the run of the program rests on.

-- # Traversals
-- what one traversal more adds to what the depots have counted
pub mod Counting
-- before the first traversal
pub mod Beginning
-- one traversal more of a grid that stands between two traversals
pub mod Traversing
-- and its tally line
pub mod Tallied
-- traversals in turn
pub mod InTurn
-- # The run
-- what a job reads, stage after stage
pub mod Reading
-- the clauses of the top call, for every job
pub mod RunLaws
