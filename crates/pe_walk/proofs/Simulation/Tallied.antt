-- The tally of the walk by address is the one that is foreseen.

-- each step
pub mod Parts
-- the walk of a cell
pub mod Walks
-- depots that have counted alike
pub mod Alike
-- a traversal
pub mod Traversals
-- what the walk of a cell counts and moves
pub mod Cells
