-- The order of the walk, as places on stacks, and its laws, in reading order.

-- which lists a cell finds and leaves at its faces, and which cells are walked
pub mod Laws
-- the walk over places on stacks
pub mod Tokens
-- what the walk of a cell takes off each stack, and what it gives
pub mod Takings
-- the laws of that walk
pub mod TokenLaws
-- a place is on one stack, or held, or nowhere
pub mod Apart
-- the cells that are still to be entered
pub mod CellsAhead
-- what the walk over places asks of a grid
pub mod Outlooks
-- streams in the order of grids
pub mod StreamLaws
-- what is moved, and how much is out
pub mod Traffic
-- what each move changes, and what it leaves
pub mod Frames
-- how many cells are walked
pub mod FewCells
-- what a traversal counts
pub mod Tallies
-- what the walk of a cell moves and counts
pub mod CellTraffic
