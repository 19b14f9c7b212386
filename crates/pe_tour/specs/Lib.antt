-- Walks of cells, by calls of their own.

-- what a walk stands in, and what is done of a course
pub mod Going
-- what is known of a cell, and of the children of a cell
pub mod Cells
-- what is in hand, between cells and within one
pub mod Sights
-- a walk as its calls see it
pub mod Walker
-- what calls ask, and what they do
pub mod Moves
-- two walks beside each other
pub mod Beside
