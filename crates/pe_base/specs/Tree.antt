-- The tree of cells.

-- how many axes a grid may have
pub mod Dim
-- places of cells and vertices, children, corners, when two places are one
pub mod Places
-- the two ways of a traversal
pub mod Ways
-- the order of cells along the curve
pub mod Curve
-- the order of places
pub mod Order
