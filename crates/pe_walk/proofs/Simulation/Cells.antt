-- The walk of a cell, and a traversal, from their steps.

-- all corners of a cell
pub mod Corners
-- going down to children, and coming back
pub mod Inside
-- the walks of children
pub mod Children
-- the walk of a cell
pub mod Walks
-- from the first event of a traversal to the last
pub mod Roots
-- both, by the proofs of the steps
pub mod Simulated
