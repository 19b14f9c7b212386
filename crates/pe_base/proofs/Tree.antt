-- Places, children, corners, and the order along the curve.

-- positions and bits
pub mod PlaceLaws
-- the order along the curve
pub mod CurveLaws
-- the walk back is the walk mirrored
pub mod Mirrors
-- the children of a cell, one formula for both ways
pub mod Children
-- the corners of a cell at a face, and of its neighbour there
pub mod Corners
-- the place of a cell in the order of its level, as a number
pub mod Ranks
