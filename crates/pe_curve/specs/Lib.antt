-- The definitions of steps along the curve.

-- a child on the way along the curve, and the move to the next one
pub mod Steps
