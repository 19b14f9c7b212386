-- What the proofs of the mappings cite.

-- numbers that are counted
pub mod Counted
-- the corners of a cell when each of them is counted
pub mod CountedCorners
-- events at cells whose corners are counted
pub mod Entering
-- events that leave what they see as it is
pub mod Quiet
-- lengths that fit
pub mod Lengths
