-- What the mappings of the bench do, and that they meet the law of effects.

-- numbers that are counted
pub mod Counting
-- corners that are counted, in their slots
pub mod Slots
-- a whole grid
pub mod Regular
-- a moving circle or sphere
pub mod Ring
-- sums of positions
pub mod Mill
-- that vertices are only triggered
pub mod Law
