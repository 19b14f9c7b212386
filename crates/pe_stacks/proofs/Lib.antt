-- Laws of depots and corners, in reading order.

-- # Depots
-- how far the counts of a depot rise
pub mod Raising
-- what one stack is after a call on that stack, and on another one
pub mod StackAt
-- lists of vector stacks, of which one is replaced
pub mod Stacks
-- # The corners of a cell
-- lists of slots of which only the first ones are seen
pub mod CornerSlots
-- four of them at once
pub mod QuadSlots
-- a cell with a vertex in every slot
pub mod FullCorners
-- corners of which the last ones are full, after one more is put or taken
pub mod Filling
