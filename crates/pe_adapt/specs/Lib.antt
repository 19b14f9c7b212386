-- One corner on stacks.

-- the load and the store of a corner, on stacks of records
pub mod Touches
-- where a corner is, and what is in hand there
pub mod Spots
-- what a stop means
pub mod Stops
-- a vertex in the slot of its corner
pub mod Slots
-- which corners are old and new
pub mod Ages
-- the stacks of a traversal's streams
pub mod Streams
-- a corner touched and counted, as lists
pub mod CountedTouches
-- the cell that is walked, and what is in hand there
pub mod WalkedCells
-- what a call that touches a corner has in hand and does
pub mod TouchCalls
-- the courses of a walk that tells
pub mod TellingCourses
