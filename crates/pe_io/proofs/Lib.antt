-- Laws of shelves and sinks, in reading order.

-- # Calls
-- counts that stay at their last value
pub mod Rising
-- sets of numbers, read by the list of their keys
pub mod NumberSets
-- # Text
-- a line that is given to a sink as one piece
pub mod Endings
-- what several writes have taken of one list of bytes
pub mod PartialWrites
