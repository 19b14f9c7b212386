-- The definitions of saved streams, in reading order.

-- the limits of what a stream's header says
pub mod Limits
-- the bytes of a saved grid
pub mod Layout
-- what a saved grid is, so that it has bytes of its own
pub mod Saved
-- in which range each field of a header must be
pub mod Ranges
-- what is wrong with bytes, in the order in which it is looked for
pub mod Faults
-- what a header is that was read
pub mod Header
-- what the parts of a stream are that were read
pub mod Parts
