-- The meaning of a body at an event, in reading order.

-- arithmetic: exact, or a fault
pub mod Arithmetic
-- what names stand for
pub mod Names
-- the values of expressions
pub mod Values
-- faults, as an outcome and as a run have them
pub mod Stops
-- what statements do
pub mod Meaning
-- what a body may do to what its event sees
pub mod Law
-- what a view shows
pub mod Sights
-- where a body is when the sink fails
pub mod Interrupted
