-- What the mapping of a scenario rests on.

-- a body that fits a scenario fits what an event lends
pub mod Wider
-- a trace line, and then what a body does
pub mod Outcomes
