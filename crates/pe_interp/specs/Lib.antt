-- What the events of a scenario do, in reading order.

-- the trace line, then the body
pub mod Effect
-- the law of effects holds of it
pub mod Law
-- what the mapping holds
pub mod Held
