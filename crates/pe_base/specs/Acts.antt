-- What happens at the moments of a walk.

-- the twelve events, their spellings, what each is told
pub mod Events
-- what a record holds when it is made
pub mod Payloads
-- what an event sees and what it leaves, and the functions that say it
pub mod Effects
-- outcomes that are made in turn
pub mod Outcomes
-- when an event may be fired
pub mod Moments
-- the limits of settings
pub mod Settings
