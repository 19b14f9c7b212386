-- A corner is loaded by model and machine alike.

-- what a load does to places
pub mod OnStacks
-- what it puts under a place, or under a cell
pub mod Records
-- how the record comes to hand
pub mod Comes
-- one core, put back in two ways
pub mod Cores
-- what is loaded is as foreseen
pub mod Foreseen
-- what is found afterwards
pub mod Afters
-- what holds afterwards
pub mod Stages
-- the step
pub mod Leaf
