-- A corner is stored by model and machine alike.

-- the last store of a vertex
pub mod Lasts
-- what it does to the places
pub mod OnStacks
-- after it the places stand well, and counts stay small
pub mod Standing
-- where the place of the vertex goes
pub mod Goals
-- what becomes of the vertex
pub mod Fates
-- the record in hand
pub mod InHand
-- what is left in the working state
pub mod Leaving
-- and the working state is fair
pub mod Fairness
-- all holds after a store
pub mod Stored
-- the record goes where its place goes
pub mod Sending
-- the whole step
pub mod Leaf
