-- What the proofs of one corner's touch cite, and what callers do.

-- places of corners, and their numbers
pub mod CornerPlaces
-- errors that are passed on
pub mod Errors
-- records as they come to hand
pub mod Records
-- the load of a corner of a kind that is known, and its store
pub mod Loading
pub mod Storing
-- kinds by the ages of the parent's corners
pub mod KindLaws
-- what counts is inside the root
pub mod InsideLaws
-- a touch by kind and route, and by the definitions
pub mod Touching
-- the temporary stacks are few
pub mod StackLaws
-- when a touch fits
pub mod Fitting
-- one corner of the cell that is walked
pub mod CountedTouches
-- one corner loaded or stored alone
mod Alone
