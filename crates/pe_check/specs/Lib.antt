-- The check of names, in reading order.

-- the table of names
pub mod Table
-- the names of fields
pub mod FieldNames
-- what names stand for, and why they are refused
pub mod Resolving
-- when a body whose names are resolved fits an event
pub mod Fits
-- where a body that fits an event fits too
pub mod Wider
-- where the code resolves names
pub mod Scopes
-- what the check answers
pub mod Answers
-- the tree with its names replaced, or the first that is refused
pub mod Checking
