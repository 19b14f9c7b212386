-- What a vertex is to a traversal, and what becomes of it.

-- which states are old and which are new, and what the two triggers change
pub mod States
-- the four kinds
pub mod Kinds
-- the state table
pub mod Table
-- the vertices on whose account a vertex is stored, and its kind by them
pub mod Carriers
-- the numbers of states and kinds
pub mod Numbers
