-- The walk by address, at every depth and with every kind of vertex.

-- the order of a walk, once for all walks
pub mod Steps
-- moves one after another, and how they end
pub mod Course
-- finite maps from places
pub mod Maps
-- what a touch does to the records in hand
pub mod Core
-- what is kept of a grid between two traversals
pub mod Grids
-- the working state of a traversal
pub mod Working
-- the moves by address
pub mod Touches
-- the walk of a cell, and a traversal
pub mod Walk
-- traversals in turn
pub mod Traversals
-- what is known of a traversal before it begins
pub mod Foreseen
-- the order of a grid between two traversals
pub mod Streams
-- laws that these definitions owe
pub mod Laws
