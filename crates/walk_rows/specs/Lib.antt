-- What the worked rows are stated over, in reading order.

-- grids and streams
pub mod Grids
-- small rules of events, and traversals by address
pub mod Trials
-- traversals of the machine of lists
pub mod Examples
-- cells that are walked by a call each
pub mod ByCells
