-- What contracts see of depots, grids and corners, in reading order.

-- # Depots and grids
-- what a depot holds and has counted, and what each call makes of it
pub mod Holdings
-- which stacks the streams of a grid are
pub mod Grid
-- # The corners of a cell
-- for each corner by its number the vertex there, if there is one
pub mod Corners
-- corners of which the last ones are full
pub mod Filled
-- four corners, and what changing them makes of all
pub mod Quads
-- sixteen slots as a list
pub mod Slots
-- how the corners lie in sixteen slots
pub mod CornersView
-- # A depot over vectors
-- a stack over a vector, the top at the vector's end
pub mod VecStack
-- such stacks and counts as a depot
pub mod VecDepot
-- how many records a call leaves out
pub mod RecordsOut
-- records as events see them
pub mod Sights
-- what depots hold between two traversals
pub mod StreamsHeld
