-- The definitions of the project, in reading order.

-- the limits that grids, scenarios and streams are held to
pub mod Limits
-- cells and vertices by level and position, and the order of cells along the curve
pub mod Tree
-- how a vertex goes from cell to cell around it, across faces
pub mod Steps
-- states and kinds of vertices
pub mod Life
-- what happens at the moments of a walk
pub mod Acts
-- what calls answer and add, beside what they are to do
pub mod Calls
-- all that is printed: trace lines, the tally, the last line, refusals
pub mod Lines
-- the walk by address
pub mod Walk
-- how a list and a box lie in a type that holds itself through them
pub mod formers
