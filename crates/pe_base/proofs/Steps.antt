-- The order of the cells around a vertex.

-- lists in which each member is entered and left across an axis
pub mod Walks
-- the children of a cell around a point
pub mod AroundInCell
-- the cells of a level around a point
pub mod Levels
-- the cells around a vertex as positions on the grid's axes
pub mod AroundAsGrid
-- each step crosses one face
pub mod RouteLaws
-- the stacks of a vertex by how its cells are entered and left
pub mod StackLaws
-- how often each axis is crossed
pub mod CrossingLaws
-- the slower planes are those of the slower axes
pub mod SlowerLaws
-- the loads and stores of one vertex, and its steps
pub mod VertexTouches
-- the corners of a cell are places of the grid
pub mod CornerPlaces
-- the cells around a vertex, turned round
pub mod Turned
