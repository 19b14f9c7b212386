-- Laws of cell states, in reading order.

-- # States from parent to child
-- the extents of a cell from those of its parent
pub mod ChildExtents
-- extents from a cell to its child, and the flips of a cell
pub mod ExtentLaws
-- # Routes
-- the fastest face at a corner, by relations and levels, and by numbers
pub mod Choices
pub mod NumberLaws
-- the fastest face is that across which the cell is entered, or left
pub mod FaceLaws
-- the routes of a state are those around the vertex
pub mod RouteProofs
-- # What a state stands for
-- of two cells that share a face, which one comes first
pub mod OrderLaws
-- what a state holds of each axis is what the order of the walk says of the cell
pub mod HeldLaws
-- states that hold what the order of the walk says, by the extents from parent to child
pub mod StateLaws
-- # Rows of children
-- the numbers of a row, and of a child in it
pub mod RowLaws
-- from child to child of a row
pub mod StepLaws
