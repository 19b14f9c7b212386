-- The definitions of cell states, in reading order.

-- cells along one axis: their parities and their faces, from parent to child
pub mod Extents
-- the numbers of faces
pub mod Numbers
-- which of two cells at a face comes first, and on which level the face appears
pub mod Neighbours
-- what a state holds of each face, by the order of the walk
pub mod Faces
-- what a state is of a cell
pub mod States
-- the numbers of the corners of a cell, for its row and along the last axis
pub mod Rows
