-- The way of a vertex from cell to cell.

-- the order of the cells around a vertex, slower axes, crossings
pub mod Around
-- the steps around a vertex, the axis that each crosses, and the stack on which the vertex waits meanwhile
pub mod Routes
-- faces of cells, loads and stores, what arrives in a cell at a face and what it leaves there
pub mod Faces
-- the corners of a cell by the stacks on which they come and go
pub mod Stacks
