-- A traversal of a grid as it ends.

-- the working state is the grid that comes next
pub mod Next
-- the machine has that grid on its outputs
pub mod Turned
