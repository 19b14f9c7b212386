-- A cell is entered, and left.

-- what is put back
pub mod Records
-- a cell is entered
pub mod Entering
-- a cell is left
pub mod Leaving
