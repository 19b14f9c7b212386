-- The recursion, and what calls do one after another.

-- courses, one call after another
pub mod Leading
-- what calls of a walk may do, and do, one after another
pub mod Moving
-- a call that is under way
pub mod Underway
-- within a cell
pub mod Visiting
-- while its record is in hand
pub mod Opening
-- a cell with all below it
pub mod Cells
-- the children of a cell, one after another
pub mod Rows
-- each child from the one before it
pub mod Children
-- two walks whose steps match
pub mod Beside
