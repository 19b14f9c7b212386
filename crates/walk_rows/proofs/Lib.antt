-- Lemmas of the rows, in reading order.

-- one round of the loops of the plain program
pub mod Computed
-- cells that are walked by a call each
pub mod InTurn
-- depots that are new
pub mod NewDepots
-- the children of a cell by their digits
pub mod ChildDigits
