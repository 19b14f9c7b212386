-- The walk on stacks is the walk by address, and its code is that walk; in reading order.

-- calls that go along with the machine
pub mod Going
-- the kinds of its corners stay
pub mod KindsKept
-- its corners in their slots
pub mod CornerLists
-- and one after another
pub mod CornerSteps
-- the walk on stacks is the image of the walk by address
pub mod Simulation
-- # The walk in code
-- a cell is counted, entered and left
pub mod Visiting
-- a traversal of a grid in depots
pub mod Traversing
-- depots that hold nothing hold a new grid, and after a traversal the next one
pub mod Beginnings
-- the children of a cell along rows
pub mod Children
-- what the ages of corners tell
pub mod AgeLaws
-- the steps of the machine, walked, are its walk
pub mod Bridge
-- records that are given up, one after another
pub mod GivingUp
-- calls of a walk, one after another
pub mod Walking
-- what is done below a cell
pub mod Below
-- the touches of corners look at no cell
pub mod AnyCells
-- the walk of a cell, part by part
pub mod CellWalks
-- the walks of the children of a cell, one after another
pub mod ChildWalks
-- the walk of a cell, as a call does it
pub mod WalkedCells
-- the root's corners are made
pub mod RootCorners
-- the walk of the root's children, and a whole traversal, part by part
pub mod RootWalks
