-- The walk on stacks, and its laws, in reading order.

-- the walk on stacks as a machine of lists
pub mod Machine
-- its steps
pub mod MachineSteps
-- what the core keeps of the records in hand
pub mod CoreKeeps
-- what holds between the moves of a traversal
pub mod Standing
-- the machine as an image of it
pub mod Images
-- what the calls of a traversal have on stacks between two of them, as the machine sees it
pub mod InHand
-- a grid on stacks, and a traversal of it
pub mod Gridded
-- what a traversal on stacks counts and moves
pub mod TraversalTraffic
-- corners touched in their slots
pub mod Corners
-- a traversal of a grid in depots, and its answer
pub mod Traversing
-- the children of a cell along rows
pub mod Children
-- pieces of the machine's walk of a cell
pub mod Visits
-- records that are given up, one after another
pub mod GivenUp
-- the touch of a corner on stacks and by address
pub mod CornerLaw
-- the walk of a cell, and what lies beneath
pub mod Beneath
-- the walk of a cell on stacks and by address
pub mod FaceLaw
