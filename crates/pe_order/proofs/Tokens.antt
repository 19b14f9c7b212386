-- The walk over places on stacks.

-- the stacks of the streams
pub mod Bounds
-- stacks that are pushed and popped
pub mod Stacks
-- the loads and stores of a cell's corners
pub mod Loads
-- what is written is read in the other way
pub mod Turning
-- what the walk of a cell does on one stack
pub mod OneStack
-- the walk of a cell
pub mod Walks
-- each load is due
pub mod LoadOrder
-- traversals
pub mod Traversals
-- what each move keeps
pub mod Keeping
-- first and last by counting
pub mod Counting
-- where a place is
pub mod Apart
-- streams
pub mod Streams
-- the counts of a depot after each move
pub mod DepotCounts
-- what the walk of a cell moves
pub mod Traffic
-- what a traversal moves
pub mod TraversalTraffic
-- how long a stack is at most
pub mod Short
-- the traffic of a stack is the crossings there
pub mod Crossings
-- counts over lists
pub mod CountLists
-- the cells of a walk differ
pub mod CellsApart
-- what each move changes
pub mod MoveFrames
-- the cells that are still to be entered
pub mod CellsAhead
-- what the walk of a cell leaves
pub mod WalkFrames
-- a traversal walks no more cells than its vertices allow
pub mod FewCells
-- each walked cell is among the cells of the walk
pub mod WalkedHere
-- what is in the streams that a traversal reads
pub mod OnStreams
-- what is counted of the walk of a cell
pub mod TallyLaws
-- loads and stores in the words of a tally
pub mod TouchCounts
-- how deep the walk of a cell goes
pub mod Depths
-- what a traversal moves, in what it counts
pub mod ExactTraffic
-- how much the counts of a traversal rise at most
pub mod Rises
-- what the walk of a cell moves, in what it counts
pub mod CellTraffic
