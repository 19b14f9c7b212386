-- The lists of a face, and their composition.

-- the lists of a face by those of the cell's corners and of its children
pub mod FaceLists
-- faces where nothing arrives, and faces where nothing is left
pub mod Quiet
-- two blocks of children that meet at a plane
pub mod Meetings
-- the turns of the children on one stack, by blocks
pub mod Blocks
-- where the vertices of a face's lists wait
pub mod Waits
-- what the walk of a cell does on one stack
pub mod Composition
-- the lists of a face are those of the other way
pub mod TurnedLists
-- a corner of a cell comes across one face, and by its stack
pub mod Bridge
