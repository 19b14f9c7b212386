-- The walk on stacks is the image of the walk by address and of the places on stacks, after every step.

-- steps that match, one after another
pub mod Matching
-- what the core keeps of the records in hand
pub mod CoreLaws
-- what putting records back changes
pub mod Putting
-- the kind of a corner as it is found
pub mod FoundKinds
-- at a load it is the one foreseen
pub mod LoadedKinds
-- what is put back at one level changes nothing at others
pub mod Levels
-- whether the children of a cell are walked, and of which kind
pub mod Below
-- what has a carrier inside is inside
pub mod Carried
-- what is foreseen of a grid is a foresight
pub mod ForeseenStarts
-- a cell is entered, and left
pub mod Visits
-- the core logs nothing
pub mod Silent
-- the steps on which the simulation rests, as statements
pub mod Leaves
-- a cell is counted; events of a traversal as a whole
pub mod CellsCounted
-- what loads and stores share
pub mod Shared
-- a corner is loaded
pub mod Loads
-- a corner is stored
pub mod Stores
-- the walk of a cell, from its steps
pub mod Cells
-- the corners of the root
pub mod RootCorners
-- a grid on stacks is an image
pub mod Begins
-- a traversal of a grid as it begins
pub mod Starts
-- a traversal of a grid as it ends
pub mod Ends
-- the walk by address is never stuck
pub mod Unstuck
-- a traversal of the machine is the walk by address
pub mod Traverses
-- the tally of the walk by address is the one that is foreseen
pub mod Tallied
-- with how it closes
pub mod Answers
-- a walk does the same whatever lies beneath
pub mod Beneath
-- the law of a touch
pub mod CornerLaw
-- the law of a face
pub mod FaceLaw
-- stacks without what lies beneath
pub mod Cuts
-- a cell is walked without the vertices that lie beneath
pub mod CutOff
-- and without the cells
pub mod CutCells
-- the children of the root may be walked one after another
pub mod FirstCells
-- and those of each cell that is entered
pub mod InnerCells
-- and with the last child the cell's own walk ends
pub mod LastCells
