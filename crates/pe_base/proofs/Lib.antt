-- Laws of the definitions, for the proofs of every crate above.

-- lists made by `map`, `flat_map`, `filter` and `reverse`
pub mod Lists
-- tests of some item of a list
pub mod Tests
-- the event of a spelling
pub mod EventNames
-- line feeds of what lines are made of
pub mod LineFeeds
-- text that is added, and calls one after another
pub mod Calls
-- the law of effects, for those who write a mapping
pub mod Lawful
-- cells and their corners are places of events
pub mod BelowRoot
-- the walk by address
pub mod Walk
-- places, children, corners, and the order along the curve
pub mod Tree
-- the order around a vertex
pub mod Steps
-- the lists of a face
pub mod Faces
