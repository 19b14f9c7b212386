-- Facts on reading scenarios.

-- the least of the keys of a table
pub mod Keys
-- arrays
pub mod Arrays
-- the body of a text
pub mod BodyText
-- the bodies of a table
pub mod BodyLoop
-- the document of some bytes
pub mod SaidLemmas
-- no document is refused for its length
pub mod NotTooLong
-- a scenario says no more traversals than one may ask for
pub mod FewTraversals
