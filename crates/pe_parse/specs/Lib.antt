-- The grammar of a body, and what the tokens up to a place leave open.

-- tokens with what they spell
pub mod Lexemes
-- the statements of a body as plain data
pub mod Statements
-- which tokens spell which tree
pub mod Grammar
-- what may come next, and what is open
pub mod Frames
-- the first fault of a list of tokens
pub mod Faults
-- how a part of the tokens is read
pub mod Reading
-- what it means that a body begins with tokens
pub mod Bodies
-- the tree of tokens
pub mod Trees
-- how a body is printed
pub mod Printed
-- what makes the grammar one reading of a text
pub mod Laws
