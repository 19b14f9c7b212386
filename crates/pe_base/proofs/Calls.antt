-- Calls one after another.

-- text that is added in several pieces
pub mod Texts
-- outcomes whose text is so added
pub mod Outcomes
-- within a body: from the start of a course to its end
pub mod Leading
-- errors that are passed on
pub mod Errors
