-- The lemmas of tokens.

-- the longest token at a place, from what its front is
pub mod Longest
-- what a text that begins with a letter, a digit or neither has at its front
pub mod Fronts
-- how the tokens of a text go on from each place
pub mod Reading
-- each token of a text is what it says
pub mod Spans
-- tokens with a space behind each
pub mod Spaced
