-- The tokens of a text.

-- the white space, and the forms that a token may have
pub mod Forms
-- the longest token at a place, and the tokens of a text
pub mod Tokens
-- what each token of a text is
pub mod Spans
