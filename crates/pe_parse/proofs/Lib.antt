-- The lemmas of reading.

-- what one token does to the frames that are open
pub mod TokenMoves
-- parts of the tokens, joined
pub mod Pieces
-- what tokens spell
pub mod Spelled
-- operands, each read as its rule says
pub mod Operands
-- chains, read link by link
pub mod Chains
-- statements, each read as its rule says
pub mod Bodies
-- statements in braces, conditions, and statements one after another
pub mod Blocks
-- a whole body
pub mod Whole
-- each body that is spelled is accepted, token by token
pub mod Accepts
-- where a token is refused, no body begins with it
pub mod Refusals
-- tokens that may come begin a body
pub mod Completes
-- tokens without a fault spell a body
pub mod FaultFree
-- tokens read by descent
pub mod Descent
-- each text has at most one tree
pub mod OneTree
-- folds over an expression, by its variants
pub mod Layers
-- what is spelled, without offsets
pub mod Unplaced
-- a body that is printed is spelled
pub mod Printing
-- and is read as itself
pub mod Again
