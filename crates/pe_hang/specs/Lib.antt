-- How code follows a machine of lists, in reading order.

-- what a call has in hand and on stacks
pub mod InHand
-- what a call on a depot is to a machine of lists
pub mod Moves
-- a hanging vertex is made, and ends
pub mod Hanging
