-- The definitions of the rows, in reading order.

-- a toy job that reads two files
pub mod Files
