-- payloads that are read and written, number by number
pub mod Payloads
-- the fields of a header, one after another
pub mod HeaderFields
-- the first of some tests that finds a fault, and the first number that does not pass
pub mod Firsts
-- things that are read and written, one after another
pub mod Pieces
-- no bytes are those of two saved grids
pub mod Spelling
-- how many bytes things have, and where those of vertices lie
pub mod Sizes
-- a saved grid is the only one of its bytes, and its bytes have no fault
pub mod Whole
-- what an answer of reading says of the bytes
pub mod Answered
-- the parts that were read are those of one saved grid
pub mod Assembled
