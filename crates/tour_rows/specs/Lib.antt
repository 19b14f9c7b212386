-- The tour that counts.

-- courses that give a value
pub mod Giving
-- the tour as its calls see it
pub mod Counting
-- two of them beside each other
pub mod CountAlike
