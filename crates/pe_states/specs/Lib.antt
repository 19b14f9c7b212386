-- The definitions of ages.

-- the carriers of a cell's corners among the corners of its parent
pub mod Carriers
-- the ages of all corners of a cell in one number
pub mod Ages
-- ages along one axis
pub mod Sides
