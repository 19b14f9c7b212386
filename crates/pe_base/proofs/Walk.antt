-- Laws of the walk by address.

-- finite maps
pub mod MapLaws
-- slots: reading after writing
pub mod Slots
-- the corners of a cell are different
pub mod CellCorners
-- what one event sees is read as it was written
pub mod Families
-- carriers are corners of the parent
pub mod CarrierLaws
-- triggers and the state table
pub mod TableLaws
-- the results of courses, and what a course keeps
pub mod Courses
-- above the parent of a cell nothing changes
pub mod Frames
-- traversals by rules of plans that are seen through others
pub mod Plans
