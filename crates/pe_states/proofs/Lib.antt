-- Laws of ages and carriers.

-- single bits of a number, and numbers of corners by their bits
pub mod Bits
pub mod Numbers
-- ages along one axis, and along all axes in turn
pub mod SideLaws
pub mod AxisLaws
-- the carriers of a child's corners among the parent's corners
pub mod CarrierLaws
-- the corners of level 1 inside the root
pub mod BoundaryLaws
