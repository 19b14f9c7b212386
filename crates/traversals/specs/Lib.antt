-- The effects of the mapping that follows a plan, and that they meet the law.
pub mod Effects
pub mod Law
