-- The ledger's effects, and that they meet the law.
pub mod Effects
pub mod Law
