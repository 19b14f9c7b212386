pub mod FullCorners
pub mod Chains
pub mod Prints
pub mod Lawful
pub mod Meanings
pub mod Runs
pub mod Interrupted
