-- What the ledger does, and the events at which it does nothing.
pub mod Quiet
