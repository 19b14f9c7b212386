-- What the bodies of the bench may speak of.
pub mod Mill
