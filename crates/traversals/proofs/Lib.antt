-- # Depots that lack room
-- peaks that are all none
pub mod Peaks
