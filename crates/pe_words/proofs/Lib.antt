-- What reading the words rests on.

-- what is read, by what a command finds in the words
pub mod Reading
-- what the command of `run` makes of one name
pub mod AsBefore
-- what it makes of words that are written out
pub mod WrittenOut
