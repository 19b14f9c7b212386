-- What lines rest on.

-- the words of a tally's line, one after another
pub mod TallyWords
