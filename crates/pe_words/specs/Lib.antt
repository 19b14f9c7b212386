-- What words name, in reading order.

-- the jobs' commands, and which job the words name
pub mod Words
-- words that are written out, and their jobs
pub mod Examples
