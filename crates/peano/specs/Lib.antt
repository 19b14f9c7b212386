-- The definitions of the program, in reading order.

-- what the run of a job answers and writes
pub mod Job
