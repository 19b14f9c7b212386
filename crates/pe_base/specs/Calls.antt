-- What calls answer and add, beside what they are to do.

-- counts of 64 bits that stay at their last value
pub mod Counters
-- where text goes, and how it grows
pub mod Told
-- how the answer of a call is that of an outcome
pub mod Outcomes
-- how the answer of a call follows a course of moves
pub mod Follows
-- kinds of courses, and what calls owe that do them
pub mod Courses
