-- What contracts see of mappings and of their calls, in reading order.

-- what a mapping holds: its plan, its list, the text that it tells, and what a call finds of it
pub mod Held
-- what a call answers and leaves, by the effect
pub mod Answers
