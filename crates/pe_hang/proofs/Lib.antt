-- What callers cite that follow a machine of lists.

-- records on stacks, and what is seen of them
pub mod OnStacks
-- an event of the code and of the machine
pub mod Firing
-- old and new through events
pub mod Ages
-- what stays through calls
pub mod Staying
-- calls on a depot as steps of the machine
pub mod Moving
