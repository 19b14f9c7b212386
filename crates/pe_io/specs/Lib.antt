-- The definitions of shelves and sinks, in reading order.

-- numbers of calls that are to fail
pub mod Numbers
-- what a shelf holds, and what it may answer
pub mod Shelf
-- how contents change where bytes are put under a name
pub mod Puts
-- what a shelf remembers of its calls
pub mod CallLog
-- what contracts see of the names and bytes of a shelf in memory
pub mod NamedBytes
-- what contracts see of a shelf in memory
pub mod MemShelf
-- what contracts see of a shelf in memory that never fails
pub mod SureShelf
-- what a sink's text becomes
pub mod Sink
-- what contracts see of a sink in memory
pub mod MemSink
-- what contracts see of a sink over a writer
pub mod StdSink
-- what is left in a line that is being built
pub mod Line
