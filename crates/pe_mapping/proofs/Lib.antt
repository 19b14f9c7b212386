-- What callers of mappings cite, and those who write one.

-- answers of events, and events one after another
pub mod Events
