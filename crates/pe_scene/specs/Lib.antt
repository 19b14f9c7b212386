-- Scenarios, in reading order.

-- which events are traced
pub mod Trace
-- the bodies of events, and how they lie in a scenario
pub mod Bodies
-- the numbers of a document, and their ranges
pub mod Numbers
-- the tables of a document, and which keys they may have
pub mod Sections
-- what a reader answers
pub mod Faults
-- what the numbers of a document say
pub mod Settings
pub mod SettingsView
-- arrays of texts: events to trace, and names of fields
pub mod Texts
pub mod Fields
pub mod TextsView
-- the body of an event, from its text
pub mod BodyTexts
-- the table of bodies
pub mod BodyTable
-- what a scenario says, or the first cause of its refusal
pub mod Said
pub mod SaidView
