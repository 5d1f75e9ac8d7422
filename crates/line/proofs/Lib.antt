-- The laws, by what they are about. Another crate cites them as `Rattle.line.proofs.NAME`.
-- a line that is read, from its latitude and its longitude
pub mod Reading
-- a line that is written number by number, or as a waypoint
pub mod Writing
-- a place that was read is answered, and a line with it
pub mod Calls
-- a line as it is printed: how long it is, where its line feed is, and with which numbers it is refused
pub mod Printing
-- lines that are printed alike have the same numbers
pub mod Lines
-- a line that is made of a digit and a position is read as them, and a line that is read was so made
pub mod Made
-- what documents 01 and 02 ask of one line
pub mod Demands
