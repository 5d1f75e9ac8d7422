-- The laws, by what they are about. Another crate cites them as `Rattle.stream.proofs.NAME`.
-- the lines of an input
pub mod Lines
-- what is kept of a line that is begun
pub mod Keeping
-- what is printed for a line, and for the lines that end in some bytes
pub mod Printing
-- where the next line feed is
pub mod Finding
-- the loop of `feed`, and what a call promises
pub mod Feeding
-- what document 01 asks of the line program's input and output
pub mod Demands
