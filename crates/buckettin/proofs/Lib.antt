-- The laws, by what they are about.
-- C's three numbers, made a point
pub mod Points
-- what a call says that it wrote fits 4 bytes
pub mod Counts
-- what C's numbers tell of an answer
pub mod Answers
-- what document 01 asks of what C calls
pub mod Demands
