-- The laws, by what they are about. Another crate cites them as `Rattle.kinds.proofs.NAME`.
-- what an answer says of the tests before it, and how what is said determines the answer
pub mod Answers
-- a number that was tested: the width that holds it
pub mod Tested
-- a range within a wider one
pub mod Ranges
-- a part of a list of bytes: how long it is, and byte by byte
pub mod Bytes
-- bytes put at the start of a lent buffer, and after those that stand there
pub mod Writing
-- a call that hands its three numbers on
pub mod Calls
-- a local position converted by its shift
pub mod Conversion
-- what document 01 asks of refusals, lent buffers and kinds
pub mod Demands
