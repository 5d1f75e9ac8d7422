-- The laws, by what they are about. Another crate cites them as `Rattle.numbers.proofs.NAME`.
-- as the code reads and writes them, and there and back
pub mod Numbers
-- what document 01 asks of numbers in bytes
pub mod Demands
