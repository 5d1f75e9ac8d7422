-- The laws, by what they are about. Another crate cites them as `Rattle.position.proofs.NAME`.
-- a text by its bytes, and a longitude's by a digit and a text of a latitude's form
pub mod Bytes
-- bytes tested a word at a time
mod Words
-- the bytes of minutes, seconds and thousandths as one word
mod OneWord
-- what each return of a reading answers
pub mod Reading
-- what each return of a writing answers, and leaves in the lent buffer
pub mod Writing
-- a text of the form is read as its number, and a text that is read has the form
pub mod Trip
-- what document 01 asks of positions as text
pub mod Demands
