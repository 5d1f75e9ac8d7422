-- The laws, by what they are about. Another crate cites them as `Rattle.layout.proofs.NAME`.
-- the codes of a sheet: whether they rise, and what is among them
pub mod Codes
-- the tests of a sheet, return by return
pub mod Reading
-- there and back: a sheet as it is made, and as it is read
pub mod Form
-- what document 01 asks of a sheet and of its reading
pub mod Demands
